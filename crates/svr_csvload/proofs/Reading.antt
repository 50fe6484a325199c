-- One read takes the first of the records ahead.
use Rattle.std.proofs.Common.{◌≡◌, ◌+◌, ℕ, Bool, true, false, Bor, List, [], ◌∷◌, length}
use Rattle.std.proofs.Common.{Option, Some, None, MatchBool, refl, sym, ap, ◌∙◌, inl, arith, add-one}
use Rattle.csv.specs.Machine.{Read, next_record}
use Rattle.csv.specs.Reading.{ReadRecord, Reached, default_config, records_from, records_next}
use Rattle.csv.specs.declared.reader.Reader.{Reader}
use Rattle.csv.proofs.ReadFacts.{rows-end, rows-more}
use Rattle.svr_csvload.specs.Ahead.{IsBetween, ahead, unread}
use Rattle.svr_csvload.proofs.Between.{read-leaves, records_from-same, shorter}

abbrev left_of : Bor (List ℕ) → Option (List ℕ)
left_of s = Some s.now

-- the records of these bytes, by what the next read gives
ahead_by : (r : Reader (Bor (List ℕ))) (h : IsBetween r)
    → ahead r ≡ records_next (records_from default_config (length h.bytes)) (next_record default_config r.state [] [] h.bytes)
unfolding ahead records_from
ahead_by r h = rw (h.known, add-one) refl

ahead_known : (r : Reader (Bor (List ℕ))) (z : List ℕ) → unread r ≡ Some z → ahead r ≡ records_from default_config (length z + 1) r.state z
unfolding ahead
ahead_known r z e = rw e refl

pub one_read : (a b : Reader (Bor (List ℕ))) (found : Bool) (fields : List (List ℕ)) → IsBetween a → b.first ≡ true
    → b.flexible ≡ a.flexible → ReadRecord left_of a b found fields
    → MatchBool found (IsBetween b × (ahead a ≡ fields ∷ ahead b)) (ahead a ≡ [])
unfolding Reached
one_read a b false fields h first same_rule r =
    let e : next_record default_config a.state [] [] h.bytes ≡ None =
    rows-end left_of a b fields default_config h.bytes h.plain h.known r in
    rw (ahead_by a h, e) refl
one_read a b true fields h first same_rule r =
    let m = rows-more left_of a b fields default_config a.state h.bytes h.bytes [] h.plain h.known (refl, refl) r in
    let p : Read = m.2.0 in
    let e : next_record default_config a.state [] [] h.bytes ≡ Some p = m.2.1 in
    let less = shorter default_config a.state [] [] h.bytes p h.whole e in
    let whole = (read-leaves default_config a.state [] [] h.bytes p e).between in
    let same : p.1 ≡ b.state = m.2.3.0 in
    let rest : p.2 ≡ m.0 = m.2.3.1 in
    let go : records_from default_config (length h.bytes) p.1 p.2 ≡ ahead b =
    records_from-same default_config (length h.bytes) (length p.2 + 1) p.1 p.2 whole less (omega arith)
    ∙ rw (same, rest) (sym (ahead_known b m.0 m.1)) in (
      record {
        untrimmed = r.3 ∙ h.untrimmed;
        flexible = same_rule ∙ h.flexible;
        ready = inl first;
        plain = r.2 ∙ h.plain;
        whole = rw same at whole;
        bytes = m.0;
        known = m.1;
      },
      ahead_by a h ∙ rw e (ap (λ t. p.0 ∷ t) go) ∙ ap (λ f. f ∷ ahead b) (sym m.2.2),
    )
