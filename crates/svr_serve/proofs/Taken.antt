-- A line and the block behind it, as they were taken from the input.
use Rattle.std.proofs.Common.{◌≡◌, inl, inr, ℕ, ◌<◌, ◌≤◌, Bool, true, false, List, [], ◌∷◌, ◌++◌, length, drop, nat_lt, if◌then◌else◌}
use Rattle.std.proofs.Common.{refl, sym, ap, ap₂, ◌∙◌, subst, arith, append_assoc, append-nil, length-append, Option, Result}
use Rattle.std.proofs.KnownBytes.{Consumes-trans}
use Rattle.std.proofs.lemmas.Bool.Decides.{nat_tests}
use Rattle.std.specs.List.{filter_map}
use Rattle.std.proofs.lemmas.List.{length-take-le, take-append-le}
use Rattle.std.proofs.Math.Seq.{drop-append_seam}
use Rattle.svr_lines.specs.declared.lines.InputStop.{InputStop}
use Rattle.svr_lines.specs.declared.lines.InputStop.TheVariants as stop
use Rattle.svr_lines.specs.Pieces.{HandsOut, IsLast, IsPiece}
use Rattle.svr_lines.specs.Stops.{StopsInBlock, StopsInLine}
use Rattle.svr_lines.specs.Reading.{KnowsEnd, Reading, Reads, taken_bytes}
use Rattle.svr_lines.proofs.Stream.{Reads-then, taken_bytes-reads}
use Rattle.svr_request.specs.declared.refusal.Refusal.{Refusal}
use Rattle.svr_request.specs.Requests.{Wanted, with_block}
use Rattle.svr_serve.specs.declared.ending.Ending.{Ending}
use Rattle.svr_serve.specs.declared.ending.Ending.TheVariants as ending
use Rattle.svr_serve.specs.Input.{block_before, block_size, cut, last, line_request, parts_of, submitted, whole, whole_in, whole_requests}
use Rattle.svr_serve.specs.Layout.{CutsBlock, EndsCut, HoldsWhole, StopsBlock, StopsReading, StopsShort, TakesWholeBlock, TakesNext, TakesRequest, ending_of}
use Rattle.svr_serve.proofs.Parts.{parts_behind, parts_of-last, parts_of-piece, whole_requests-open}

no_bytes : (bytes : List ℕ) → length bytes ≡ 0 → bytes ≡ []
no_bytes [] h = refl
no_bytes (b ∷ bytes) h = absurd (omega (arith, h))

not_true : (b : Bool) → (b ≡ true → ⊥) → b ≡ false
not_true true h = absurd (h refl)
not_true false h = refl

by_cases : (b : Bool) (P : Type 0) → (b ≡ true → P) → (b ≡ false → P) → P
by_cases true P f g = f refl
by_cases false P f g = g refl

-- ---- the block behind a line

block_before-append : (size : ℕ) (gone more : List ℕ) → length gone ≡ size → block_before size (gone ++ more) ≡ block_before size gone
block_before-append size gone more h = let few : size ≤ length gone = omega (arith, h) in rw take-append-le refl

drop_front : (size : ℕ) (gone more : List ℕ) → length gone ≡ size → drop size (gone ++ more) ≡ more
drop_front size gone more h = ap (λ n. drop n (gone ++ more)) (sym h) ∙ drop-append_seam gone more

-- the block is there
behind_block : (line gone more : List ℕ) → length gone ≡ block_size line
    → parts_behind line (gone ++ more) ≡ whole (with_block (line_request line) (block_before (block_size line) gone)) ∷ parts_of more
behind_block line gone more h =
    let there : nat_lt (length (gone ++ more)) (block_size line) ≡ false = grind (arith, nat_tests, h, length-append gone more) in
    rw (there, block_before-append (block_size line) gone more h, drop_front (block_size line) gone more h) refl

-- it isn't
short_block : (line behind : List ℕ) → length behind < block_size line → parts_behind line behind ≡ cut ∷ []
short_block line behind h =
    let short : nat_lt (length behind) (block_size line) ≡ true = grind (arith, nat_tests, h) in rw short refl

block_short : (size : ℕ) (gone : List ℕ) → length gone ≡ size → length (block_before size gone) ≤ 8388608
block_short size gone h = by_cases (nat_lt 8388608 size) (length (block_before size gone) ≤ 8388608)
    (λ is. rw is (omega arith))
    (λ is. let small : size ≤ 8388608 = grind (arith, nat_tests, is) in
    rw is (omega (arith, small, length-take-le size gone (omega (arith, h)))))

-- ---- a line that was taken, and what is behind it

module _ (before mid after : Option (List ℕ)) (old line_read new : Reading) (request : Result Wanted Refusal) (size : ℕ)
    (n : TakesNext before mid old line_read request size) where
  -- the bytes of the line and of those behind it
  with_behind : (gone bytes : List ℕ) → Reads mid after line_read new gone bytes → Reads before after old new (n.gone ++ gone) (n.bytes ++ bytes)
  with_behind gone bytes r = Reads-then before mid after old line_read new n.gone gone n.bytes bytes n.reads r

  at_end : new.ended ≡ true → KnowsEnd new after → IsLast new after
  at_end is known = record { ended = is; ahead = (known is).0; source = (known is).1 }

  within : (line_read.ended ≡ true → (new.ended ≡ true) × (taken_bytes new ≡ taken_bytes line_read))
      → (line_read.ended ≡ false → new.ended ≡ true → taken_bytes new < new.limit) → new.limit ≡ line_read.limit
      → new.ended ≡ true → taken_bytes new < new.limit
  within ended less limit now = by_cases line_read.ended (taken_bytes new < new.limit)
      (λ is. omega (arith, n.before_limit is, (ended is).1, limit)) (λ isnt. less isnt now)

  holds : (gone : List ℕ) → length gone ≡ size → IsPiece n.gone n.line (10 ∷ [])
      → HoldsWhole (n.gone ++ gone) (with_block request (block_before size gone))
  holds gone count piece more =
      ap parts_of (append_assoc n.gone gone more) ∙ parts_of-piece n.gone n.line (gone ++ more) piece
      ∙ behind_block n.line gone more (count ∙ n.size_is)
      ∙ ap₂ (λ r k. whole (with_block r (block_before k gone)) ∷ parts_of more) (sym n.is) (sym n.size_is)

  -- a last line, which has no block
  holds_last : (gone : List ℕ) → length gone ≡ size → size ≡ 0 → IsPiece n.gone n.line []
      → parts_of (n.gone ++ gone) ≡ last (with_block request (block_before size gone)) ∷ []
  holds_last gone count none piece =
      let nil = no_bytes gone (count ∙ none) in
      ap (λ g. parts_of (n.gone ++ g)) nil ∙ ap parts_of (append-nil n.gone) ∙ parts_of-last n.gone n.line piece
      ∙ ap (λ k. (if nat_lt 0 k then cut else last (with_block (line_request n.line) (block_before k []))) ∷ []) (sym n.size_is ∙ none)
      ∙ ap₂ (λ r k. last (with_block r (block_before k [])) ∷ []) (sym n.is) (sym none)
      ∙ ap (λ g. last (with_block request (block_before size g)) ∷ []) (sym nil)

  -- the block was taken
  pub takes_request : TakesWholeBlock mid after line_read new size → KnowsEnd new after
      → (line_read.ended ≡ true → (new.ended ≡ true) × (taken_bytes new ≡ taken_bytes line_read))
      → (line_read.ended ≡ false → new.ended ≡ true → taken_bytes new < new.limit)
      → TakesRequest before after old new (with_block request new.block)
  takes_request b known ended less = record {
    gone = n.gone ++ b.gone;
    bytes = n.bytes ++ b.bytes;
    reads = with_behind b.gone b.bytes b.reads;
    part = elim n.hands_out [
      | inl fed ↦ inl (subst (λ (block : List ℕ). HoldsWhole (n.gone ++ b.gone) (with_block request block)) (sym b.block)
          (holds b.gone b.count fed.1))
      | inr end ↦ inr (
        at_end (ended end.0.ended).0 known,
        subst (λ (block : List ℕ). parts_of (n.gone ++ b.gone) ≡ last (with_block request block) ∷ []) (sym b.block)
            (holds_last b.gone b.count (b.at_end end.0.ended) end.1),
      )
    ];
    short = subst (λ (block : List ℕ). length block ≤ 8388608) (sym b.block) (block_short size b.gone b.count);
    open_end = n.open_end;
    known_end = known;
    progress = omega (arith, n.progress, b.reads.handed);
    before_limit = within ended less b.reads.limit;
  }

  -- the input ended before the block did
  cut_last : (gone : List ℕ) → length gone < size → length gone ≡ 0 → IsPiece n.gone n.line [] → parts_of (n.gone ++ gone) ≡ cut ∷ []
  cut_last gone few none piece =
      let some : nat_lt 0 (block_size n.line) ≡ true = grind (arith, nat_tests, few, n.size_is) in
      ap (λ g. parts_of (n.gone ++ g)) (no_bytes gone none) ∙ ap parts_of (append-nil n.gone) ∙ parts_of-last n.gone n.line piece
      ∙ ap (λ b. (if b then cut else last (submitted n.line [])) ∷ []) some

  pub ends_cut : CutsBlock mid after line_read new size
      → (line_read.ended ≡ true → (new.ended ≡ true) × (taken_bytes new ≡ taken_bytes line_read))
      → (line_read.ended ≡ false → new.ended ≡ true → taken_bytes new < new.limit) → EndsCut before after old new
  ends_cut b ended less = record {
    gone = n.gone ++ b.gone;
    bytes = n.bytes ++ b.bytes;
    reads = with_behind b.gone b.bytes b.reads;
    part = elim n.hands_out [
      | inl fed ↦ parts_of-piece n.gone n.line b.gone fed.1 ∙ short_block n.line b.gone (omega (arith, b.few, n.size_is))
      | inr end ↦ let same = (ended end.0.ended).1 in
          cut_last b.gone b.few (omega (arith, b.reads.handed, same, ap length end.0.ahead)) end.1
    ];
    last = b.last;
    open_end = n.open_end;
    before_limit = within ended less b.reads.limit b.last.ended;
  }

  -- reading stopped in the block
  none_whole : (bytes : List ℕ) → line_read.ended ≡ false → length (line_read.ahead ++ bytes) < size
      → whole_requests (old.ahead ++ (n.bytes ++ bytes)) ≡ []
  none_whole bytes open_end few = elim n.hands_out [
    | inl fed ↦ ap whole_requests (sym (append_assoc old.ahead n.bytes bytes) ∙ ap (λ xs. xs ++ bytes) (sym n.reads.ahead)
        ∙ append_assoc n.gone line_read.ahead bytes)
        ∙ ap (filter_map whole_in) (parts_of-piece n.gone n.line (line_read.ahead ++ bytes) fed.1
        ∙ short_block n.line (line_read.ahead ++ bytes) (omega (arith, few, n.size_is)))
    | inr end ↦ let is = end.0.ended in absurd (cc)
  ]

  pub stops_in_block : (bytes : List ℕ) → line_read.ended ≡ false → StopsInBlock mid after line_read new size bytes
      → StopsShort before after old new
  stops_in_block bytes open_end p = record {
    bytes = n.bytes ++ bytes;
    consumed = Consumes-trans before mid after n.bytes bytes n.reads.consumed p.consumed;
    taken = omega (arith, p.taken, taken_bytes-reads before mid old line_read n.gone n.bytes n.reads, length-append n.bytes bytes);
    limit = p.limit ∙ n.reads.limit;
    none = none_whole bytes open_end p.none;
    open_end = n.open_end;
  }

  -- the block couldn't be taken
  pub stops_on : (e : Ending) → StopsBlock e mid after line_read new size
      → (line_read.ended ≡ true → (new.ended ≡ true) × (taken_bytes new ≡ taken_bytes line_read))
      → (e ≡ ending.Cut → line_read.ended ≡ false → new.ended ≡ true → taken_bytes new < new.limit) → StopsReading e before after old new
  stops_on ending.Input p ended less = stops_in_block p.1 p.0 p.2
  stops_on ending.Bytes p ended less = stops_in_block p.1 p.0 p.2
  stops_on ending.Cut p ended less = ends_cut p ended (less refl)
  stops_on ending.Memory p ended less = absurd p
  stops_on ending.Output p ended less = absurd p
  stops_on ending.Complete p ended less = absurd p
  stops_on ending.Words p ended less = absurd p
  stops_on ending.Write p ended less = absurd p
  stops_on ending.Device p ended less = absurd p
  stops_on (ending.Journal at) p ended less = absurd p

-- reading stopped in a line
pub stops_in_line : (before after : Option (List ℕ)) (old new : Reading) (bytes : List ℕ) → (old.ended ≡ true → ⊥)
    → StopsInLine before after old new bytes → StopsShort before after old new
stops_in_line before after old new bytes more p = record {
  bytes = bytes;
  consumed = p.consumed;
  taken = p.taken;
  limit = p.limit;
  none = whole_requests-open (old.ahead ++ bytes) p.none;
  open_end = not_true old.ended more;
}

pub stops_reading : (s : InputStop) (before after : Option (List ℕ)) (old new : Reading) → StopsShort before after old new
    → StopsReading (ending_of s) before after old new
stops_reading stop.Input before after old new p = p
stops_reading stop.Bytes before after old new p = p

-- a line was handed out
pub takes_next : (before after : Option (List ℕ)) (old new : Reading) (gone bytes line : List ℕ)
    → Reads before after old new gone bytes → HandsOut gone line new after → (old.ended ≡ true → ⊥)
    → KnowsEnd new after → old.handed < new.handed
    → (old.ended ≡ false → new.ended ≡ true → taken_bytes new < new.limit)
    → TakesNext before after old new (line_request line) (block_size line)
takes_next before after old new gone bytes line reads hands_out more known_end progress less =
    let open_end = not_true old.ended more in record {
      gone = gone;
      bytes = bytes;
      line = line;
      reads = reads;
      hands_out = hands_out;
      is = refl;
      size_is = refl;
      open_end = open_end;
      known_end = known_end;
      progress = progress;
      before_limit = less open_end;
    }
