-- One record more that is read again.
use Rattle.std.proofs.Common.{◌≡◌, ◌≤◌, ℕ, ◌+◌, Bool, true, false, cond, List, [], ◌∷◌, ◌++◌, length, drop, Option, Some, None, option_map, Ok}
use Rattle.std.proofs.Common.{refl, sym, ap, ◌∙◌, arith, append-nil, append_assoc, length-append}
use Rattle.std.specs.Int.{to_be_bytes, w32}
use Rattle.std.specs.List.{flat_map}
use Rattle.std.specs.Option.{option_and_then}
use Rattle.std.proofs.lemmas.Grind.{flat_map-append}
use Rattle.svr_journal.specs.File.{end_of, magic, open_record}
use Rattle.svr_journal.specs.Gates.{Gate, NextAnswers, broken, gate_of, record_of, shut}
use Rattle.svr_record.specs.declared.record.Record.{Record}
use Rattle.svr_record.specs.declared.record.Record.TheVariants as entry
use Rattle.svr_record.specs.Grammar.{record_in}
use Rattle.svr_core.specs.declared.plan.Edit.{Edit}
use Rattle.svr_core.specs.declared.plan.Edit.TheVariants as edit
use Rattle.svr_core.specs.Edits.{counted, served_with, slice_with, taken_into}
use Rattle.svr_core.specs.Outcomes.{Outcome, edits, entry_outcome, merges, merges_whole, refused, searches}
use Rattle.svr_core.specs.Replay.{HasGates, after_body, after_record, may_publish, pages_place, replayed, served_after}
use Rattle.svr_core.specs.State.{Served}
use Rattle.svr_core.specs.Steps.{is_step}

-- ---- what is served

then_same : (o : Option Served) → option_and_then (λ next. Some next) o ≡ o
then_same None = refl
then_same (Some next) = refl

more_if : (o : Option Served) (f g : Served → Option Served) (now : Served) (after : Option Served)
    → ((next : Served) → f next ≡ Some now → g next ≡ after) → option_and_then f o ≡ Some now → option_and_then g o ≡ after
more_if None f g now after step h = absurd (let e : None ≡ Some now = h in cc)
more_if (Some next) f g now after step h = step next h

pub replayed-more : (before : List (List ℕ)) (s : Served) (bodies : List (List ℕ)) (body : List ℕ) (now : Served)
    → replayed before s bodies ≡ Some now → replayed before s (bodies ++ body ∷ []) ≡ after_body (before ++ bodies) now body
unfolding replayed
replayed-more before s [] body now h =
    let same : s ≡ now = let e : Some s ≡ Some now = h in cc in
    then_same (after_body before s body) ∙ ap (λ t. after_body before t body) same
    ∙ ap (λ (bs : List (List ℕ)). after_body bs now body) (sym (append-nil before))
replayed-more before s (b ∷ bodies) body now h =
    more_if (after_body before s b) (λ next. replayed (before ++ b ∷ []) next bodies) (λ next. replayed (before ++ b ∷ []) next (bodies ++ body ∷ [])) now
    (after_body (before ++ b ∷ bodies) now body)
    (λ next e. replayed-more (before ++ b ∷ []) next bodies body now e
    ∙ ap (λ (bs : List (List ℕ)). after_body bs now body) (append_assoc before (b ∷ []) bodies)) h

pub replayed-none : (before : List (List ℕ)) (s : Served) → replayed before s [] ≡ Some s
unfolding replayed
replayed-none before s = refl

-- ---- how many changes

counted-few : (e : Edit) → counted e ≤ 1
counted-few (edit.Schema s) = omega arith
counted-few (edit.Change change) = omega arith
counted-few (edit.Load at rows) = omega arith
counted-few edit.Begin = omega arith
counted-few (edit.Slice terms pages at) = omega arith
counted-few edit.Publish = omega arith

numbered_with : (s next : Served) (e : Edit) → Some (served_with s e) ≡ Some next → next.changes ≤ s.changes + 1
numbered_with s next e h =
    let same : served_with s e ≡ next = let k : Some (served_with s e) ≡ Some next = h in cc in
    omega (arith, ap (λ (t : Served). t.changes) same, counted-few e)

numbered_by : (s next : Served) (o : Outcome) → served_after s o ≡ Some next → next.changes ≤ s.changes + 1
numbered_by s next (refused why) h = absurd (let e : None ≡ Some next = h in cc)
numbered_by s next (searches terms m k) h = absurd (let e : None ≡ Some next = h in cc)
numbered_by s next (edits made kept) h = numbered_with s next made h
numbered_by s next (merges part) h = absurd (let e : None ≡ Some next = h in cc)
numbered_by s next merges_whole h = absurd (let e : None ≡ Some next = h in cc)

numbered_map : {X : Type 0} (s next : Served) (e : Edit) (o : Option X) → option_map (λ _. served_with s e) o ≡ Some next
    → next.changes ≤ s.changes + 1
numbered_map s next e None h = absurd (let k : None ≡ Some next = h in cc)
numbered_map s next e (Some x) h = numbered_with s next e h

numbered_if : (s next : Served) (e : Edit) (b : Bool) → cond b (Some (served_with s e)) None ≡ Some next → next.changes ≤ s.changes + 1
numbered_if s next e true h = numbered_with s next e h
numbered_if s next e false h = absurd (let k : None ≡ Some next = h in cc)

numbered_record : (before : List (List ℕ)) (s next : Served) (kept : Record) → after_record before s kept ≡ Some next → next.changes ≤ s.changes + 1
numbered_record before s next (entry.Schema text) h = numbered_by s next (entry_outcome s.catalog (entry.Schema text)) h
numbered_record before s next (entry.Change change) h = numbered_by s next (entry_outcome s.catalog (entry.Change change)) h
numbered_record before s next (entry.Load table header block) h = numbered_by s next (entry_outcome s.catalog (entry.Load table header block)) h
numbered_record before s next entry.Begin h = numbered_map s next edit.Begin s.catalog h
numbered_record before s next (entry.Slice terms pages) h =
    let at = pages_place before terms pages in
    numbered_map s next (edit.Slice terms pages at) (taken_into s.listed (slice_with terms pages) at) h
numbered_record before s next entry.Publish h = numbered_if s next edit.Publish (may_publish s) h

numbered_option : (before : List (List ℕ)) (s next : Served) (o : Option Record) → option_and_then (after_record before s) o ≡ Some next
    → next.changes ≤ s.changes + 1
numbered_option before s next None h = absurd (let e : None ≡ Some next = h in cc)
numbered_option before s next (Some kept) h = numbered_record before s next kept h

-- a record more is a change more at most
pub after_body-numbered : (before : List (List ℕ)) (s next : Served) (body : List ℕ) → after_body before s body ≡ Some next
    → next.changes ≤ s.changes + 1
after_body-numbered before s next body h = numbered_option before s next (record_in body) h

-- ---- records

-- a record of no step of a merge comes to its outcome
pub after_record-outcome : (before : List (List ℕ)) (s : Served) (kept : Record) → is_step kept ≡ false
    → after_record before s kept ≡ served_after s (entry_outcome s.catalog kept)
after_record-outcome before s (entry.Schema text) h = refl
after_record-outcome before s (entry.Change change) h = refl
after_record-outcome before s (entry.Load table header block) h = refl
after_record-outcome before s entry.Begin h = absurd cc
after_record-outcome before s (entry.Slice terms pages) h = absurd cc
after_record-outcome before s entry.Publish h = absurd cc

-- ---- places

pub HasGates-more : (bytes : List ℕ) (place : ℕ) (bodies : List (List ℕ)) (body : List ℕ) (end : ℕ) → HasGates bytes place bodies end
    → gate_of (drop end bytes) ≡ record_of body → HasGates bytes place (bodies ++ body ∷ []) (end + 5 + length body)
HasGates-more bytes place [] body end is gate =
    (ap (λ p. gate_of (drop p bytes)) is ∙ gate, ap (λ p. p + 5 + length body) is)
HasGates-more bytes place (b ∷ bodies) body end h gate =
    (h.0, HasGates-more bytes (place + 5 + length b) bodies body end h.1 gate)

pub end_of-more : (bodies : List (List ℕ)) (body : List ℕ) → end_of (bodies ++ body ∷ []) ≡ end_of bodies + 5 + length body
end_of-more bodies body =
    let all = ap length (flat_map-append open_record bodies (body ∷ [])) in
    let parts = length-append (flat_map open_record bodies) (flat_map open_record (body ∷ [])) in
    let last = length-append (open_record body) [] in
    let piece = length-append (to_be_bytes w32 (length body)) body in
    omega (
      arith,
      all,
      parts,
      last,
      piece,
      length-append magic (flat_map open_record bodies),
      length-append magic (flat_map open_record (bodies ++ body ∷ [])),
    )

-- ---- what stands at a gate

pub next_record : (gate : Gate) (at found : ℕ) (body : List ℕ) → NextAnswers gate at (Ok (Some found)) body → gate ≡ record_of body
next_record shut at found body h = absurd (let e : Some found ≡ None = h in cc)
next_record broken at found body h = absurd h
next_record (record_of b) at found body h = ap record_of (sym h.1)
