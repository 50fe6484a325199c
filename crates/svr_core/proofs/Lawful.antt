-- Where each slice was the next one of its merge in all records, it was so in the first ones of them.
use Rattle.std.proofs.Common.{◌≡◌, ℕ, true, List, [], ◌∷◌, ◌++◌, None, Some, ap, ◌∙◌}
use Rattle.std.proofs.lemmas.Bool.{and_parts}
use Rattle.svr_record.specs.declared.record.Record.{Record}
use Rattle.svr_record.specs.declared.record.Record.TheVariants as entry
use Rattle.svr_record.specs.Grammar.{record_in}
use Rattle.svr_core.specs.declared.plan.Edit.{Edit}
use Rattle.svr_core.specs.declared.plan.Edit.TheVariants as edit
use Rattle.svr_core.specs.Edits.{served_with, slice_with, still_lawful, taken_into}
use Rattle.svr_core.specs.Outcomes.{Outcome, edits, entry_outcome, merges, merges_whole, refused, searches}
use Rattle.svr_core.specs.Replay.{after_body, after_record, may_publish, pages_place, replayed, served_after}
use Rattle.svr_core.specs.State.{Served}
use Rattle.svr_core.proofs.Standing.{if_some, map_some, then_some}

-- an edit never makes it so again
edit_lawful : (s : Served) (e : Edit) → still_lawful s e ≡ true → s.lawful ≡ true
edit_lawful s (edit.Slice terms pages at) h = (and_parts s.lawful _ h).0
edit_lawful s (edit.Schema schema) h = h
edit_lawful s (edit.Change change) h = h
edit_lawful s (edit.Load at rows) h = h
edit_lawful s edit.Begin h = h
edit_lawful s edit.Publish h = h

next_lawful : (s next : Served) (e : Edit) → Some (served_with s e) ≡ Some next → next.lawful ≡ true → s.lawful ≡ true
next_lawful s next e is h =
    let same : served_with s e ≡ next = let k : Some (served_with s e) ≡ Some next = is in cc in
    edit_lawful s e (ap (λ (v : Served). v.lawful) same ∙ h)

outcome_lawful : (s next : Served) (o : Outcome) → served_after s o ≡ Some next → next.lawful ≡ true → s.lawful ≡ true
outcome_lawful s next (refused why) is h = absurd (let e : None ≡ Some next = is in cc)
outcome_lawful s next (searches terms m k) is h = absurd (let e : None ≡ Some next = is in cc)
outcome_lawful s next (edits made kept) is h = next_lawful s next made is h
outcome_lawful s next (merges part) is h = absurd (let e : None ≡ Some next = is in cc)
outcome_lawful s next merges_whole is h = absurd (let e : None ≡ Some next = is in cc)

record_lawful : (before : List (List ℕ)) (s next : Served) (kept : Record) → after_record before s kept ≡ Some next → next.lawful ≡ true
    → s.lawful ≡ true
record_lawful before s next (entry.Schema text) is h = outcome_lawful s next (entry_outcome s.catalog (entry.Schema text)) is h
record_lawful before s next (entry.Change change) is h = outcome_lawful s next (entry_outcome s.catalog (entry.Change change)) is h
record_lawful before s next (entry.Load table header block) is h =
    outcome_lawful s next (entry_outcome s.catalog (entry.Load table header block)) is h
record_lawful before s next entry.Begin is h =
    let made = map_some s.catalog (λ _. served_with s edit.Begin) next is in
    next_lawful s next edit.Begin (ap Some made.1.1) h
record_lawful before s next (entry.Slice terms pages) is h =
    let at = pages_place before terms pages in
    let made = map_some (taken_into s.listed (slice_with terms pages) at) (λ _. served_with s (edit.Slice terms pages at)) next is in
    next_lawful s next (edit.Slice terms pages at) (ap Some made.1.1) h
record_lawful before s next entry.Publish is h =
    next_lawful s next edit.Publish (if_some (may_publish s) (Some (served_with s edit.Publish)) next is) h

pub replayed-lawful : (before : List (List ℕ)) (s next : Served) (bodies : List (List ℕ)) → replayed before s bodies ≡ Some next
    → next.lawful ≡ true → s.lawful ≡ true
unfolding replayed
replayed-lawful before s next [] is h =
    let same : s ≡ next = let e : Some s ≡ Some next = is in cc in
    ap (λ (v : Served). v.lawful) same ∙ h
replayed-lawful before s next (body ∷ bodies) is h =
    let step = then_some (after_body before s body) (λ next. replayed (before ++ body ∷ []) next bodies) next is in
    let says = then_some (record_in body) (after_record before s) step.0 step.1.0 in
    record_lawful before s step.0 says.0 says.1.1 (replayed-lawful (before ++ body ∷ []) step.0 next bodies step.1.1 h)
