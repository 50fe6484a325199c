-- The steps of a merge, as they are planned and made.
use Rattle.std.specs.Prelude.{◌≡◌, ◌≤◌, ◌+◌, ◌-◌, ◌++◌, ⊤, ℕ, true, List, [], length, Option, None, Some, Result}
use Rattle.std.specs.Option.{IsSome, option_and_then}
use Rattle.svr_iter.specs.Asked.{Stops}
use Rattle.svr_iter.specs.declared.fault.ScanFault.{ScanFault}
use Rattle.svr_journal.specs.File.{IsBody}
use Rattle.svr_listing.specs.Kept.{HoldsPosted}
use Rattle.svr_listing.specs.Merges.{Merge, terms_left}
use Rattle.svr_listing.specs.declared.pages.TermPages.{TermPages}
use Rattle.svr_lists.specs.Taken.{taken_of}
use Rattle.svr_lists.specs.declared.slice.Slice.{Slice}
use Rattle.svr_postpage.specs.Reading.{InTurn}
use Rattle.svr_postpage.specs.Wanted.{pairs_told}
use Rattle.svr_postpage.specs.declared.page_ref.PageFault.{PageFault}
use Rattle.svr_postpage.specs.declared.page_ref.PageRef.{PageRef}
use Rattle.svr_record.specs.declared.record.Record.{Record}
use Rattle.svr_record.specs.declared.record.Record.TheVariants as entry
use Rattle.svr_record.specs.Bodies.{body_of}
use Rattle.svr_record.specs.Limits.{IsRecord}
use Rattle.svr_request.specs.declared.refusal.Refusal.{Refusal}
use Rattle.svr_request.specs.declared.refusal.Refusal.TheVariants as refusal
use Rattle.svr_request.specs.declared.reply.Reply.TheVariants.{Refused}
use Rattle.svr_core.specs.declared.plan.Edit.{Edit}
use Rattle.svr_core.specs.declared.plan.Edit.TheVariants as edit
use Rattle.svr_core.specs.declared.plan.Entry.{Entry}
use Rattle.svr_core.specs.declared.plan.Step.{Step}
use Rattle.svr_core.specs.declared.plan.Step.TheVariants as step
use Rattle.svr_core.specs.Edits.{Accepts, IsPlaced, served_with, slice_with}
use Rattle.svr_core.specs.Kept.{CoreValue, ServesAs, catalog_of, last_of}
use Rattle.svr_core.specs.Replay.{after_record}
use Rattle.svr_core.specs.Run.{IsOfMerge, answer_due, edit_due, pages_for, step_due, terms_reply}
use Rattle.svr_core.specs.State.{Served, State}

-- the terms of a slice with their pages, if it may come behind the last sliced term of a merge that is begun
abbrev pub taken_behind : Option (Option (List ℕ)) → Slice → ℕ → Option (List TermPages)
taken_behind last slice at = option_and_then (λ t. taken_of t slice at) last

-- a slice may come next; of other edits nothing is asked
abbrev pub MayCome : CoreValue → Edit → Type 0
MayCome core (edit.Slice terms pages at) = IsSome (taken_behind (last_of core) (slice_with terms pages) at)
MayCome core (edit.Schema s) = ⊤
MayCome core (edit.Change change) = ⊤
MayCome core (edit.Load at rows) = ⊤
MayCome core edit.Begin = ⊤
MayCome core edit.Publish = ⊤

-- the edit is a slice that may not come next
abbrev pub IsUntaken : CoreValue → Edit → Type 0
IsUntaken core (edit.Slice terms pages at) = taken_behind (last_of core) (slice_with terms pages) at ≡ None
IsUntaken core (edit.Schema s) = ⊥
IsUntaken core (edit.Change change) = ⊥
IsUntaken core (edit.Load at rows) = ⊥
IsUntaken core edit.Begin = ⊥
IsUntaken core edit.Publish = ⊥

-- where each slice was the next one, a merge has no term left when it is published; of other edits nothing is asked
abbrev pub IsReadyFor : Served → Edit → Type 0
IsReadyFor s edit.Publish = s.lawful ≡ true → (m : Merge) → s.listed.merge ≡ Some m → terms_left s.listed.listing m ≡ []
IsReadyFor s (edit.Schema _) = ⊤
IsReadyFor s (edit.Change change) = ⊤
IsReadyFor s (edit.Load at rows) = ⊤
IsReadyFor s edit.Begin = ⊤
IsReadyFor s (edit.Slice terms pages at) = ⊤

-- an entry may be made, once its record is kept
pub record MayCommit (core : CoreValue) (e : Entry) : Type 0 where
  pub accepted : Accepts (catalog_of core) e.edit
  pub may_come : MayCome core e.edit
  pub size : IsBody e.body

-- the entry of a step that may be made, whose record is accepted, and is the one due where that is known
pub record IsStepEntry (known : Type 0) (core : CoreValue) (s : State) (part : Step) (e : Entry) : Type 0 where
  pub kept : Record
  pub is_record : IsRecord kept
  pub body : e.body ≡ body_of kept
  pub is_ready : IsReadyFor s.served e.edit
  pub again : after_record s.bodies s.served kept ≡ Some (served_with s.served e.edit)
  pub due : known → step_due s part ≡ edit_due s e.edit kept
  pub lawful : known → (served_with s.served e.edit).lawful ≡ true
  pub of_merge : IsOfMerge (step_due s part).reply

-- a step is refused so; whether a term is left is said where each slice was the next one
abbrev pub RefusesStep : State → Step → Refusal → Type 0
RefusesStep s part refusal.Memory = ⊤
RefusesStep s part refusal.MergeUnbuilt =
    (s.served.lawful ≡ true → step_due s part ≡ answer_due (Refused refusal.MergeUnbuilt)) × IsOfMerge (step_due s part).reply
RefusesStep s part why = step_due s part ≡ answer_due (Refused why)

-- ---- slices

-- the record is that of a slice
abbrev pub IsSliceRecord : Record → Type 0
IsSliceRecord (entry.Slice terms pages) = ⊤
IsSliceRecord _ = ⊥

-- it ends behind its pages
abbrev pub SliceEnds : Record → ℕ → Type 0
SliceEnds (entry.Slice terms pages) end = length pages ≤ end
SliceEnds _ end = ⊤

-- the edit of a slice's record that ends at a place
abbrev pub IsEditOf : Record → ℕ → Edit → Type 0
IsEditOf (entry.Slice terms pages) end e = e ≡ edit.Slice terms pages (end - length pages)
IsEditOf _ end e = ⊤

-- the entry of a slice whose record comes behind a journal that ends at that place
pub record IsSliceEntry (slice : Slice) (end : ℕ) (e : Entry) : Type 0 where
  pub edit_is : e.edit ≡ edit.Slice slice.terms slice.pages (end + 5 + length (body_of (entry.Slice slice.terms slice.pages)) - length slice.pages)
  pub body : e.body ≡ body_of (entry.Slice slice.terms slice.pages)
  pub is_record : IsRecord (entry.Slice slice.terms slice.pages)
  pub size : IsBody e.body
  pub placed : IsPlaced slice.terms slice.pages (end + 5 + length (body_of (entry.Slice slice.terms slice.pages)) - length slice.pages)

-- what is told holds the posted pairs of what is served, in which each slice was the next one
pub record IsKnown (told : Option (List ℕ)) (s : Served) : Type 0 where
  pub lawful : s.lawful ≡ true
  pub bytes : List ℕ
  pub is : told ≡ Some bytes
  pub holds : HoldsPosted (pairs_told bytes) s.listed.listing

-- the step of a slice is planned, or there is none
abbrev pub PlansSlice : Option (List ℕ) → CoreValue → State → ℕ → Option Entry → Type 0
PlansSlice told core s most (Some e) = IsStepEntry (IsKnown told s.served) core s (step.Slice most) e
PlansSlice told core s most None = (IsKnown told s.served → step_due s (step.Slice most) ≡ answer_due (terms_reply s.served))
    × IsOfMerge (step_due s (step.Slice most)).reply

-- pages were asked for in turn, each once: where it is known they are those of the terms that the slice takes, or the first ones of them
pub record AsksSliced {R T : Type 0} (told : Option (List ℕ)) (gives : R → PageRef → R → Type 0) (fails : R → PageRef → PageFault → R → Type 0)
    (core : CoreValue) (most : ℕ) (old new : R) (result : Result T ScanFault) : Type 0 where
  pub given : List PageRef
  pub left : List PageRef
  pub between : R
  pub in_turn : InTurn gives given old between
  pub stops : Stops fails left between new result
  pub are_needed : (s : Served) → ServesAs core s → IsKnown told s
      → (others : List PageRef) × ((given ++ left) ++ others ≡ pages_for s (step.Slice most))
