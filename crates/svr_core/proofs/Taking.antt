-- Records that are read again, one more.
use Rattle.std.proofs.Common.{◌≡◌, false, List, ℕ, Option, Some, Result, Ok, Err, OnOk, sym, ap, ◌∙◌}
use Rattle.std.specs.Option.{option_and_then}
use Rattle.svr_catalog.specs.Catalog.{Catalog}
use Rattle.svr_record.specs.declared.record.Record.{Record}
use Rattle.svr_record.specs.Bodies.{body_of}
use Rattle.svr_record.specs.Grammar.{record_in}
use Rattle.svr_core.specs.declared.plan.Edit.{Edit}
use Rattle.svr_core.specs.declared.plan.Edit.TheVariants as edit
use Rattle.svr_core.specs.Edits.{served_with}
use Rattle.svr_core.specs.Kept.{CoreValue, ServesAs, catalog_of}
use Rattle.svr_core.specs.Merges.{IsReadyFor, IsUntaken, MayCome}
use Rattle.svr_core.specs.Outcomes.{entry_outcome}
use Rattle.svr_core.specs.Plans.{IsEdit, IsPlain}
use Rattle.svr_core.specs.Replay.{after_body, after_record, served_after}
use Rattle.svr_core.specs.State.{Served}
use Rattle.svr_core.specs.Steps.{TakesBody, TakesRecord, is_step}
use Rattle.svr_core.proofs.Replayed.{after_record-outcome}
use Rattle.svr_core.proofs.Standing.{pages-after}

-- ---- edits that are no steps of a merge

pub plain-ready : (s : Served) (e : Edit) → IsPlain e → IsReadyFor s e
plain-ready s (edit.Schema schema) plain = tt
plain-ready s (edit.Change change) plain = tt
plain-ready s (edit.Load at rows) plain = tt
plain-ready s edit.Begin plain = absurd plain
plain-ready s (edit.Slice terms pages at) plain = absurd plain
plain-ready s edit.Publish plain = absurd plain

pub plain-comes : (core : CoreValue) (e : Edit) → IsPlain e → MayCome core e
plain-comes core (edit.Schema schema) plain = tt
plain-comes core (edit.Change change) plain = tt
plain-comes core (edit.Load at rows) plain = tt
plain-comes core edit.Begin plain = absurd plain
plain-comes core (edit.Slice terms pages at) plain = absurd plain
plain-comes core edit.Publish plain = absurd plain

pub plain-taken : (core : CoreValue) (e : Edit) → IsPlain e → IsUntaken core e → ⊥
plain-taken core (edit.Schema schema) plain untaken = untaken
plain-taken core (edit.Change change) plain untaken = untaken
plain-taken core (edit.Load at rows) plain untaken = untaken
plain-taken core edit.Begin plain untaken = plain
plain-taken core (edit.Slice terms pages at) plain untaken = plain
plain-taken core edit.Publish plain untaken = plain

-- ---- bodies

module _ (before : List (List ℕ)) (s : Served) (body : List ℕ) (kept : Record) (found : record_in body ≡ Some kept)
    (spelled : body ≡ body_of kept) where
  abbrev by_record : Option Record → Option Served
  by_record o = option_and_then (after_record before s) o

  pub body_taken : (new : CoreValue) → TakesRecord before s new kept → TakesBody before s new body
  body_taken new taken =
      let gives = ap by_record found ∙ taken.gives in
      record {
        next = taken.next;
        gives = gives;
        serves = taken.serves;
        pages = pages-after before s taken.next body kept found spelled gives;
      }

  pub step_taken : (new : CoreValue) {X E : Type 0} (result : Result X E) → OnOk result (TakesRecord before s new kept)
      → OnOk result (TakesBody before s new body)
  step_taken new (Ok x) taken = body_taken new taken
  step_taken new (Err why) taken = tt

  -- that of an edit that is no step of a merge
  pub edit_taken : (core new : CoreValue) (e : Edit) → is_step kept ≡ false → IsEdit (entry_outcome (catalog_of core) kept) (catalog_of core) e
      → ServesAs core s → ServesAs new (served_with s e) → TakesBody before s new body
  edit_taken core new e plain is serves made =
      let gives : after_body before s body ≡ Some (served_with s e) =
      ap by_record found ∙ after_record-outcome before s kept plain
      ∙ ap (λ (c : Option Catalog). served_after s (entry_outcome c kept)) (sym serves.catalog) ∙ ap (served_after s) is.outcome in
      record {
        next = served_with s e;
        gives = gives;
        serves = made;
        pages = pages-after before s (served_with s e) body kept found spelled gives;
      }
