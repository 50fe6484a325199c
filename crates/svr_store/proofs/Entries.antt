-- Edits that requests come to, with their records.
use Rattle.std.proofs.Common.{◌≡◌, false, inl, Option, refl, ap, ◌∙◌}
use Rattle.svr_edge.specs.Disk.{DiskView}
use Rattle.svr_record.specs.declared.record.Record.{Record}
use Rattle.svr_record.specs.declared.record.Record.TheVariants as entry
use Rattle.svr_request.specs.declared.refusal.Refusal.TheVariants as refusal
use Rattle.svr_request.specs.Requests.{Submitted}
use Rattle.svr_catalog.specs.Catalog.{Catalog}
use Rattle.svr_core.specs.declared.plan.Edit.{Edit}
use Rattle.svr_core.specs.declared.plan.Edit.TheVariants as edit
use Rattle.svr_core.specs.declared.plan.Entry.{Entry}
use Rattle.svr_core.specs.Edits.{counted, still_lawful}
use Rattle.svr_core.specs.Outcomes.{edits, entry_outcome, outcome_of, refused}
use Rattle.svr_core.specs.Plans.{IsEntry, IsPlain}
use Rattle.svr_core.specs.Replay.{served_after}
use Rattle.svr_core.specs.State.{Served, State}
use Rattle.svr_core.specs.Steps.{is_step}
use Rattle.svr_core.proofs.Replayed.{after_record-outcome}
use Rattle.svr_core.proofs.Taking.{plain-ready}
use Rattle.svr_store.specs.Making.{IsDueEntry}

-- such an edit is a change, and no slice
pub plain-counted : (e : Edit) → IsPlain e → counted e ≡ 1
plain-counted (edit.Schema schema) plain = refl
plain-counted (edit.Change change) plain = refl
plain-counted (edit.Load at rows) plain = refl
plain-counted edit.Begin plain = absurd plain
plain-counted (edit.Slice terms pages at) plain = absurd plain
plain-counted edit.Publish plain = absurd plain

plain-lawful : (s : Served) (e : Edit) → IsPlain e → still_lawful s e ≡ s.lawful
plain-lawful s (edit.Schema schema) plain = refl
plain-lawful s (edit.Change change) plain = refl
plain-lawful s (edit.Load at rows) plain = refl
plain-lawful s edit.Begin plain = absurd plain
plain-lawful s (edit.Slice terms pages at) plain = absurd plain
plain-lawful s edit.Publish plain = absurd plain

-- its record is no step of a merge
plain-record : (set : Option Catalog) (kept : Record) (e : Edit) (other : Record) → entry_outcome set kept ≡ edits e other → is_step kept ≡ false
unfolding entry_outcome
plain-record set (entry.Schema text) e other h = refl
plain-record set (entry.Change change) e other h = refl
plain-record set (entry.Load table header block) e other h = refl
plain-record set entry.Begin e other h = absurd (let k : refused refusal.UnknownOp ≡ edits e other = h in cc)
plain-record set (entry.Slice terms pages) e other h = absurd (let k : refused refusal.UnknownOp ≡ edits e other = h in cc)
plain-record set entry.Publish e other h = absurd (let k : refused refusal.UnknownOp ≡ edits e other = h in cc)

pub entry_due : (disk : DiskView) (s : State) (request : Submitted) (e : Entry) → IsEntry (outcome_of s.served request) s.served.catalog e
    → IsDueEntry disk s request e
entry_due disk s request e is =
    let outcome : entry_outcome s.served.catalog is.edit.entry ≡ edits e.edit is.edit.entry = is.again ∙ is.edit.outcome in
    record {
      kept = is.edit.entry;
      is_record = is.is_record;
      body = is.body;
      is_ready = plain-ready s.served e.edit is.edit.plain;
      again = after_record-outcome s.bodies s.served is.edit.entry (plain-record s.served.catalog is.edit.entry e.edit is.edit.entry outcome)
          ∙ ap (served_after s.served) outcome;
      lawful = λ known. plain-lawful s.served e.edit is.edit.plain ∙ known.lawful;
      is = inl (record { outcome = is.edit.outcome; counts = plain-counted e.edit is.edit.plain });
    }
