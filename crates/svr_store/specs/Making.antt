-- Words of private clauses: what comes of an edit whose record is kept.
use Rattle.std.specs.Prelude.{◌≡◌, ◌⊎◌, ◌+◌, ℕ, true, Some}
use Rattle.svr_edge.specs.Disk.{DiskView}
use Rattle.svr_record.specs.declared.record.Record.{Record}
use Rattle.svr_record.specs.Bodies.{body_of}
use Rattle.svr_record.specs.Limits.{IsRecord}
use Rattle.svr_request.specs.declared.reply.Fault.TheVariants as fault
use Rattle.svr_request.specs.declared.reply.Reply.{Reply}
use Rattle.svr_request.specs.declared.reply.Reply.TheVariants.{Accepted, Faulted, Left}
use Rattle.svr_request.specs.Requests.{Submitted}
use Rattle.svr_core.specs.declared.plan.Edit.{Edit}
use Rattle.svr_core.specs.declared.plan.Entry.{Entry}
use Rattle.svr_core.specs.declared.plan.Step.{Step}
use Rattle.svr_core.specs.Edits.{counted, served_with}
use Rattle.svr_core.specs.Kept.{ServesAs}
use Rattle.svr_core.specs.Merges.{IsReadyFor}
use Rattle.svr_core.specs.Outcomes.{edits, merges, outcome_of}
use Rattle.svr_core.specs.Replay.{after_record}
use Rattle.svr_core.specs.Run.{IsOfMerge, edit_due, left_in, step_due}
use Rattle.svr_core.specs.State.{Served, State}
use Rattle.svr_store.specs.declared.store.Closed.TheVariants as closed
use Rattle.svr_store.specs.Store.{KeepsState, StoreValue}

-- what an edit makes is served, and nothing else is another
pub record ServesEdit (old new : StoreValue) (e : Edit) : Type 0 where
  pub serves : (s : Served) → ServesAs old.core s → IsReadyFor s e → ServesAs new.core (served_with s e)
  pub others : new ≡ record old { core = new.core }

-- a number tells how many terms are left
abbrev pub TellsLeft : StoreValue → ℕ → Type 0
TellsLeft store n = (s : Served) → ServesAs store.core s → s.lawful ≡ true → n ≡ left_in s.listed.listing s.listed.merge

-- it is served, and a change numbered, or how many terms are left told; or memory was wanting and the store is closed
abbrev pub Makes : StoreValue → StoreValue → Edit → Reply → Type 0
Makes old new e (Accepted n) = (counted e ≡ 1) × (n ≡ old.core.changes + 1) × ServesEdit old new e
Makes old new e (Left n) = (counted e ≡ 0) × TellsLeft new n × ServesEdit old new e
Makes old new e (Faulted fault.Memory) = (new.closed ≡ Some closed.Memory) × (new.pages ≡ old.pages)
Makes old new e _ = ⊥

-- ---- what an entry is to a request

-- it is the edit that the request comes to, and a change
pub record IsOfEdit (s : State) (request : Submitted) (e : Edit) (kept : Record) : Type 0 where
  pub outcome : outcome_of s.served request ≡ edits e kept
  pub counts : counted e ≡ 1

-- it is the step of a merge that the request asks for, and the one due where the disk is known to keep the records
pub record IsOfStep (disk : DiskView) (s : State) (request : Submitted) (e : Edit) (kept : Record) : Type 0 where
  pub part : Step
  pub outcome : outcome_of s.served request ≡ merges part
  pub due : KeepsState disk s → step_due s part ≡ edit_due s e kept
  pub of_merge : IsOfMerge (step_due s part).reply

-- an edit with its record, which is accepted behind those that are there
pub record IsDueEntry (disk : DiskView) (s : State) (request : Submitted) (e : Entry) : Type 0 where
  pub kept : Record
  pub is_record : IsRecord kept
  pub body : e.body ≡ body_of kept
  pub is_ready : IsReadyFor s.served e.edit
  pub again : after_record s.bodies s.served kept ≡ Some (served_with s.served e.edit)
  pub lawful : KeepsState disk s → (served_with s.served e.edit).lawful ≡ true
  pub is : IsOfEdit s request e.edit kept ⊎ IsOfStep disk s request e.edit kept
