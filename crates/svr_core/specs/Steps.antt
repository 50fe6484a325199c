-- Words of private clauses: what the parts of the program answer, beside the outcome of a request.
use Rattle.std.specs.Prelude.{◌≡◌, ◌⊎◌, ◌<◌, ◌^◌, ◌+◌, ◌++◌, ℕ, Bool, true, false, List, [], ◌∷◌, length, Option, None, Some, option_map, Result, Err, IfErr, IfOk}
use Rattle.std.specs.Option.{ForSome, option_and_then}
use Rattle.svr_catalog.specs.Stands.{CatalogValue, Stands}
use Rattle.svr_lists.specs.Lists.{last_in}
use Rattle.svr_lists.specs.declared.taken.SliceFault.{SliceFault}
use Rattle.svr_lists.specs.declared.taken.SliceFault.TheVariants as slice
use Rattle.svr_journal.specs.File.{end_of}
use Rattle.svr_record.specs.declared.record.Record.{Record}
use Rattle.svr_record.specs.declared.record.Record.TheVariants as entry
use Rattle.svr_request.specs.declared.refusal.Refusal.{Refusal}
use Rattle.svr_request.specs.declared.refusal.Refusal.TheVariants as refusal
use Rattle.svr_csvload.specs.declared.refusal.CsvRefusal.{CsvRefusal}
use Rattle.svr_csvload.specs.declared.refusal.CsvRefusal.TheVariants as csv
use Rattle.svr_journal.specs.declared.faults.JournalError.{JournalError}
use Rattle.svr_journal.specs.declared.faults.JournalError.TheVariants as error_of
use Rattle.svr_rows.specs.declared.change.Change.{Change}
use Rattle.svr_rows.specs.declared.change.Change.TheVariants as change
use Rattle.svr_rows.specs.declared.load.LoadRefusal.{LoadRefusal}
use Rattle.svr_rows.specs.declared.load.LoadRefusal.TheVariants as load
use Rattle.svr_rows.specs.declared.row.Row.{Row}
use Rattle.svr_schema.specs.declared.error.SchemaError.{SchemaError}
use Rattle.svr_schema.specs.declared.error.SchemaError.TheVariants as error
use Rattle.svr_tokens.specs.declared.query.QueryRefusal.{QueryRefusal}
use Rattle.svr_tokens.specs.declared.query.QueryRefusal.TheVariants as query
use Rattle.svr_core.specs.declared.plan.Edit.{Edit}
use Rattle.svr_core.specs.Edits.{edited, relisted, served_with}
use Rattle.svr_core.specs.Merges.{IsReadyFor}
use Rattle.svr_core.specs.declared.replay.ReplayFault.{ReplayFault}
use Rattle.svr_core.specs.declared.replay.ReplayFault.TheVariants as fault
use Rattle.svr_core.specs.Outcomes.{Outcome, refusal_of_row}
use Rattle.svr_core.specs.Pages.{HavePages}
use Rattle.svr_core.specs.Plans.{IsEdit, MayRefuse}
use Rattle.svr_core.specs.Replay.{IsUnsure, after_body, after_record}
use Rattle.svr_catalog.specs.Catalog.{Catalog}
use Rattle.svr_core.specs.Kept.{CoreValue, ServesAs}
use Rattle.svr_core.specs.State.{Served}

abbrev pub query_refusal : QueryRefusal → Refusal
query_refusal query.NoTerms = refusal.NoTerms
query_refusal query.TooManyTerms = refusal.TooManyTerms
query_refusal query.Memory = refusal.Memory

abbrev pub refusal_of_load : LoadRefusal → Refusal
refusal_of_load (load.At n why) = refusal_of_row (Some n) why
refusal_of_load load.Memory = refusal.Memory

abbrev pub refusal_of_block : CsvRefusal → Refusal
refusal_of_block (csv.Number n) = refusal.BadCsv n
refusal_of_block csv.Memory = refusal.Memory

abbrev pub schema_refusal : SchemaError → Refusal
schema_refusal (error.Rule n) = refusal.BadSchema n
schema_refusal error.Memory = refusal.Memory

-- the edit of what has this outcome where a catalog is set, or none, or its refusal
pub record Edits (o : Outcome) (set : Option Catalog) (result : Result Edit Refusal) : Type 0 where
  pub edit : IfOk result (IsEdit o set)
  pub refused : IfErr result (MayRefuse o)

-- an id that is deleted is below 2^63
abbrev pub DeletesId : Change → Type 0
DeletesId (change.Delete at id) = id < 2 ^ 63
DeletesId _ = Unit {0}

-- a record that is a step of a merge
abbrev pub is_step : Record → Bool
is_step entry.Begin = true
is_step (entry.Slice terms pages) = true
is_step entry.Publish = true
is_step (entry.Schema text) = false
is_step (entry.Change change) = false
is_step (entry.Load table header block) = false

-- behind these bodies this one ends at that place
abbrev pub IsNext : List (List ℕ) → List ℕ → ℕ → Type 0
IsNext before body end = end ≡ end_of before + 5 + length body

-- a body is accepted behind these, where that is served, the core serves what is served after it, and the pages of that stand in the
-- records if they did before
pub record TakesBody (before : List (List ℕ)) (s : Served) (new : CoreValue) (body : List ℕ) : Type 0 where
  pub next : Served
  pub gives : after_body before s body ≡ Some next
  pub serves : ServesAs new next
  pub pages : HavePages before s.listed → HavePages (before ++ body ∷ []) next.listed

-- the same of a record
pub record TakesRecord (before : List (List ℕ)) (s : Served) (new : CoreValue) (kept : Record) : Type 0 where
  pub next : Served
  pub gives : after_record before s kept ≡ Some next
  pub serves : ServesAs new next

-- a record isn't accepted there, or it's a publish of which it isn't sure
abbrev pub RefusesRecord : List (List ℕ) → Served → Record → Type 0
RefusesRecord before s kept = (after_record before s kept ≡ None) ⊎ ((s.lawful ≡ false) × (kept ≡ entry.Publish))

-- a body isn't accepted there, or it isn't sure whether it is
abbrev pub RefusesBody : List (List ℕ) → Served → List ℕ → Type 0
RefusesBody before s body = (after_body before s body ≡ None) ⊎ IsUnsure s body

-- values make no row, at this column, or memory is wanting
abbrev pub IsBadRow : Option ℕ → Refusal → Type 0
IsBadRow bad why = ((column : ℕ) × (bad ≡ Some column) × (why ≡ refusal.BadRow column)) ⊎ (why ≡ refusal.Memory)

-- a block's record makes no row, the one of this number, or memory is wanting
abbrev pub IsBadRecord : Result (List Row) ℕ → Refusal → Type 0
IsBadRecord rows why = ((n : ℕ) × (rows ≡ Err n) × (why ≡ refusal.BadCsv n)) ⊎ (why ≡ refusal.Memory)

-- why a record isn't taken that is refused so
abbrev pub fault_of : Refusal → ReplayFault
fault_of refusal.Memory = fault.Memory
fault_of _ = fault.Refused

-- the same of a slice
abbrev pub fault_of_slice : SliceFault → ReplayFault
fault_of_slice slice.BadSlice = fault.Refused
fault_of_slice slice.Memory = fault.Memory

-- why a journal can't be read on at a gate
abbrev pub error_at : ℕ → ReplayFault → JournalError
error_at gate fault.Refused = error_of.NotAJournal gate
error_at gate fault.Memory = error_of.Memory

-- ---- edits that are made

-- the catalog after an edit is what is served after it
pub record FollowsServed (kept : Option CatalogValue) (e : Edit) (after : CatalogValue) (s : Served) : Type 0 where
  pub catalog : edited s.catalog e ≡ Some after.catalog
  pub last : last_in after.lists ≡ option_map (λ m. m.last) (relisted s.catalog s.listed e).merge
  pub lists : (served_with s e).lawful ≡ true → Stands after (relisted s.catalog s.listed e)

-- what is served by a catalog that is set, or none
pub record IsServedBy (kept : Option CatalogValue) (s : Served) : Type 0 where
  pub catalog : option_map (λ v. v.catalog) kept ≡ s.catalog
  pub last : option_and_then (λ v. last_in v.lists) kept ≡ option_map (λ m. m.last) s.listed.merge
  pub lists : s.lawful ≡ true → ForSome kept (λ v. Stands v s.listed)

abbrev pub FollowsEdit : Option CatalogValue → Edit → Result CatalogValue SliceFault → Type 0
FollowsEdit kept e result = IfOk result (λ after. (s : Served) → IsServedBy kept s → IsReadyFor s e → FollowsServed kept e after s)

-- an edit of what is set, as a core sees it
abbrev pub core_of : Option CatalogValue → CoreValue
core_of kept = record { kept = kept; changes = 0 }
