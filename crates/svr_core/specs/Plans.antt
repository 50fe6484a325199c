-- What a request, or a record that is read again, comes to before anything is changed.
use Rattle.std.specs.Prelude.{◌≡◌, ◌⊎◌, ⊤, ◌≤◌, ◌<◌, length, Option, Result, IfErr, IfOk}
use Rattle.std.specs.Cmp.Lexicographic.{slice_cmp}
use Rattle.std.specs.List.Sorted.{IsStrictlySortedBy}
use Rattle.std.specs.Option.{IsSome}
use Rattle.std.specs.Ordering.{nat_cmp}
use Rattle.svr_journal.specs.File.{IsBody}
use Rattle.svr_record.specs.declared.record.Record.{Record}
use Rattle.svr_record.specs.Bodies.{body_of}
use Rattle.svr_record.specs.Limits.{IsRecord}
use Rattle.svr_request.specs.declared.refusal.Refusal.{Refusal}
use Rattle.svr_request.specs.declared.refusal.Refusal.TheVariants as refusal
use Rattle.svr_core.specs.declared.plan.Edit.{Edit}
use Rattle.svr_core.specs.declared.plan.Edit.TheVariants as edit
use Rattle.svr_core.specs.declared.plan.Entry.{Entry}
use Rattle.svr_core.specs.declared.plan.Plan.{Plan}
use Rattle.svr_core.specs.declared.plan.Plan.TheVariants as plan
use Rattle.svr_core.specs.declared.queries.Query.{Query}
use Rattle.svr_core.specs.Edits.{Accepts}
use Rattle.svr_core.specs.Outcomes.{Outcome, edits, entry_outcome, merges, merges_whole, refused, searches}
use Rattle.svr_catalog.specs.Catalog.{Catalog}

-- a refusal is that of the outcome, or want of memory
abbrev pub MayRefuse : Outcome → Refusal → Type 0
MayRefuse o why = (o ≡ refused why) ⊎ (why ≡ refusal.Memory)

-- an edit is no step of a merge
abbrev pub IsPlain : Edit → Type 0
IsPlain (edit.Schema s) = ⊤
IsPlain (edit.Change change) = ⊤
IsPlain (edit.Load at rows) = ⊤
IsPlain edit.Begin = ⊥
IsPlain (edit.Slice terms pages at) = ⊥
IsPlain edit.Publish = ⊥

-- an edit is what the outcome says, and may be made
pub record IsEdit (o : Outcome) (set : Option Catalog) (e : Edit) : Type 0 where
  pub entry : Record
  pub outcome : o ≡ edits e entry
  pub accepted : Accepts set e
  pub plain : IsPlain e

-- the edit, with the body of its record; read again, that comes to the same
pub record IsEntry (o : Outcome) (set : Option Catalog) (e : Entry) : Type 0 where
  pub edit : IsEdit o set e.edit
  pub is_record : IsRecord edit.entry
  pub body : e.body ≡ body_of edit.entry
  pub size : IsBody e.body
  pub again : entry_outcome set edit.entry ≡ o

-- a search may be made: it has terms, ascending by bytes, each once, and from 1 to 1,000 documents are wanted
pub record MayAsk (q : Query) : Type 0 where
  pub some_terms : 0 < length q.terms
  pub ascending : IsStrictlySortedBy (slice_cmp nat_cmp) q.terms
  pub some : 0 < q.k
  pub few : q.k ≤ 1000

-- a search is what the outcome says, and may be made
pub record IsQuery (o : Outcome) (q : Query) : Type 0 where
  pub outcome : o ≡ searches q.terms q.mode q.k
  pub may : MayAsk q

-- a plan is what the outcome says; a search is made, and a step of a merge or a whole one, where a catalog is set
abbrev pub IsPlan : Outcome → Option Catalog → Plan → Type 0
IsPlan o set (plan.Search q) = IsQuery o q × IsSome set
IsPlan o set (plan.Change e) = IsEntry o set e
IsPlan o set (plan.Merge part) = (o ≡ merges part) × IsSome set
IsPlan o set plan.WholeMerge = (o ≡ merges_whole) × IsSome set

-- the plan or the refusal of what has this outcome where a catalog is set, or none
pub record Plans (o : Outcome) (set : Option Catalog) (result : Result Plan Refusal) : Type 0 where
  pub plan : IfOk result (IsPlan o set)
  pub refused : IfErr result (MayRefuse o)
