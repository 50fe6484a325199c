-- What is planned, by its outcome.
use Rattle.std.proofs.Common.{◌≡◌, ◌≤◌, ◌<◌, ℕ, Bool, true, List, length, nat_lt, Option, Some, None, Result, Ok, Err}
use Rattle.std.proofs.Common.{refl, ap, ◌∙◌, arith}
use Rattle.std.proofs.lemmas.Bool.Decides.{nat_tests}
use Rattle.serde_json.specs.Data.{Data}
use Rattle.serde_json.specs.Written.{compact_text}
use Rattle.svr_journal.specs.File.{IsBody}
use Rattle.svr_record.specs.declared.record.Record.{Record}
use Rattle.svr_record.specs.declared.record.Record.TheVariants as entry
use Rattle.svr_record.specs.Bodies.{body_of}
use Rattle.svr_record.specs.Limits.{IsRecord}
use Rattle.svr_record.proofs.Sizes.{IsSized, change-sized, load-sized, schema-sized}
use Rattle.svr_request.specs.declared.refusal.Refusal.TheVariants as refusal
use Rattle.svr_request.specs.Requests.{value_in}
use Rattle.svr_rows.specs.declared.change.Change.{Change}
use Rattle.svr_rows.specs.declared.change.RowRefusal.{RowRefusal}
use Rattle.svr_rows.specs.declared.row.Row.{Row}
use Rattle.svr_rows.specs.Changes.{load_refusal, refusal_of}
use Rattle.svr_rows.specs.Rows.{kinds_in}
use Rattle.svr_csvload.specs.Blocks.{rows_in_block}
use Rattle.svr_schema.specs.declared.schema.Schema.{Schema}
use Rattle.svr_schema.specs.Lawful.{IsSchema}
use Rattle.svr_schema.specs.Rules.{schema_in}
use Rattle.svr_core.specs.declared.plan.Edit.{Edit}
use Rattle.svr_core.specs.declared.plan.Edit.TheVariants as edit
use Rattle.svr_core.specs.Outcomes.{refused, edits, block_outcome, by_rules, change_outcome, entry_outcome}
use Rattle.svr_core.specs.Outcomes.{placed_outcome, refusal_of_row, rows_outcome, schema_outcome, text_outcome, unless_bad_record}
use Rattle.svr_core.specs.Outcomes.{unless_refused, unless_row_refused}
use Rattle.svr_core.specs.Plans.{IsEdit, IsEntry}
use Rattle.svr_catalog.specs.Catalog.{Catalog}

IsBody-from_sized : (r : Record) (body : List ℕ) → body ≡ body_of r → IsSized (body_of r) → IsBody body
IsBody-from_sized r body is h = rw is (record { some = h.some; few = h.few })

-- ---- changes of a row

pub IsEdit-change : (c : Catalog) (made : Change) → refusal_of c.tables made ≡ None
    → IsEdit (change_outcome c made) (Some c) (edit.Change made)
IsEdit-change c made h = record {
  entry = entry.Change made;
  outcome = ap (λ r. unless_refused r (edits (edit.Change made) (entry.Change made))) h;
  accepted = h;
  plain = tt;
}

pub IsEntry-change : (c : Catalog) (made : Change) (body : List ℕ) → refusal_of c.tables made ≡ None → IsRecord (entry.Change made)
    → body ≡ body_of (entry.Change made) → IsEntry (change_outcome c made) (Some c) (record { edit = edit.Change made; body = body })
unfolding entry_outcome IsEdit-change
IsEntry-change c made body h is_record is = record {
  edit = IsEdit-change c made h;
  is_record = is_record;
  body = is;
  size = IsBody-from_sized (entry.Change made) body is (change-sized made is_record);
  again = refl;
}

-- ---- loads

pub IsEdit-load : (c : Catalog) (table : ℕ) (header : Bool) (block : List ℕ) (rows : List Row)
    → rows_in_block (kinds_in c.tables table) header block ≡ Ok rows → load_refusal c.tables table rows ≡ None
    → IsEdit (block_outcome c table header block) (Some c) (edit.Load table rows)
IsEdit-load c table header block rows made h =
    let load = entry.Load table header block in
    record {
      entry = load;
      outcome = ap (λ r. unless_bad_record r (rows_outcome c table load)) made
          ∙ ap (λ r. unless_row_refused r (edits (edit.Load table rows) load)) h;
      accepted = h;
      plain = tt;
    }

rows_if : (r : Option (ℕ × RowRefusal)) (given made : Edit) (load e : Record)
    → unless_row_refused r (edits given load) ≡ edits made e → e ≡ load
rows_if None given made load e h = let k : edits given load ≡ edits made e = h in cc
rows_if (Some r) given made load e h = absurd (let k : refused (refusal_of_row (Some r.0) r.1) ≡ edits made e = h in cc)

rows_by : (rows : Result (List Row) ℕ) (c : Catalog) (made : Edit) (table : ℕ) (load e : Record)
    → unless_bad_record rows (rows_outcome c table load) ≡ edits made e → e ≡ load
rows_by (Err n) c made table load e h = absurd (let k : refused (refusal.BadCsv n) ≡ edits made e = h in cc)
rows_by (Ok rows) c made table load e h = rows_if (load_refusal c.tables table rows) (edit.Load table rows) made load e h

placed : (c : Catalog) (table : ℕ) (header : Bool) (block : List ℕ) → table < length c.schema.tables
    → placed_outcome c table header block ≡ block_outcome c table header block
placed c table header block h =
    let there : nat_lt table (length c.schema.tables) ≡ true = grind (arith, nat_tests, h) in
    rw there refl

pub IsEntry-load : (c : Catalog) (table : ℕ) (header : Bool) (block : List ℕ) (e : Edit) (body : List ℕ)
    → IsEdit (block_outcome c table header block) (Some c) e → table < length c.schema.tables → length block ≤ 8388608
    → body ≡ body_of (entry.Load table header block)
    → IsEntry (block_outcome c table header block) (Some c) (record { edit = e; body = body })
unfolding entry_outcome
IsEntry-load c table header block e body h there few is =
    let load = entry.Load table header block in
    let same = rows_by (rows_in_block (kinds_in c.tables table) header block) c e table load h.entry h.outcome in
    record {
      edit = record { entry = load; outcome = h.outcome ∙ ap (edits e) same; accepted = h.accepted; plain = h.plain };
      is_record = few;
      body = is;
      size = IsBody-from_sized load body is (load-sized table header block few);
      again = placed c table header block there;
    }

-- ---- schemas

pub IsEdit-schema : (d : Data) (s : Schema) → schema_in d ≡ Ok s → IsSchema s → IsEdit (schema_outcome None d) None (edit.Schema s)
IsEdit-schema d s made lawful = record {
  entry = entry.Schema (compact_text d);
  outcome = ap (by_rules d) made;
  accepted = lawful;
  plain = tt;
}

schema_by : (read : Result Schema ℕ) (d : Data) (made : Edit) (e : Record) → by_rules d read ≡ edits made e
    → e ≡ entry.Schema (compact_text d)
schema_by (Err n) d made e h = absurd (let k : refused (refusal.BadSchema n) ≡ edits made e = h in cc)
schema_by (Ok s) d made e h = let k : edits (edit.Schema s) (entry.Schema (compact_text d)) ≡ edits made e = h in cc

schema_if : (set : Option Catalog) (d : Data) (made : Edit) (e : Record) → schema_outcome set d ≡ edits made e
    → e ≡ entry.Schema (compact_text d)
schema_if None d made e h = schema_by (schema_in d) d made e h
schema_if (Some c) d made e h = absurd (let k : refused refusal.SchemaSet ≡ edits made e = h in cc)

pub IsEntry-schema : (set : Option Catalog) (d : Data) (e : Edit) (body : List ℕ) → IsEdit (schema_outcome set d) set e
    → value_in (compact_text d) ≡ Some d → IsRecord (entry.Schema (compact_text d)) → body ≡ body_of (entry.Schema (compact_text d))
    → IsEntry (schema_outcome set d) set (record { edit = e; body = body })
unfolding entry_outcome
IsEntry-schema set d e body h again is_record is =
    let text = entry.Schema (compact_text d) in
    record {
      edit = record {
        entry = text;
        outcome = h.outcome ∙ ap (edits e) (schema_if set d e h.entry h.outcome);
        accepted = h.accepted;
        plain = h.plain;
      };
      is_record = is_record;
      body = is;
      size = IsBody-from_sized text body is (schema-sized (compact_text d) is_record);
      again = ap (text_outcome set) again;
    }
