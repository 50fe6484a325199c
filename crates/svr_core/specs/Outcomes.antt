-- What comes of a request, and of a record that is read again: one case for each.
use Rattle.std.specs.Prelude.{ℕ, ℤ, ◌&&◌, Bool, pos, negsuc, List, [], ◌∷◌, length}
use Rattle.std.specs.Prelude.{map, nat_lt, nat_le, if◌then◌else◌, Option, Some, None, Result, Ok, Err}
use Rattle.std.specs.List.{filter_map}
use Rattle.serde_json.specs.Data.{Data}
use Rattle.serde_json.specs.Written.{compact_text}
use Rattle.svr_num.specs.declared.mode.Mode.{Mode}
use Rattle.svr_request.specs.declared.refusal.Refusal.{Refusal}
use Rattle.svr_request.specs.declared.refusal.Refusal.TheVariants as refusal
use Rattle.svr_csvload.specs.Blocks.{rows_in_block}
use Rattle.svr_request.specs.Requests.{Submitted, Wanted, schema, insert, update, delete, load, search, merge, merge_begin}
use Rattle.svr_request.specs.Requests.{merge_slice, merge_publish, value_in}
use Rattle.svr_record.specs.declared.record.Record.{Record}
use Rattle.svr_record.specs.declared.record.Record.TheVariants as entry
use Rattle.svr_rows.specs.declared.change.Change.{Change}
use Rattle.svr_rows.specs.declared.change.Change.TheVariants.{Insert, Update, Delete}
use Rattle.svr_rows.specs.declared.change.RowRefusal.{RowRefusal}
use Rattle.svr_rows.specs.declared.change.RowRefusal.TheVariants as why
use Rattle.svr_rows.specs.declared.row.Given.{Given}
use Rattle.svr_rows.specs.declared.row.Row.{Row}
use Rattle.svr_rows.specs.Changes.{load_refusal, refusal_of}
use Rattle.svr_rows.specs.Rows.{bad_column, cell_in, kinds_in}
use Rattle.svr_schema.specs.declared.schema.Schema.{Schema}
use Rattle.svr_schema.specs.Lookups.{table_at}
use Rattle.svr_schema.specs.Rules.{schema_in}
use Rattle.svr_tokens.specs.Tokens.{tokens_of}
use Rattle.svr_catalog.specs.Catalog.{Catalog}
use Rattle.svr_core.specs.declared.plan.Edit.{Edit}
use Rattle.svr_core.specs.declared.plan.Edit.TheVariants as edit
use Rattle.svr_core.specs.declared.plan.Step.{Step}
use Rattle.svr_core.specs.declared.plan.Step.TheVariants as step
use Rattle.svr_core.specs.State.{Served}

-- a request is refused, or it searches for the best k documents, or it makes an edit of what is served, and this record is kept of it, or
-- it asks for a step of a merge, or for a whole one
pub data Outcome : Type 0 where
  refused : Refusal → Outcome
  searches : List (List ℕ) → Mode → ℕ → Outcome
  edits : Edit → Record → Outcome
  merges : Step → Outcome
  merges_whole : Outcome

-- ---- a schema

-- the schema that a value says, or the first rule that fails
abbrev pub by_rules : Data → Result Schema ℕ → Outcome
by_rules d (Err n) = refused (refusal.BadSchema n)
by_rules d (Ok s) = edits (edit.Schema s) (entry.Schema (compact_text d))

-- a schema is set once
abbrev pub schema_outcome : Option Catalog → Data → Outcome
schema_outcome (Some c) d = refused refusal.SchemaSet
schema_outcome None d = by_rules d (schema_in d)

-- ---- changes

-- a refused row, by its number where it is one of a load
abbrev pub refusal_of_row : Option ℕ → RowRefusal → Refusal
refusal_of_row n why.NoTable = refusal.NoTable
refusal_of_row n (why.BadRow column) = refusal.BadRow column
refusal_of_row n (why.TextTooLong column) = refusal.TextTooLong n
refusal_of_row n why.KeyExists = refusal.KeyExists n
refusal_of_row n why.NoRow = refusal.NoRow
refusal_of_row n why.TableFull = refusal.TableFull n
refusal_of_row n why.TextFull = refusal.TextFull n

abbrev pub unless_refused : Option RowRefusal → Outcome → Outcome
unless_refused (Some r) later = refused (refusal_of_row None r)
unless_refused None later = later

abbrev pub change_outcome : Catalog → Change → Outcome
change_outcome c change = unless_refused (refusal_of c.tables change) (edits (edit.Change change) (entry.Change change))

-- the row that values make
abbrev pub row_of : List Given → Row
row_of given = record { cells = filter_map cell_in given }

abbrev pub unless_bad : Option ℕ → Outcome → Outcome
unless_bad (Some column) later = refused (refusal.BadRow column)
unless_bad None later = later

-- a change of a row in a table
abbrev pub row_outcome : Catalog → (Row → Change) → ℕ → List Given → Outcome
row_outcome c change table given =
    unless_bad (bad_column (kinds_in c.tables table) (map cell_in given)) (change_outcome c (change (row_of given)))

-- the table of a name, and what comes of the request in it
abbrev pub in_table : Option ℕ → (ℕ → Outcome) → Outcome
in_table None f = refused refusal.NoTable
in_table (Some table) f = f table

abbrev pub insert_outcome : Catalog → List ℕ → List Given → Outcome
insert_outcome c table given = in_table (table_at c.schema.tables table) (λ at. row_outcome c (λ row. Insert at row) at given)

abbrev pub update_outcome : Catalog → List ℕ → List Given → Outcome
update_outcome c table given = in_table (table_at c.schema.tables table) (λ at. row_outcome c (λ row. Update at row) at given)

abbrev pub delete_outcome : Catalog → List ℕ → ℕ → Outcome
delete_outcome c table id = in_table (table_at c.schema.tables table) (λ at. change_outcome c (Delete at id))

-- ---- loads

abbrev pub unless_row_refused : Option (ℕ × RowRefusal) → Outcome → Outcome
unless_row_refused (Some r) later = refused (refusal_of_row (Some r.0) r.1)
unless_row_refused None later = later

-- rows are inserted, one after the other, or none; the record is that of the load
abbrev pub rows_outcome : Catalog → ℕ → Record → List Row → Outcome
rows_outcome c table kept rows = unless_row_refused (load_refusal c.tables table rows) (edits (edit.Load table rows) kept)

abbrev pub unless_bad_record : Result (List Row) ℕ → (List Row → Outcome) → Outcome
unless_bad_record (Err n) later = refused (refusal.BadCsv n)
unless_bad_record (Ok rows) later = later rows

-- the rows of a block are inserted into the table at a place
abbrev pub block_outcome : Catalog → ℕ → Bool → List ℕ → Outcome
block_outcome c table header block = unless_bad_record (rows_in_block (kinds_in c.tables table) header block)
    (rows_outcome c table (entry.Load table header block))

abbrev pub load_outcome : Catalog → List ℕ → Bool → List ℕ → Outcome
load_outcome c table header block = in_table (table_at c.schema.tables table) (λ at. block_outcome c at header block)

-- ---- searches

-- from 1 to 1,000
abbrev pub k_of : ℤ → Option ℕ
k_of (pos k) = if nat_le 1 k && nat_le k 1000 then Some k else None
k_of (negsuc k) = None

abbrev pub by_k : List (List ℕ) → Mode → Option ℕ → Outcome
by_k query m None = refused refusal.BadK
by_k query m (Some k) = searches query m k

abbrev pub search_outcome : List (List ℕ) → Mode → ℤ → Outcome
search_outcome [] m k = refused refusal.NoTerms
search_outcome (t ∷ terms) m k = if nat_lt 16 (length (t ∷ terms)) then refused refusal.TooManyTerms else by_k (t ∷ terms) m (k_of k)

-- ---- all requests

-- what needs a schema
abbrev pub with_catalog : Option Catalog → (Catalog → Outcome) → Outcome
with_catalog None f = refused refusal.NoSchema
with_catalog (Some c) f = f c

-- what comes of a request with the block that comes with it
abbrev pub wanted_outcome : Option Catalog → Wanted → List ℕ → Outcome
wanted_outcome c (schema d) block = schema_outcome c d
wanted_outcome c (insert table given) block = with_catalog c (λ c. insert_outcome c table given)
wanted_outcome c (update table given) block = with_catalog c (λ c. update_outcome c table given)
wanted_outcome c (delete table id) block = with_catalog c (λ c. delete_outcome c table id)
wanted_outcome c (load table header) block = with_catalog c (λ c. load_outcome c table header block)
wanted_outcome c (search query m k) block = with_catalog c (λ _. search_outcome (tokens_of query) m k)
wanted_outcome c merge block = with_catalog c (λ _. merges_whole)
wanted_outcome c merge_begin block = with_catalog c (λ _. merges step.Begin)
wanted_outcome c (merge_slice terms) block = with_catalog c (λ _. merges (step.Slice terms))
wanted_outcome c merge_publish block = with_catalog c (λ _. merges step.Publish)

abbrev pub asked_outcome : Option Catalog → Result Wanted Refusal → List ℕ → Outcome
asked_outcome c (Err why) block = refused why
asked_outcome c (Ok w) block = wanted_outcome c w block

-- what comes of a request where a catalog is set, or none
unfoldable pub outcome_over : Option Catalog → Submitted → Outcome
outcome_over c p = asked_outcome c p.request p.block

-- what comes of it over what is served
abbrev pub outcome_of : Served → Submitted → Outcome
outcome_of s p = outcome_over s.catalog p

-- ---- records that are read again

-- a schema's text
abbrev pub text_outcome : Option Catalog → Option Data → Outcome
text_outcome c None = refused refusal.NotJson
text_outcome c (Some d) = schema_outcome c d

-- a load into the table at a place, if there is one
abbrev pub placed_outcome : Catalog → ℕ → Bool → List ℕ → Outcome
placed_outcome c table header block = if nat_lt table (length c.schema.tables) then block_outcome c table header block else refused refusal.NoTable

-- what comes of a record; those of merges come to edits by what is served
unfoldable pub entry_outcome : Option Catalog → Record → Outcome
entry_outcome c (entry.Schema text) = text_outcome c (value_in text)
entry_outcome c (entry.Change change) = with_catalog c (λ c. change_outcome c change)
entry_outcome c (entry.Load table header block) = with_catalog c (λ c. placed_outcome c table header block)
entry_outcome c entry.Begin = refused refusal.UnknownOp
entry_outcome c (entry.Slice terms pages) = refused refusal.UnknownOp
entry_outcome c entry.Publish = refused refusal.UnknownOp
