-- What a line asks for.
use Rattle.std.specs.Prelude.{ℕ, ℤ, pos, ◌^◌, ◌&&◌, Bool, false, List, [], ◌∷◌, map, nat_lt, nat_le, codes}
use Rattle.std.specs.Prelude.{if◌then◌else◌, Option, Some, None, option_map, Result, Ok, Err, ok_or}
use Rattle.std.specs.Str.{is_utf8, bytes_eq}
use Rattle.serde_json.specs.Data.{Data, number, string, Items}
use Rattle.serde_json.specs.Read.{read}
use Rattle.serde_json.specs.View.{view}
use Rattle.serde_json.specs.Find.{get, as_array, as_bool, as_str, as_number, as_u64, as_i64, as_integer}
use Rattle.svr_json.specs.Parts.{◌>>=◌, has_only, items_in, only_if, text_at}
use Rattle.svr_num.specs.declared.mode.Mode.{Mode}
use Rattle.svr_num.specs.declared.mode.Mode.TheVariants as mode
use Rattle.svr_rows.specs.declared.row.Given.{Given}
use Rattle.svr_rows.specs.declared.row.Given.TheVariants as given
use Rattle.svr_request.specs.declared.refusal.Refusal.{Refusal}
use Rattle.svr_request.specs.declared.refusal.Refusal.TheVariants.{NotJson, UnknownOp, BadShape}
use Rattle.svr_request.specs.declared.request.Request.{Request}
use Rattle.svr_request.specs.declared.request.Request.TheVariants as request

-- a request without its block, with a JSON value seen as its data
pub data Wanted : Type 0 where
  schema : Data → Wanted
  insert : List ℕ → List Given → Wanted
  update : List ℕ → List Given → Wanted
  delete : List ℕ → ℕ → Wanted
  load : List ℕ → Bool → Wanted
  search : List ℕ → Mode → ℤ → Wanted
  merge : Wanted
  merge_begin : Wanted
  merge_slice : ℕ → Wanted
  merge_publish : Wanted

-- a request that was read
abbrev pub seen : Request → Wanted
seen (request.Schema s) = schema (view s.value)
seen (request.Insert table row) = insert table row
seen (request.Update table row) = update table row
seen (request.Delete table id) = delete table id
seen (request.Load table header) = load table header
seen (request.Search query m k) = search query m k
seen request.Merge = merge
seen request.MergeBegin = merge_begin
seen (request.MergeSlice terms) = merge_slice terms
seen request.MergePublish = merge_publish

-- the same, or why there is none
abbrev pub seen_or_refused : Result Request Refusal → Result Wanted Refusal
seen_or_refused (Ok r) = Ok (seen r)
seen_or_refused (Err why) = Err why

-- the value of a line, if it is JSON
abbrev pub value_in : List ℕ → Option Data
value_in line = if is_utf8 line then read line else None

-- a whole number in i64 makes an int cell, another number none
abbrev pub given_number : Option ℤ → Given
given_number (Some n) = given.Int n
given_number None = given.Other

-- a string makes a text cell, and what is no number and no string makes none
abbrev pub given_of : Data → Given
given_of (number n) = given_number (as_i64 n)
given_of (string t) = given.Text t
given_of _ = given.Other

-- what the values of an array give for a row
abbrev pub given_row : Items → List Given
given_row ds = map given_of (items_in ds)

-- the id of the row to delete: a whole number from 0 to 2^63 - 1
abbrev pub deleted_id : Data → Option ℕ
deleted_id d = do
  n ← get (codes "id") d >>= as_number >>= as_u64
  only_if (nat_lt n (2 ^ 63)) n

-- the mode of a name
abbrev pub mode_named : List ℕ → Option Mode
mode_named s = if bytes_eq s (codes "all") then Some mode.All else (if bytes_eq s (codes "any") then Some mode.Any else None)

-- `all` or `any`; all, where there is none
abbrev pub mode_in : Option Data → Option Mode
mode_in None = Some mode.All
mode_in (Some d) = as_str d >>= mode_named

-- a whole number in i64 or u64, or 10 where there is none
abbrev pub k_in : Option Data → Option ℤ
k_in None = Some (pos 10)
k_in (Some d) = as_number d >>= as_integer

-- how many terms a step of a merge may take: a whole number from 1 to 1,000
abbrev pub slice_terms : Data → Option ℕ
slice_terms d = do
  n ← get (codes "terms") d >>= as_number >>= as_u64
  only_if (nat_le 1 n && nat_le n 1000) n

-- ---- each op has its members, and no other

-- the value of a schema
abbrev pub schema_request : Data → Option Wanted
schema_request d = do
  form ← only_if (has_only (codes "op" ∷ codes "schema" ∷ []) d) d
  value ← get (codes "schema") form
  Some (schema value)

-- a table's name, and what is given for a row
abbrev pub table_and_row : Data → Option (List ℕ × List Given)
table_and_row d = do
  table ← text_at (codes "table") d
  values ← get (codes "row") d >>= as_array
  Some (table, given_row values)

-- those of an insert or an update
abbrev pub table_and_row_in : Data → Option (List ℕ × List Given)
table_and_row_in d = only_if (has_only (codes "op" ∷ codes "row" ∷ codes "table" ∷ []) d) d >>= table_and_row

-- the row to add
abbrev pub insert_request : Data → Option Wanted
insert_request d = option_map (λ both. insert both.0 both.1) (table_and_row_in d)

-- the row to put in place of another
abbrev pub update_request : Data → Option Wanted
update_request d = option_map (λ both. update both.0 both.1) (table_and_row_in d)

-- the row to take out, by its id
abbrev pub delete_request : Data → Option Wanted
delete_request d = do
  form ← only_if (has_only (codes "id" ∷ codes "op" ∷ codes "table" ∷ []) d) d
  id ← deleted_id form
  table ← text_at (codes "table") form
  Some (delete table id)

-- how many bytes a load says that its block has: a whole number from 0 to 2^64 - 1
abbrev pub bytes_in : Data → Option ℕ
bytes_in d = get (codes "bytes") d >>= as_number >>= as_u64

-- true or false; false, where there is none
abbrev pub header_in : Option Data → Option Bool
header_in None = Some false
header_in (Some d) = as_bool d

-- a load of a block of at most 8,388,608 bytes
abbrev pub load_request : Data → Option Wanted
load_request d = do
  form ← only_if (has_only (codes "bytes" ∷ codes "header" ∷ codes "op" ∷ codes "table" ∷ []) d) d
  size ← bytes_in form
  short ← only_if (nat_le size 8388608) form
  header ← header_in (get (codes "header") short)
  table ← text_at (codes "table") short
  Some (load table header)

-- a query, with its mode and k
abbrev pub search_request : Data → Option Wanted
search_request d = do
  form ← only_if (has_only (codes "k" ∷ codes "mode" ∷ codes "op" ∷ codes "query" ∷ []) d) d
  m ← mode_in (get (codes "mode") form)
  k ← k_in (get (codes "k") form)
  query ← text_at (codes "query") form
  Some (search query m k)

-- an op that has no member of its own
abbrev pub lone_request : Wanted → Data → Option Wanted
lone_request wanted d = only_if (has_only (codes "op" ∷ []) d) wanted

-- a step of a merge
abbrev pub merge_slice_request : Data → Option Wanted
merge_slice_request d = do
  form ← only_if (has_only (codes "op" ∷ codes "terms" ∷ []) d) d
  terms ← slice_terms form
  Some (merge_slice terms)

-- the request of an object, by its op; None where the op is unknown
abbrev pub wanted_by : List ℕ → Data → Option (Option Wanted)
wanted_by op d =
    if bytes_eq op (codes "schema") then Some (schema_request d)
    else if bytes_eq op (codes "insert") then Some (insert_request d)
    else if bytes_eq op (codes "update") then Some (update_request d)
    else if bytes_eq op (codes "delete") then Some (delete_request d)
    else if bytes_eq op (codes "load") then Some (load_request d)
    else if bytes_eq op (codes "search") then Some (search_request d)
    else if bytes_eq op (codes "merge") then Some (lone_request merge d)
    else if bytes_eq op (codes "merge-begin") then Some (lone_request merge_begin d)
    else if bytes_eq op (codes "merge-slice") then Some (merge_slice_request d)
    else if bytes_eq op (codes "merge-publish") then Some (lone_request merge_publish d)
    else None

-- no op, or members of another form
abbrev pub by_form : Option (Option Wanted) → Result Wanted Refusal
by_form None = Err UnknownOp
by_form (Some wanted) = ok_or wanted BadShape

-- what a value asks for, or why it is refused
unfoldable pub asked_of : Data → Result Wanted Refusal
asked_of d = by_form (text_at (codes "op") d >>= λ op. wanted_by op d)

-- the same of a value, if there is one
abbrev pub asked_by : Option Data → Result Wanted Refusal
asked_by None = Err NotJson
asked_by (Some d) = asked_of d

-- what a line asks for, or why it is refused
unfoldable pub request_of : List ℕ → Result Wanted Refusal
request_of line = asked_by (value_in line)

-- ---- the block behind a line

-- the block of an op
abbrev pub block_by : List ℕ → Data → Option ℕ
block_by op d = if bytes_eq op (codes "load") then bytes_in d else None

-- how many bytes of a block follow a value: those that a load says, whatever else is wrong with it
abbrev pub block_in : Data → Option ℕ
block_in d = text_at (codes "op") d >>= λ op. block_by op d

-- how many bytes of a block follow a line, if one follows
unfoldable pub block_of : List ℕ → Option ℕ
block_of line = value_in line >>= block_in

-- a request, or why the line is none, with the block behind the line; no bytes where there is no block
pub record Submitted : Type 0 where
  pub request : Result Wanted Refusal
  pub block : List ℕ

-- a request with its block
abbrev pub with_block : Result Wanted Refusal → List ℕ → Submitted
with_block request block = record { request = request; block = block }
