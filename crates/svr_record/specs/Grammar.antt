-- What a body says, all of it: it is a record exactly where it is the body of one within the limits.
use Rattle.std.specs.Prelude.{ℕ, zero, suc, ◌*◌, ◌^◌, ◌==◌, ◌&&◌, ◌||◌, Bool, true, false, pos, List, [], ◌∷◌, length}
use Rattle.std.specs.Prelude.{nat_lt, if◌then◌else◌, Option, None, Some}
use Rattle.std.specs.Int.{w16, w64}
use Rattle.svr_schema.specs.declared.component.Cell.{Cell}
use Rattle.svr_schema.specs.declared.component.Cell.TheVariants as cell
use Rattle.svr_rows.specs.declared.change.Change.{Change}
use Rattle.svr_rows.specs.declared.change.Change.TheVariants as change
use Rattle.svr_rows.specs.declared.row.Row.{Row}
use Rattle.svr_record.specs.declared.record.Record.{Record}
use Rattle.svr_record.specs.declared.record.Record.TheVariants as kind
use Rattle.svr_record.specs.declared.record.TermPages.{TermPages}
use Rattle.svr_record.specs.Limits.{page_count}
use Rattle.svr_record.specs.Reading.{◌>>=◌, cell_at, many_at, number_at, term_at}

-- no byte is left
abbrev pub is_end : List ℕ → Bool
is_end bytes = length bytes == 0

-- the first cell is a number that isn't negative
abbrev pub begins_with_id : List Cell → Bool
begins_with_id (cell.Int (pos n) ∷ cells) = true
begins_with_id _ = false

-- the row of these cells, if no byte is left and they begin with an id
abbrev pub row_of : List Cell × List ℕ → Option Row
row_of read = if is_end read.1 && begins_with_id read.0 then Some (record { cells = read.0 }) else None

-- the row that all bytes are: at most 8 cells behind their number
unfoldable pub row_in : List ℕ → Option Row
row_in [] = None
row_in (count ∷ bytes) = if nat_lt 8 count then None else (many_at cell_at count bytes >>= row_of)

-- the id in eight bytes
unfoldable pub id_in : List ℕ → Option ℕ
id_in bytes = do
  id ← number_at w64 bytes
  if is_end id.1 && nat_lt id.0 (2 ^ 63) then Some id.0 else None

-- the insert into a table that all bytes behind the table are
unfoldable pub insert_in : ℕ → List ℕ → Option Change
insert_in table bytes = do
  row ← row_in bytes
  Some (change.Insert table row)

-- the update
unfoldable pub update_in : ℕ → List ℕ → Option Change
update_in table bytes = do
  row ← row_in bytes
  Some (change.Update table row)

-- the delete
unfoldable pub delete_in : ℕ → List ℕ → Option Change
delete_in table bytes = do
  id ← id_in bytes
  Some (change.Delete table id)

-- the same by its kind
abbrev pub change_of : ℕ → ℕ → List ℕ → Option Change
change_of (suc zero) table bytes = insert_in table bytes
change_of (suc (suc zero)) table bytes = update_in table bytes
change_of (suc (suc (suc zero))) table bytes = delete_in table bytes
change_of _ table bytes = None

-- the change that all bytes are: what it does, the table, and what it is of
unfoldable pub change_in : List ℕ → Option Change
change_in [] = None
change_in (how ∷ []) = None
change_in (how ∷ table ∷ bytes) = change_of how table bytes

-- the record of a schema's text, 1 to 1,048,576 bytes
unfoldable pub schema_in : List ℕ → Option Record
schema_in text = if is_end text || nat_lt 1048576 (length text) then None else Some (kind.Schema text)

-- whether there is a header: 0 or 1
abbrev pub flag_in : ℕ → Option Bool
flag_in zero = Some false
flag_in (suc zero) = Some true
flag_in (suc (suc n)) = None

-- the load: the table, whether there is a header, and a block of at most 8,388,608 bytes
unfoldable pub load_in : List ℕ → Option Record
load_in [] = None
load_in (table ∷ []) = None
load_in (table ∷ header ∷ block) = do
  h ← flag_in header
  if nat_lt 8388608 (length block) then None else Some (kind.Load table h block)

-- these terms with the pages that are left, if they are as many as the terms say
abbrev pub slice_of : List TermPages × List ℕ → Option Record
slice_of read = if length read.1 == 4096 * page_count read.0 then Some (kind.Slice read.0 read.1) else None

-- the slice: 1 to 1,000 terms behind their number, and their pages
unfoldable pub slice_in : List ℕ → Option Record
slice_in bytes = do
  count ← number_at w16 bytes
  if count.0 == 0 || nat_lt 1000 count.0 then None else (many_at term_at count.0 count.1 >>= slice_of)

-- a record that is nothing but its kind
abbrev pub alone : Record → List ℕ → Option Record
alone entry bytes = if is_end bytes then Some entry else None

-- what stands behind the byte of each kind
abbrev pub record_of : ℕ → List ℕ → Option Record
record_of (suc zero) bytes = schema_in bytes
record_of (suc (suc zero)) bytes = change_in bytes >>= λ made. Some (kind.Change made)
record_of (suc (suc (suc zero))) bytes = load_in bytes
record_of (suc (suc (suc (suc zero)))) bytes = alone kind.Begin bytes
record_of (suc (suc (suc (suc (suc zero))))) bytes = slice_in bytes
record_of (suc (suc (suc (suc (suc (suc zero)))))) bytes = alone kind.Publish bytes
record_of _ bytes = None

-- the record that a body says, if it says one
unfoldable pub record_in : List ℕ → Option Record
record_in [] = None
record_in (first ∷ bytes) = record_of first bytes
