-- The rows of a block of CSV.
use Rattle.std.specs.Prelude.{◌≡◌, ◌≤◌, ℕ, Bool, List, [], ◌∷◌, drop, length}
use Rattle.std.specs.Prelude.{map, filter_map, if◌then◌else◌, Option, Some, None, option_map, Result, Ok, Err}
use Rattle.std.specs.List.{All, position_from}
use Rattle.std.specs.Option.{is_none, option_and_then}
use Rattle.std.specs.Str.{is_utf8}
use Rattle.csv.specs.Reading.{default_config, records, strip_bom}
use Rattle.svr_num.specs.Digits.{int_in}
use Rattle.svr_schema.specs.declared.component.Cell.{Cell}
use Rattle.svr_schema.specs.declared.component.Cell.TheVariants as cell
use Rattle.svr_schema.specs.declared.table.ColumnKind.{ColumnKind}
use Rattle.svr_schema.specs.declared.table.ColumnKind.TheVariants as kind
use Rattle.svr_rows.specs.declared.row.Row.{Row}
use Rattle.svr_rows.specs.Rows.{IsRowOf, begins_negative}

-- the cell that a field is in a column of the kind, if it is one
abbrev pub field_cell : ColumnKind → List ℕ → Option Cell
field_cell kind.Int field = option_map (λ n. cell.Int n) (int_in field)
field_cell kind.Text field = if is_utf8 field then Some (cell.Text field) else None

-- both, one in front of the other, if there are both
abbrev pub in_front : Option Cell → Option (List Cell) → Option (List Cell)
in_front (Some c) (Some cells) = Some (c ∷ cells)
in_front (Some c) None = None
in_front None cells = None

-- a cell for each field, if there are as many fields as columns and each is a cell of its column
unfoldable pub cells_in : List ColumnKind → List (List ℕ) → Option (List Cell)
cells_in [] [] = Some []
cells_in [] (f ∷ fields) = None
cells_in (k ∷ kinds) [] = None
cells_in (k ∷ kinds) (f ∷ fields) = in_front (field_cell k f) (cells_in kinds fields)

-- the row of these cells, unless its id is negative
abbrev pub row_with : List Cell → Option Row
row_with cells = if begins_negative (map Some cells) then None else Some (record { cells = cells })

-- the row that a record is under columns of these kinds, if it is one
abbrev pub record_row : List ColumnKind → List (List ℕ) → Option Row
record_row kinds fields = option_and_then row_with (cells_in kinds fields)

-- the number, counted from 1, of the first record that is no row
abbrev pub bad_record : List ColumnKind → List (List (List ℕ)) → Option ℕ
bad_record kinds rs = position_from (λ r. is_none (record_row kinds r)) 1 rs

abbrev pub rows_unless : Option ℕ → List Row → Result (List Row) ℕ
rows_unless None rows = Ok rows
rows_unless (Some number) rows = Err number

-- the rows of all records, or the number of the first that is no row
unfoldable pub rows_in_records : List ColumnKind → List (List (List ℕ)) → Result (List Row) ℕ
rows_in_records kinds rs = rows_unless (bad_record kinds rs) (filter_map (record_row kinds) rs)

-- the rows that the records make, each of the columns, and no more than a block has bytes
pub record AreRows (kinds : List ColumnKind) (made : Result (List Row) ℕ) (rows : List Row) : Type 0 where
  pub all : made ≡ Ok rows
  pub fit : All (IsRowOf kinds) rows
  pub few : length rows ≤ 8388608

-- the records of a block, without the first where that is a header
abbrev pub records_in : Bool → List ℕ → List (List (List ℕ))
records_in header bytes = drop (if header then 1 else 0) (records default_config (strip_bom bytes))

abbrev pub rows_in_block : List ColumnKind → Bool → List ℕ → Result (List Row) ℕ
rows_in_block kinds header bytes = rows_in_records kinds (records_in header bytes)
