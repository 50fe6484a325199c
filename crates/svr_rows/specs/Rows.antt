-- Rows: of each table the list of its rows in ascending order of id, each id once.
use Rattle.std.specs.Prelude.{◌≡◌, ℕ, ◌+◌, ◌==◌, Bool, true, false, not, pos, negsuc, List, [], ◌∷◌}
use Rattle.std.specs.Prelude.{length, map, sum_by, find, slice_get, nat_lt, if◌then◌else◌, Option, Some, None}
use Rattle.std.specs.List.{filter, list_any}
use Rattle.svr_schema.specs.declared.component.Cell.{Cell}
use Rattle.svr_schema.specs.declared.component.Cell.TheVariants as cell
use Rattle.svr_schema.specs.declared.table.ColumnKind.{ColumnKind}
use Rattle.svr_schema.specs.declared.table.Table.{Table}
use Rattle.svr_schema.specs.Lookups.{is_kind}
use Rattle.svr_schema.specs.Lawful.{kind_of}
use Rattle.svr_idmap.specs.Ids.{is_above}
use Rattle.svr_rows.specs.declared.row.Row.{Row}
use Rattle.svr_rows.specs.declared.row.Given.{Given}
use Rattle.svr_rows.specs.declared.row.Given.TheVariants as given

-- the cell that a value makes, if it makes one
abbrev pub cell_in : Given → Option Cell
cell_in (given.Int n) = Some (cell.Int n)
cell_in (given.Text t) = Some (cell.Text t)
cell_in given.Other = None

abbrev pub fits : Option Cell → ColumnKind → Bool
fits None kind = false
fits (Some c) kind = is_kind (kind_of c) kind

-- the first place, counted on from one, at which a cell is missing, superfluous or of another kind than the column
unfoldable pub misfit_from : ℕ → List ColumnKind → List (Option Cell) → Option ℕ
misfit_from at [] [] = None
misfit_from at [] (c ∷ cells) = Some at
misfit_from at (k ∷ kinds) [] = Some at
misfit_from at (k ∷ kinds) (c ∷ cells) = if fits c k then misfit_from (at + 1) kinds cells else Some at

-- the first cell is a number below 0
abbrev pub begins_negative : List (Option Cell) → Bool
begins_negative (Some (cell.Int (negsuc n)) ∷ cells) = true
begins_negative _ = false

-- the first place at which cells are no row of columns of these kinds
abbrev pub bad_column : List ColumnKind → List (Option Cell) → Option ℕ
bad_column kinds cells = if begins_negative cells then Some 0 else misfit_from 0 kinds cells

abbrev pub kinds_of : Table → List ColumnKind
kinds_of table = map (λ c. c.kind) table.columns

-- the first place, counted on from one, at which a text has more than 65,536 bytes
unfoldable pub long_text_from : ℕ → List Cell → Option ℕ
long_text_from at [] = None
long_text_from at (cell.Int n ∷ cells) = long_text_from (at + 1) cells
long_text_from at (cell.Text t ∷ cells) = if nat_lt 65536 (length t) then Some at else long_text_from (at + 1) cells

-- the row is one of columns of these kinds
abbrev pub IsRowOf : List ColumnKind → Row → Type 0
IsRowOf kinds row = bad_column kinds (map Some row.cells) ≡ None

-- the first cell is a number that isn't negative
abbrev pub HasId : Row → Type 0
HasId row = (n : ℕ) × (cells : List Cell) × (row.cells ≡ cell.Int (pos n) ∷ cells)

abbrev pub id_in : List Cell → ℕ
id_in (cell.Int (pos n) ∷ cells) = n
id_in _ = 0

abbrev pub id_of : Row → ℕ
id_of row = id_in row.cells

abbrev pub has_row : List Row → ℕ → Bool
has_row rows id = list_any (λ row. id_of row == id) rows

abbrev pub row_at : List Row → ℕ → Option Row
row_at rows id = find (λ row. id_of row == id) rows

-- the first row whose id is above the given one, or of all; in ascending rows that of the least such id
abbrev pub row_after : List Row → Option ℕ → Option Row
row_after rows after = find (λ row. is_above after (id_of row)) rows

-- the rows whose ids are above the given one, or all
abbrev pub rows_above : List Row → Option ℕ → List Row
rows_above rows after = filter (λ row. is_above after (id_of row)) rows

-- the rows with this one, in the place of its id, and in place of the one that has its id
unfoldable pub with_row : List Row → Row → List Row
with_row [] row = row ∷ []
with_row (r ∷ rows) row =
    if nat_lt (id_of row) (id_of r) then row ∷ r ∷ rows else (if id_of r == id_of row then row ∷ rows else r ∷ with_row rows row)

-- the rows without the one that has the id
abbrev pub without_row : List Row → ℕ → List Row
without_row rows id = filter (λ row. not (id_of row == id)) rows

-- a table: the kinds of its columns, and its rows
pub record TableRows : Type 0 where
  pub kinds : List ColumnKind
  pub rows : List Row

abbrev pub no_rows : Table → TableRows
no_rows table = record { kinds = kinds_of table; rows = [] }

-- of the table at a place; none where there is no such table
abbrev pub rows_at : Option TableRows → List Row
rows_at None = []
rows_at (Some t) = t.rows

abbrev pub rows_in : List TableRows → ℕ → List Row
rows_in tables at = rows_at (slice_get tables at)

abbrev pub kinds_at : Option TableRows → List ColumnKind
kinds_at None = []
kinds_at (Some t) = t.kinds

abbrev pub kinds_in : List TableRows → ℕ → List ColumnKind
kinds_in tables at = kinds_at (slice_get tables at)

abbrev pub cell_bytes : Cell → ℕ
cell_bytes (cell.Int n) = 0
cell_bytes (cell.Text t) = length t

abbrev pub row_bytes : Row → ℕ
row_bytes row = sum_by cell_bytes row.cells

-- the bytes of all texts of all tables
abbrev pub text_bytes : List TableRows → ℕ
text_bytes tables = sum_by (λ t. sum_by row_bytes t.rows) tables
