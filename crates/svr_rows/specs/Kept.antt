-- Words of private clauses: what holds of each table's rows as they are kept.
use Rattle.std.specs.Prelude.{◌≡◌, ◌≤◌, ◌<◌, ℕ, false, List, ◌∷◌, length, map, slice_get, Option, None, Some}
use Rattle.std.specs.List.{All}
use Rattle.std.specs.List.Sorted.{IsStrictlySortedBy}
use Rattle.std.specs.Map.{values_of}
use Rattle.std.specs.Ordering.{nat_cmp}
use Rattle.svr_schema.specs.declared.table.ColumnKind.{ColumnKind}
use Rattle.svr_schema.specs.declared.table.ColumnKind.TheVariants as kind
use Rattle.svr_rows.specs.declared.row.Row.{Row}
use Rattle.svr_rows.specs.Rows.{IsRowOf, TableRows, id_of, has_row, long_text_from, row_bytes, text_bytes, with_row}
use Rattle.svr_rows.specs.Changes.{row_refusal, with_rows}

-- the columns of a table: one to eight, the first of which is int
pub record IsColumns (kinds : List ColumnKind) : Type 0 where
  pub others : List ColumnKind
  pub id_first : kinds ≡ kind.Int ∷ others
  pub few : length kinds ≤ 8

-- a row of these columns, without a long text
pub record IsLawfulRow (kinds : List ColumnKind) (row : Row) : Type 0 where
  pub fits : IsRowOf kinds row
  pub short : long_text_from 0 row.cells ≡ None

-- each id once, in ascending order
abbrev pub IsAscending : List Row → Type 0
IsAscending rows = IsStrictlySortedBy nat_cmp (map id_of rows)

pub record IsTableRows (t : TableRows) : Type 0 where
  pub columns : IsColumns t.kinds
  pub ascending : IsAscending t.rows
  pub lawful : All (IsLawfulRow t.kinds) t.rows
  pub few : length t.rows ≤ 262144

-- each row with its id before it
abbrev pub by_id : List Row → List (ℕ × Row)
by_id rows = map (λ row. (id_of row, row)) rows

abbrev pub kept_rows : List ColumnKind → List (ℕ × Row) → TableRows
kept_rows kinds entries = record { kinds = kinds; rows = values_of entries }

-- a map that has each row at its id
pub record IsKept (kinds : List ColumnKind) (entries : List (ℕ × Row)) : Type 0 where
  pub keyed : entries ≡ by_id (values_of entries)
  pub rows : IsTableRows (kept_rows kinds entries)

-- the row may be put into the table at the place: it is one of its columns, and there is room for it and its texts
pub record CanPut (tables : List TableRows) (at : ℕ) (row : Row) : Type 0 where
  pub table : TableRows
  pub there : slice_get tables at ≡ Some table
  pub fits : row_refusal table row ≡ None
  pub room : has_row table.rows (id_of row) ≡ false → length table.rows < 262144
  pub texts : text_bytes (with_rows tables at (with_row table.rows row)) ≤ 67108864

-- how many bytes the texts of a row have, 0 where there is none
abbrev pub bytes_at : Option Row → ℕ
bytes_at None = 0
bytes_at (Some row) = row_bytes row

-- the count of the bytes of all texts, which is in its limit
pub record CountsTexts (bytes : ℕ) (tables : List TableRows) : Type 0 where
  pub exact : bytes ≡ text_bytes tables
  pub few : bytes ≤ 67108864
