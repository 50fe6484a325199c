-- What a change makes of the rows, or why it is refused.
use Rattle.std.specs.Prelude.{ℕ, ◌+◌, zero, suc, Bool, not, List, [], ◌∷◌, length, map, slice_get}
use Rattle.std.specs.Prelude.{nat_lt, nat_le, if◌then◌else◌, Option, Some, None}
use Rattle.svr_rows.specs.declared.row.Row.{Row}
use Rattle.svr_rows.specs.declared.change.Change.{Change}
use Rattle.svr_rows.specs.declared.change.Change.TheVariants.{Insert, Update, Delete}
use Rattle.svr_rows.specs.declared.change.RowRefusal.{RowRefusal}
use Rattle.svr_rows.specs.declared.change.RowRefusal.TheVariants.{NoTable, BadRow, TextTooLong, KeyExists, NoRow, TableFull, TextFull}
use Rattle.svr_rows.specs.Rows.{TableRows, bad_column, has_row, id_of, long_text_from, row_at, rows_in, text_bytes, with_row, without_row}

-- the table with other rows
abbrev pub with_rows_of : TableRows → List Row → TableRows
with_rows_of t rows = record { kinds = t.kinds; rows = rows }

-- the tables with other rows in the one at a place
unfoldable pub with_rows : List TableRows → ℕ → List Row → List TableRows
with_rows [] at rows = []
with_rows (t ∷ tables) zero rows = with_rows_of t rows ∷ tables
with_rows (t ∷ tables) (suc at) rows = t ∷ with_rows tables at rows

-- the rows after a change that isn't refused
abbrev pub changed : List TableRows → Change → List TableRows
changed tables (Insert at row) = with_rows tables at (with_row (rows_in tables at) row)
changed tables (Update at row) = with_rows tables at (with_row (rows_in tables at) row)
changed tables (Delete at id) = with_rows tables at (without_row (rows_in tables at) id)

-- the row that stood in the place of the change
abbrev pub row_before : List TableRows → Change → Option Row
row_before tables (Insert at row) = row_at (rows_in tables at) (id_of row)
row_before tables (Update at row) = row_at (rows_in tables at) (id_of row)
row_before tables (Delete at id) = row_at (rows_in tables at) id

-- the first refusal, and where there is none what is tested after it
abbrev pub or_then : Option RowRefusal → Option RowRefusal → Option RowRefusal
or_then None later = later
or_then (Some why) later = Some why

abbrev pub refuse_if : Bool → RowRefusal → Option RowRefusal
refuse_if b why = if b then Some why else None

abbrev pub at_column : (ℕ → RowRefusal) → Option ℕ → Option RowRefusal
at_column why None = None
at_column why (Some column) = Some (why column)

-- a row that is no row of the table's columns, or has a long text
abbrev pub row_refusal : TableRows → Row → Option RowRefusal
row_refusal t row =
    or_then (at_column BadRow (bad_column t.kinds (map Some row.cells))) (at_column TextTooLong (long_text_from 0 row.cells))

-- an id that is there, or a table without room for one more row
abbrev pub new_refusal : TableRows → ℕ → Option RowRefusal
new_refusal t id = or_then (refuse_if (has_row t.rows id) KeyExists) (refuse_if (nat_le 262144 (length t.rows)) TableFull)

-- more bytes of text than all may have
abbrev pub text_refusal : List TableRows → Option RowRefusal
text_refusal after = refuse_if (nat_lt 67108864 (text_bytes after)) TextFull

abbrev pub refusal_at : Option TableRows → List TableRows → Change → Option RowRefusal
refusal_at None tables change = Some NoTable
refusal_at (Some t) tables (Insert at row) =
    or_then (row_refusal t row) (or_then (new_refusal t (id_of row)) (text_refusal (changed tables (Insert at row))))
refusal_at (Some t) tables (Update at row) =
    or_then (row_refusal t row)
    (or_then (refuse_if (not (has_row t.rows (id_of row))) NoRow) (text_refusal (changed tables (Update at row))))
refusal_at (Some t) tables (Delete at id) = refuse_if (not (has_row t.rows id)) NoRow

abbrev pub table_of : Change → ℕ
table_of (Insert at row) = at
table_of (Update at row) = at
table_of (Delete at id) = at

-- the first refusal that holds, in the order in which they are tested
unfoldable pub refusal_of : List TableRows → Change → Option RowRefusal
refusal_of tables change = refusal_at (slice_get tables (table_of change)) tables change

-- ---- a load: the inserts of rows into one table, one after the other

-- the tables after them
unfoldable pub inserted : List TableRows → ℕ → List Row → List TableRows
inserted tables at [] = tables
inserted tables at (row ∷ rows) = inserted (changed tables (Insert at row)) at rows

abbrev pub numbered : ℕ → Option RowRefusal → Option (ℕ × RowRefusal) → Option (ℕ × RowRefusal)
numbered n None later = later
numbered n (Some why) later = Some (n, why)

-- the first row, counted on from n, that is refused after the inserts of those before it, and why
unfoldable pub refusal_from : ℕ → List TableRows → ℕ → List Row → Option (ℕ × RowRefusal)
refusal_from n tables at [] = None
refusal_from n tables at (row ∷ rows) =
    numbered n (refusal_of tables (Insert at row)) (refusal_from (n + 1) (changed tables (Insert at row)) at rows)

-- the same, counted from 1
abbrev pub load_refusal : List TableRows → ℕ → List Row → Option (ℕ × RowRefusal)
load_refusal tables at rows = refusal_from 1 tables at rows
