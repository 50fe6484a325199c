-- Words of private clauses: what is remembered of the rows of a load that were accepted, and how the next is tested beside them.
use Rattle.std.specs.Prelude.{◌≡◌, ◌≤◌, ℕ, ◌+◌, true, false, if◌then◌else◌, ◌||◌, List, length, slice_get, nat_lt, nat_le}
use Rattle.std.specs.Prelude.{Option, None, Some}
use Rattle.std.specs.BTreeSet.{btree_set_len, contains}
use Rattle.std.specs.BTreeMap.{is_at}
use Rattle.std.specs.Ordering.{nat_cmp}
use Rattle.svr_rows.specs.declared.row.Row.{Row}
use Rattle.svr_rows.specs.declared.load.Ahead.{Ahead}
use Rattle.svr_rows.specs.declared.change.RowRefusal.{RowRefusal}
use Rattle.svr_rows.specs.declared.change.RowRefusal.TheVariants.{NoTable, KeyExists, TableFull, TextFull}
use Rattle.svr_rows.specs.Rows.{TableRows, has_row, id_of, row_bytes, rows_in, text_bytes}
use Rattle.svr_rows.specs.Changes.{inserted, load_refusal, or_then, refuse_if, row_refusal, with_rows}

-- an id that is in the table or ahead, or a table without room for one more row after those ahead
abbrev pub refusal_of_new : TableRows → Ahead → ℕ → Option RowRefusal
refusal_of_new t ahead id =
    or_then (refuse_if (has_row t.rows id || contains nat_cmp ahead.ids id) KeyExists)
    (refuse_if (nat_le 262144 (length t.rows + btree_set_len ahead.ids)) TableFull)

abbrev pub refusal_beside_at : Option TableRows → Ahead → Row → Option RowRefusal
refusal_beside_at None ahead row = Some NoTable
refusal_beside_at (Some t) ahead row =
    or_then (row_refusal t row)
    (or_then (refusal_of_new t ahead (id_of row)) (refuse_if (nat_lt 67108864 (ahead.bytes + row_bytes row)) TextFull))

-- why a row is refused after those ahead, in the order in which it is tested
abbrev pub refusal_beside : List TableRows → ℕ → Ahead → Row → Option RowRefusal
refusal_beside tables place ahead row = refusal_beside_at (slice_get tables place) ahead row

-- the row is one more of those ahead
pub record Adds (old : Ahead) (row : Row) (new : Ahead) : Type 0 where
  pub has : (id : ℕ) → contains nat_cmp new.ids id ≡ (if is_at (nat_cmp (id_of row)) id then true else contains nat_cmp old.ids id)
  pub count : contains nat_cmp old.ids (id_of row) ≡ false → btree_set_len new.ids ≡ btree_set_len old.ids + 1
  pub bytes : new.bytes ≡ old.bytes + row_bytes row

-- none of the rows is refused, and they are those ahead
pub record IsAhead (tables : List TableRows) (place : ℕ) (rows : List Row) (ahead : Ahead) : Type 0 where
  pub accepted : load_refusal tables place rows ≡ None
  pub now : List Row
  pub tables_now : inserted tables place rows ≡ with_rows tables place now
  pub has : (id : ℕ) → has_row now id ≡ (has_row (rows_in tables place) id || contains nat_cmp ahead.ids id)
  pub count : length now ≡ length (rows_in tables place) + btree_set_len ahead.ids
  pub bytes : ahead.bytes ≡ text_bytes (with_rows tables place now)
  pub few : ahead.bytes ≤ 67108864
