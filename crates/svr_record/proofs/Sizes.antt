-- How many bytes a record's body has.
use Rattle.std.proofs.Common.{ℕ, Bool, ◌+◌, ◌*◌, ◌≤◌, List, [], ◌∷◌, length, arith, length-append}
use Rattle.std.specs.Int.{cast_unsigned, to_be_bytes, w32, w64}
use Rattle.std.specs.List.{AllByRecursion, flat_map}
use Rattle.svr_schema.specs.declared.component.Cell.{Cell}
use Rattle.svr_schema.specs.declared.component.Cell.TheVariants as cell
use Rattle.svr_rows.specs.declared.change.Change.{Change}
use Rattle.svr_rows.specs.declared.change.Change.TheVariants as change
use Rattle.svr_rows.specs.declared.row.Row.{Row}
use Rattle.svr_record.specs.declared.record.Record.TheVariants as kind
use Rattle.svr_record.specs.Bodies.{body_of, cell_body, change_body, flag, row_body}
use Rattle.svr_record.specs.Limits.{IsCell, IsChange, IsRow, IsSchemaText}
use Rattle.svr_record.proofs.Parts.{wide32, wide64}

-- a journal takes it
pub record IsSized (body : List ℕ) : Type 0 where
  pub some : 1 ≤ length body
  pub few : length body ≤ 16777216

length-cell_body : (c : Cell) → IsCell c → length (cell_body c) ≤ 65541
length-cell_body (cell.Int n) h = omega (arith, wide64.len (cast_unsigned w64 n))
length-cell_body (cell.Text text) h =
    omega (arith, wide32.len (length text), length-append (to_be_bytes w32 (length text)) text, h.few)

length-cells : (cells : List Cell) → AllByRecursion IsCell cells → length (flat_map cell_body cells) ≤ length cells * 65541
length-cells [] h = omega arith
length-cells (c ∷ cells) h =
    omega (arith, length-append (cell_body c) (flat_map cell_body cells), length-cell_body c h.0, length-cells cells h.1)

length-row_body : (row : Row) → IsRow row → length (row_body row) ≤ 524329
length-row_body row h = omega (arith, length-cells row.cells h.cells, h.few)

length-change_body : (made : Change) → IsChange made → length (change_body made) ≤ 524331
length-change_body (change.Insert table row) h = omega (arith, length-row_body row h)
length-change_body (change.Update table row) h = omega (arith, length-row_body row h)
length-change_body (change.Delete table id) h = omega (arith, wide64.len id)

pub schema-sized : (text : List ℕ) → IsSchemaText text → IsSized (body_of (kind.Schema text))
schema-sized text h = record { some = omega arith; few = omega (arith, h.few) }

pub change-sized : (made : Change) → IsChange made → IsSized (body_of (kind.Change made))
change-sized made h = record { some = omega arith; few = omega (arith, length-change_body made h) }

pub load-sized : (table : ℕ) (header : Bool) (block : List ℕ) → length block ≤ 8388608 → IsSized (body_of (kind.Load table header block))
load-sized table header block h = record { some = omega arith; few = omega (arith, h) }
