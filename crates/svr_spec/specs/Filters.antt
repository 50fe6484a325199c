-- Which rows a filter lets pass.
use Rattle.std.specs.Prelude.{ℕ, Bool, true, false, List, slice_get, Option, Some, None}
use Rattle.std.specs.Str.{bytes_eq}
use Rattle.std.specs.Ordering.{int_eq}
use Rattle.svr_schema.specs.declared.component.Cell.{Cell}
use Rattle.svr_schema.specs.declared.component.Cell.TheVariants as cell
use Rattle.svr_schema.specs.declared.component.Filter.{Filter}

-- two cells hold the same number, or the same text
abbrev pub same_cell : Cell → Cell → Bool
same_cell (cell.Int m) (cell.Int n) = int_eq m n
same_cell (cell.Text s) (cell.Text t) = bytes_eq s t
same_cell (cell.Int m) (cell.Text t) = false
same_cell (cell.Text s) (cell.Int n) = false

abbrev pub holds_cell : Cell → Option Cell → Bool
holds_cell wanted (Some c) = same_cell wanted c
holds_cell wanted None = false

-- the filter's column holds the value that it asks for; where there is no filter, each row passes
abbrev pub passes : Option Filter → List Cell → Bool
passes None cells = true
passes (Some f) cells = holds_cell f.equals (slice_get cells f.column)
