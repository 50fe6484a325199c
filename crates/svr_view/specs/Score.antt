-- The score of a document over the rows of all tables, as they are.
use Rattle.std.specs.Prelude.{ℕ, ℤ, pos, ◌&&◌, Bool, List, [], map, slice_get, Option, Some, None, option_map}
use Rattle.std.specs.List.{filter}
use Rattle.std.specs.Ordering.{int_eq}
use Rattle.svr_num.specs.Aggregates.{aggregate_of}
use Rattle.svr_rows.specs.declared.row.Row.{Row}
use Rattle.svr_rows.specs.Rows.{TableRows, id_of, row_at, rows_in}
use Rattle.svr_schema.specs.declared.component.Cell.{Cell}
use Rattle.svr_schema.specs.declared.component.Cell.TheVariants as cell
use Rattle.svr_schema.specs.declared.component.Component.{Component}
use Rattle.svr_schema.specs.declared.component.Component.TheVariants.{Own, Over}
use Rattle.svr_schema.specs.declared.component.Filter.{Filter}
use Rattle.svr_schema.specs.declared.schema.Schema.{Schema}
use Rattle.svr_spec.specs.Filters.{passes}
use Rattle.svr_spec.specs.Weights.{weighted_score}

-- the number in a cell
abbrev pub number_in : Option Cell → ℤ
number_in (Some (cell.Int n)) = n
number_in (Some (cell.Text t)) = pos 0
number_in None = pos 0

-- the number in a column of a row
abbrev pub number_at : ℕ → Row → ℤ
number_at column row = number_in (slice_get row.cells column)

-- a row counts for a document: its `by` column holds the document's id, and it passes the filter
abbrev pub counts_for : ℕ → Option Filter → ℕ → Row → Bool
counts_for by f id row = int_eq (number_at by row) (pos id) && passes f row.cells

-- the values of a column in the rows that count for a document
abbrev pub counted : List Row → ℕ → ℕ → Option Filter → ℕ → List ℤ
counted rows by column f id = map (number_at column) (filter (counts_for by f id) rows)

-- the same of a component; a component of the documents' own rows counts none
abbrev pub counted_values : List TableRows → Component → ℕ → List ℤ
counted_values tables (Own column weight) id = []
counted_values tables (Over how table by column weight empty f) id = counted (rows_in tables table) by column f id

-- the value of a component for the document of a row
abbrev pub component_of : List TableRows → Row → Component → ℤ
component_of tables row (Own column weight) = number_at column row
component_of tables row (Over how table by column weight empty f) =
    aggregate_of how empty (counted (rows_in tables table) by column f (id_of row))

-- the score of the document of a row
abbrev pub score_of : Schema → List TableRows → Row → ℕ
score_of schema tables row = weighted_score schema (map (component_of tables row) schema.components)

-- the score of the document with an id, if there is one
unfoldable pub score_at : Schema → List TableRows → ℕ → Option ℕ
score_at schema tables id = option_map (score_of schema tables) (row_at (rows_in tables schema.text_table) id)
