-- A schema, the rows of its tables, and the documents that they make.
use Rattle.std.specs.Prelude.{ℕ, List, [], map, slice_get, Option, None, Some}
use Rattle.svr_listing.specs.declared.document.Document.{Document}
use Rattle.svr_listing.specs.Listing.{document_with}
use Rattle.svr_rows.specs.Changes.{changed, inserted}
use Rattle.svr_rows.specs.Rows.{TableRows, id_of, no_rows, rows_in}
use Rattle.svr_rows.specs.declared.change.Change.{Change}
use Rattle.svr_rows.specs.declared.row.Row.{Row}
use Rattle.svr_schema.specs.declared.component.Cell.{Cell}
use Rattle.svr_schema.specs.declared.component.Cell.TheVariants as cell
use Rattle.svr_schema.specs.declared.schema.Schema.{Schema}
use Rattle.svr_tokens.specs.Tokens.{tokens_of}
use Rattle.svr_view.specs.Score.{score_of}

-- a schema and the rows of its tables
pub record Catalog : Type 0 where
  pub schema : Schema
  pub tables : List TableRows

-- a schema's tables, without rows
abbrev pub new_catalog : Schema → Catalog
new_catalog schema = record { schema = schema; tables = map no_rows schema.tables }

-- the text in a cell
abbrev pub text_in : Option Cell → List ℕ
text_in (Some (cell.Text t)) = t
text_in (Some (cell.Int n)) = []
text_in None = []

-- the text of a document's row
abbrev pub text_of : Schema → Row → List ℕ
text_of schema row = text_in (slice_get row.cells schema.text_column)

-- the document that a row makes: its id, its score over the rows of all tables, and its text with the terms of that
abbrev pub document_of : Schema → List TableRows → Row → Document
document_of schema tables row = document_with tokens_of (id_of row) (score_of schema tables row) (text_of schema row)

-- the documents: those of the rows of the table that has the text column
abbrev pub documents_in : Catalog → List Document
documents_in c = map (document_of c.schema c.tables) (rows_in c.tables c.schema.text_table)

-- after a change
abbrev pub catalog_with : Catalog → Change → Catalog
catalog_with c change = record { schema = c.schema; tables = changed c.tables change }

-- after the inserts of rows into a table
abbrev pub catalog_with_rows : Catalog → ℕ → List Row → Catalog
catalog_with_rows c at rows = record { schema = c.schema; tables = inserted c.tables at rows }
