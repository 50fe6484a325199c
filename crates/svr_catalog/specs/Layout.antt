-- Words of private clauses: what is kept of a catalog, and lists on their way from the documents before a change to those after it.
use Rattle.std.specs.Prelude.{◌≡◌, ℕ, ◌==◌, Bool, List, [], Option, None, Some, if◌then◌else◌}
use Rattle.svr_listing.specs.declared.document.Document.{Document}
use Rattle.svr_listing.specs.Kept.{AreDocuments}
use Rattle.svr_listing.specs.Listing.{document_at, documents_of, score_in}
use Rattle.svr_listing.specs.Served.{IsServed, Served, after, change}
use Rattle.svr_lists.specs.Lists.{ComesWithText, GoesAway, IsAtScores, IsRescored, ListsValue, StandsForServed}
use Rattle.svr_lists.specs.declared.publish.DocumentText.{DocumentText}
use Rattle.svr_num.specs.declared.hit.Hit.{Hit}
use Rattle.svr_rows.specs.Rows.{TableRows}
use Rattle.svr_rows.specs.declared.change.Change.{Change}
use Rattle.svr_rows.specs.declared.change.Change.TheVariants.{Insert, Update, Delete}
use Rattle.svr_rows.specs.declared.row.Row.{Row}
use Rattle.svr_schema.specs.declared.schema.Schema.{Schema}
use Rattle.svr_tokens.specs.Tokens.{tokens_of}
use Rattle.svr_view.specs.Score.{score_at}
use Rattle.svr_view.specs.View.{AreTablesOf, StandsFor}
use Rattle.svr_catalog.specs.declared.contents.Contents.{Contents}
use Rattle.svr_catalog.specs.Catalog.{documents_in, text_of}
use Rattle.svr_catalog.specs.Listed.{listed_with_rows}
use Rattle.svr_catalog.specs.Stands.{CatalogValue, Stands}

-- tables of a lawful schema's columns, the scores over their rows, and lists of documents with these scores
pub record IsCatalog (schema : Schema) (contents : Contents) : Type 0 where
  pub tables : AreTablesOf schema contents.tables
  pub scores : StandsFor schema contents.tables contents.scores
  pub lists : IsAtScores (score_at schema contents.tables) contents.lists

-- the documents that rows make
abbrev pub documents_from : Schema → List TableRows → List Document
documents_from schema tables = documents_in (record { schema = schema; tables = tables })

-- contents with their schema, as callers see them
abbrev pub value_of : Schema → Contents → CatalogValue
value_of schema contents = record { catalog = record { schema = schema; tables = contents.tables }; lists = contents.lists }

-- the text of a document's row, empty where there is none
abbrev pub text_or_none : Schema → Option Row → List ℕ
text_or_none schema None = []
text_or_none schema (Some row) = text_of schema row

-- a row, or where there is none another
abbrev pub row_or : Option Row → Option Row → Option Row
row_or None other = other
row_or (Some row) other = Some row

-- the row that a change puts in the place of a document's row
abbrev pub edited_in : Schema → Change → Option Row
edited_in schema (Insert at row) = None
edited_in schema (Update at row) = if at == schema.text_table then Some row else None
edited_in schema (Delete at id) = None

-- lists that stood for a listing of these documents stand for what it is after the change to those
abbrev pub Carries : List Document → List Document → ListsValue → ListsValue → Type 0
Carries before now old new =
    (s : Served) → IsServed tokens_of s → documents_of s.listing ≡ before → StandsForServed old s → StandsForServed new (after s (change now))

-- contents that stood for a listing stand for what it is after the inserts of rows into a table
abbrev pub CarriesRows : Schema → Contents → Contents → ℕ → List Row → Type 0
CarriesRows schema old new at rows =
    (s : Served) → Stands (value_of schema old) s
    → Stands (value_of schema new) (listed_with_rows (value_of schema old).catalog s at rows)

-- ---- one document after the other

-- what a move does to a document that has, or comes with, this text, by its scores before and after
abbrev pub MovesBy : Option ℕ → Option ℕ → List ℕ → Option Document → Option Document → Type 0
MovesBy old None text before now = GoesAway before now
MovesBy None (Some score) text before now = ComesWithText score text before now
MovesBy (Some old) (Some score) text before now = IsRescored score text before now

-- a document with another score
abbrev pub rescored : ℕ → Document → Document
rescored score d = record { id = d.id; score = score; text = d.text; terms = d.terms }

-- halfway through a change a document that stays has its new score and its old text
abbrev pub halfway : Option Document → Option Document → Option Document
halfway None now = now
halfway (Some d) None = None
halfway (Some d) (Some e) = Some (rescored e.score d)

-- lists in the middle of a change: what was seen is halfway, and all else as it was
pub record IsMidway (before now : List Document) (seen : ℕ → Bool) (old new : ListsValue) : Type 0 where
  pub mid : List Document
  pub are : AreDocuments tokens_of mid
  pub at : (id : ℕ) → document_at mid id
      ≡ (if seen id then halfway (document_at before id) (document_at now id) else document_at before id)
  pub carries : Carries before mid old new
  pub at_scores : IsAtScores (score_in mid) new

-- ---- documents that are shown

-- id and score of one
abbrev pub hit_shown : DocumentText → Hit
hit_shown d = record { id = d.id; score = d.score }
