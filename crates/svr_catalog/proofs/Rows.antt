-- The documents of a catalog by id, and what a change makes of the rows that they stand for.
use Rattle.std.proofs.Common.{◌≡◌, ℕ, ◌==◌, ◌&&◌, zero, suc, Bool, true, false, cond, List, [], ◌∷◌, map, Option, Some, None, option_map, slice_get, refl, ap, sym, subst, ◌∙◌, arith, eqb-true}
use Rattle.std.specs.List.{All}
use Rattle.std.proofs.lemmas.Bool.Decides.{nat_tests}
use Rattle.std.proofs.lemmas.Map.Keys.{sorted_from_strictly_increasing}
use Rattle.svr_listing.specs.declared.document.Document.{Document}
use Rattle.svr_listing.specs.Kept.{AreDocuments}
use Rattle.svr_listing.specs.Listing.{document_at, score_in}
use Rattle.svr_listing.proofs.Rows.{clamped_low, rows-give}
use Rattle.svr_rows.specs.Changes.{changed, refusal_of, table_of, with_rows}
use Rattle.svr_rows.specs.Kept.{IsAscending, IsTableRows}
use Rattle.svr_rows.specs.Rows.{TableRows, id_of, kinds_of, no_rows, row_at, rows_at, rows_in, with_row, without_row}
use Rattle.svr_rows.specs.declared.change.Change.{Change}
use Rattle.svr_rows.specs.declared.change.Change.TheVariants.{Insert, Update, Delete}
use Rattle.svr_rows.specs.declared.row.Row.{Row}
use Rattle.svr_rows.proofs.Lawful.{IsTableRows-changed}
use Rattle.svr_rows.proofs.Sums.{IsTableRows-all_no_rows, IsTableRows-at}
use Rattle.svr_schema.specs.declared.schema.Schema.{Schema}
use Rattle.svr_schema.specs.declared.table.ColumnKind.{ColumnKind}
use Rattle.svr_schema.specs.declared.table.Table.{Table}
use Rattle.svr_schema.specs.Lawful.{IsSchema}
use Rattle.svr_tokens.specs.Tokens.{tokens_of}
use Rattle.svr_view.specs.Layout.{id_changed, row_after}
use Rattle.svr_view.specs.Score.{score_at, score_of}
use Rattle.svr_view.specs.View.{AreTablesOf}
use Rattle.svr_view.proofs.Empty.{rows_in-no_rows}
use Rattle.svr_view.proofs.Noted.{row_at-changed}
use Rattle.svr_view.proofs.Recounted.{place_changed, rows-apart}
use Rattle.svr_catalog.specs.Catalog.{document_of, documents_in, text_of}

module _ (s : Schema) (tables : List TableRows) where
  -- the document with an id is that of its row
  document_at-from : (rows : List Row) (id : ℕ)
      → document_at (map (document_of s tables) rows) id ≡ option_map (document_of s tables) (row_at rows id)
  document_at-from [] id = refl
  document_at-from (r ∷ rows) id = by (id_of r == id) (document_at (map (document_of s tables) rows) id) (row_at rows id) (document_at-from rows id)
    where
      by : (b : Bool) (x : Option Document) (y : Option Row) → x ≡ option_map (document_of s tables) y
          → cond b (Some (document_of s tables r)) x ≡ option_map (document_of s tables) (cond b (Some r) y)
      by true x y e = refl
      by false x y e = e

  -- the same in a catalog
  pub document_at-row : (id : ℕ) → document_at (documents_in (record { schema = s; tables = tables })) id
      ≡ option_map (document_of s tables) (row_at (rows_in tables s.text_table) id)
  document_at-row id = document_at-from (rows_in tables s.text_table) id

  score-of_row : (o : Option Row) → option_map (λ (d : Document). d.score) (option_map (document_of s tables) o) ≡ option_map (score_of s tables) o
  score-of_row None = refl
  score-of_row (Some r) = refl

  -- its score is that of the rows
  pub score_in-documents : (id : ℕ) → score_in (documents_in (record { schema = s; tables = tables })) id ≡ score_at s tables id
  unfolding score_at
  score_in-documents id =
      ap (option_map (λ (d : Document). d.score)) (document_at-row id) ∙ score-of_row (row_at (rows_in tables s.text_table) id)

ascending-at : (tables : List TableRows) (place : ℕ) (o : Option TableRows) → All IsTableRows tables → slice_get tables place ≡ o
    → IsAscending (rows_at o)
ascending-at tables place None lawful e = sorted_from_strictly_increasing [] (λ k i. absurd (omega (arith, i)))
ascending-at tables place (Some there) lawful e = (IsTableRows-at tables place there lawful e).ascending

-- rows of lawful tables make documents
pub documents-are : (s : Schema) (tables : List TableRows) → AreTablesOf s tables
    → AreDocuments tokens_of (documents_in (record { schema = s; tables = tables }))
documents-are s tables of =
    rows-give tokens_of id_of (score_of s tables) (text_of s) (λ row. clamped_low _) (rows_in tables s.text_table)
    (ascending-at tables s.text_table (slice_get tables s.text_table) of.rows refl)

-- ---- a change

-- an id is that of the document whose row a change changes
abbrev pub is_own : Schema → Change → ℕ → Bool
is_own s change id = (table_of change == s.text_table) && (id_changed change == id)

module _ (s : Schema) (tables : List TableRows) (change : Change) (accepted : refusal_of tables change ≡ None) where
  here-changed : table_of change ≡ s.text_table → (id : ℕ) → row_at (rows_in (changed tables change) s.text_table) id
      ≡ cond (id_changed change == id) (row_after change) (row_at (rows_in tables s.text_table) id)
  here-changed here id =
      subst (λ at. row_at (rows_in (changed tables change) at) id ≡ cond (id_changed change == id) (row_after change) (row_at (rows_in tables at) id))
      here (row_at-changed tables change id (place_changed tables change accepted))

  -- a document's row after a change
  pub row_at-after : (id : ℕ) → row_at (rows_in (changed tables change) s.text_table) id
      ≡ cond (is_own s change id) (row_after change) (row_at (rows_in tables s.text_table) id)
  row_at-after id = by (table_of change == s.text_table) refl
    where
      by : (b : Bool) → (table_of change == s.text_table) ≡ b → row_at (rows_in (changed tables change) s.text_table) id
          ≡ cond (b && (id_changed change == id)) (row_after change) (row_at (rows_in tables s.text_table) id)
      by true e = here-changed (eqb-true (table_of change) s.text_table e) id
      by false e =
          ap (λ (rows : List Row). row_at rows id)
          (rows-apart tables change s.text_table (λ same. (let yes : (table_of change == s.text_table) ≡ true = grind (arith, nat_tests) in absurd (let bad : true ≡ false = sym yes ∙ e in cc))))

-- ---- tables of a schema

kinds-with_rows : (tables : List TableRows) (place : ℕ) (rows : List Row)
    → map (λ t. t.kinds) (with_rows tables place rows) ≡ map (λ t. t.kinds) tables
unfolding with_rows
kinds-with_rows [] place rows = refl
kinds-with_rows (t ∷ tables) zero rows = refl
kinds-with_rows (t ∷ tables) (suc place) rows = ap (λ (ks : List (List ColumnKind)). t.kinds ∷ ks) (kinds-with_rows tables place rows)

kinds-changed : (tables : List TableRows) (change : Change) → map (λ t. t.kinds) (changed tables change) ≡ map (λ t. t.kinds) tables
kinds-changed tables (Insert at row) = kinds-with_rows tables at (with_row (rows_in tables at) row)
kinds-changed tables (Update at row) = kinds-with_rows tables at (with_row (rows_in tables at) row)
kinds-changed tables (Delete at id) = kinds-with_rows tables at (without_row (rows_in tables at) id)

-- a change keeps them
pub AreTablesOf-changed : (s : Schema) (tables : List TableRows) (change : Change) → AreTablesOf s tables → refusal_of tables change ≡ None
    → AreTablesOf s (changed tables change)
AreTablesOf-changed s tables change of accepted = record {
  lawful = of.lawful;
  kinds = kinds-changed tables change ∙ of.kinds;
  rows = IsTableRows-changed tables change of.rows accepted;
}

kinds-no_rows : (tables : List Table) → map (λ t. t.kinds) (map no_rows tables) ≡ map kinds_of tables
kinds-no_rows [] = refl
kinds-no_rows (t ∷ tables) = ap (λ (ks : List (List ColumnKind)). kinds_of t ∷ ks) (kinds-no_rows tables)

-- they begin without rows
pub AreTablesOf-no_rows : (s : Schema) → IsSchema s → AreTablesOf s (map no_rows s.tables)
AreTablesOf-no_rows s lawful = record {
  lawful = lawful;
  kinds = kinds-no_rows s.tables;
  rows = IsTableRows-all_no_rows s.tables lawful.tables;
}

pub documents-no_rows : (s : Schema) → documents_in (record { schema = s; tables = map no_rows s.tables }) ≡ []
documents-no_rows s = ap (map (document_of s (map no_rows s.tables))) (rows_in-no_rows s.tables s.text_table)

pub score_at-no_rows : (s : Schema) (id : ℕ) → score_at s (map no_rows s.tables) id ≡ None
score_at-no_rows s id =
    sym (score_in-documents s (map no_rows s.tables) id) ∙ ap (λ (ds : List Document). score_in ds id) (documents-no_rows s)
