-- The documents of rows, as they are shown to the lists.
use Rattle.std.proofs.Common.{◌≡◌, ℕ, ◌==◌, Bool, true, false, cond, List, [], ◌∷◌, ◌++◌, find, map, append_assoc}
use Rattle.std.proofs.Common.{Option, Some, None, option_map, refl, ap, ap₂, sym, subst, ◌∙◌}
use Rattle.std.specs.List.{AllByRecursion, filter}
use Rattle.std.proofs.lemmas.List.{append-nil, map-append}
use Rattle.std.proofs.lemmas.Simd.{map-map}
use Rattle.svr_listing.specs.declared.document.Document.{Document}
use Rattle.svr_listing.specs.Listing.{document_at, hit_of}
use Rattle.svr_listing.proofs.Finding.{at_itself}
use Rattle.svr_lists.specs.Merges.{AreScoresOf}
use Rattle.svr_lists.specs.Publish.{AreScoresIn, Shows, row_of, shown_row}
use Rattle.svr_lists.specs.declared.publish.DocumentText.{DocumentText}
use Rattle.svr_num.specs.declared.hit.Hit.{Hit}
use Rattle.svr_rows.specs.Rows.{TableRows, id_of, rows_above, rows_in}
use Rattle.svr_rows.specs.declared.row.Row.{Row}
use Rattle.svr_rows.proofs.Walked.{rows_above-none}
use Rattle.svr_schema.specs.declared.schema.Schema.{Schema}
use Rattle.svr_view.specs.Score.{score_at, score_of}
use Rattle.svr_view.specs.View.{AreTablesOf, StandsFor, Viewed, score_in as kept_score}
use Rattle.svr_catalog.specs.Catalog.{document_of, text_of}
use Rattle.svr_catalog.specs.Layout.{documents_from, hit_shown}
use Rattle.svr_catalog.proofs.Rows.{documents-are, score_in-documents}

-- id, score and text of the document of a row
abbrev pub row_shown : Schema → List TableRows → Row → ℕ × ℕ × List ℕ
row_shown s tables row = row_of (document_of s tables row)

-- ---- the score of a row's document is kept

passed : (P : Row → Type 0) (test : Row → Bool) (rows : List Row) → AllByRecursion P rows → AllByRecursion P (filter test rows)
passed P test [] all = tt
passed P test (r ∷ rows) all = by (test r) (passed P test rows all.1)
  where
    by : (b : Bool) → AllByRecursion P (filter test rows) → AllByRecursion P (cond b (r ∷ filter test rows) (filter test rows))
    by true rest = (all.0, rest)
    by false rest = rest

module _ (s : Schema) (tables : List TableRows) (v : Viewed) (of : AreTablesOf s tables) (stands : StandsFor s tables v) where
  abbrev IsKept : Row → Type 0
  IsKept row = kept_score v (id_of row) ≡ Some (score_of s tables row)

  each-kept : (rows : List Row)
      → AllByRecursion (λ d. document_at (documents_from s tables) d.id ≡ Some d) (map (document_of s tables) rows) → AllByRecursion IsKept rows
  each-kept [] all = tt
  each-kept (r ∷ rows) all = (
    stands.scores (id_of r)
        ∙ sym (score_in-documents s tables (id_of r))
        ∙ ap (option_map (λ (d : Document). d.score)) all.0,
    each-kept rows all.1,
  )

  -- that of the next row
  pub kept-next : (after : Option ℕ) (row : Row) (rest : List Row) → rows_above (rows_in tables s.text_table) after ≡ row ∷ rest → IsKept row
  kept-next after row rest next =
      let all = each-kept (rows_in tables s.text_table) (at_itself (documents_from s tables) (documents-are s tables of).ascend) in
      (subst (AllByRecursion IsKept) next (passed IsKept _ (rows_in tables s.text_table) all)).0

-- ---- scores by id

-- what is found by a number of what is read of elements
found-read : {A B : Type 0} (f : A → B) (id score : B → ℕ) (xs : List A) (key : ℕ)
    → option_map score (find (λ y. id y == key) (map f xs)) ≡ option_map (λ x. score (f x)) (find (λ x. id (f x) == key) xs)
found-read f id score [] key = refl
found-read {A = A} {B = B} f id score (x ∷ xs) key =
    by (id (f x) == key) (find (λ y. id y == key) (map f xs)) (find (λ x. id (f x) == key) xs) (found-read f id score xs key)
  where
    by : (b : Bool) (o : Option B) (p : Option A) → option_map score o ≡ option_map (λ x. score (f x)) p
        → option_map score (cond b (Some (f x)) o) ≡ option_map (λ x. score (f x)) (cond b (Some x) p)
    by true o p same = refl
    by false o p same = same

-- hits of documents have their scores
pub scores-hits : (s : Schema) (tables : List TableRows) (hits : List Hit) → hits ≡ map hit_of (documents_from s tables)
    → AreScoresOf hits (score_at s tables)
scores-hits s tables hits are id =
    sym (score_in-documents s tables id)
    ∙ sym (found-read hit_of (λ h. h.id) (λ h. h.score) (documents_from s tables) id)
    ∙ ap (λ (hs : List Hit). option_map (λ d. d.score) (find (λ d. d.id == id) hs)) (sym are)

-- those that are shown too
pub scores-shown : (s : Schema) (tables : List TableRows) (shown : List DocumentText) → Shows shown (documents_from s tables)
    → AreScoresIn shown (score_at s tables)
scores-shown s tables shown shows id =
    sym (score_in-documents s tables id)
    ∙ sym (found-read row_of (λ r. r.0) (λ r. r.1) (documents_from s tables) id)
    ∙ ap (λ (rs : List (ℕ × ℕ × List ℕ)). option_map (λ r. r.1) (find (λ r. r.0 == id) rs)) (sym shows)
    ∙ found-read shown_row (λ r. r.0) (λ r. r.1) shown id

-- ---- hits

abbrev hit_row : ℕ × ℕ × List ℕ → Hit
hit_row r = record { id = r.0; score = r.1 }

-- the hits of documents as they are shown
pub hits-shown : (shown : List DocumentText) (documents : List Document) → Shows shown documents → map hit_shown shown ≡ map hit_of documents
hits-shown shown documents shows =
    sym (map-map hit_row shown_row shown) ∙ ap (map hit_row) shows ∙ map-map hit_row row_of documents

-- ---- the walk

module _ (s : Schema) (tables : List TableRows) where
  abbrev rows : List Row
  rows = rows_in tables s.text_table

  -- before the first
  pub shows-none : (shown : List DocumentText) → shown ≡ []
      → map shown_row shown ++ map (row_shown s tables) (rows_above rows None) ≡ map (row_shown s tables) rows
  shows-none shown none =
      ap (λ (ds : List DocumentText). map shown_row ds ++ map (row_shown s tables) (rows_above rows None)) none
      ∙ ap (map (row_shown s tables)) (rows_above-none rows)

  -- a document more
  pub shows-more : (shown more : List DocumentText) (d : DocumentText) (row : Row) (left rest : List Row) → more ≡ shown ++ d ∷ []
      → left ≡ row ∷ rest → shown_row d ≡ row_shown s tables row
      → map shown_row shown ++ map (row_shown s tables) left ≡ map (row_shown s tables) rows
      → map shown_row more ++ map (row_shown s tables) rest ≡ map (row_shown s tables) rows
  shows-more shown more d row left rest now next same before =
      ap (λ (ds : List DocumentText). map shown_row ds ++ map (row_shown s tables) rest) now
      ∙ ap (λ (rs : List (ℕ × ℕ × List ℕ)). rs ++ map (row_shown s tables) rest) (map-append shown_row shown (d ∷ []))
      ∙ append_assoc (map shown_row shown) (shown_row d ∷ []) (map (row_shown s tables) rest)
      ∙ ap (λ (r : ℕ × ℕ × List ℕ). map shown_row shown ++ r ∷ map (row_shown s tables) rest) same
      ∙ ap (λ (rs : List Row). map shown_row shown ++ map (row_shown s tables) rs) (sym next)
      ∙ before

  -- where none is left, they are all
  pub shows-all : (shown : List DocumentText) (left : List Row) → left ≡ []
      → map shown_row shown ++ map (row_shown s tables) left ≡ map (row_shown s tables) rows → Shows shown (documents_from s tables)
  shows-all shown left none all =
      sym (append-nil (map shown_row shown))
      ∙ ap (λ (rs : List Row). map shown_row shown ++ map (row_shown s tables) rs) (sym none)
      ∙ all
      ∙ sym (map-map row_of (document_of s tables) rows)

  -- the document of a row, by its parts
  pub shows-row : (d : DocumentText) (row : Row) (score : Option ℕ) → d.id ≡ id_of row → Some d.score ≡ score
      → score ≡ Some (score_of s tables row) → d.text.now ≡ text_of s row → shown_row d ≡ row_shown s tables row
  shows-row d row score id some is text =
      let both : Some d.score ≡ Some (score_of s tables row) = some ∙ is in
      let same : d.score ≡ score_of s tables row = cc in
      ap (λ (n : ℕ). (n, d.score, d.text.now)) id
      ∙ ap₂ (λ (n : ℕ) (t : List ℕ). (id_of row, n, t)) same text
