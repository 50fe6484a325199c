-- The publish of a merge.
use Rattle.std.specs.Prelude.{◌≡◌, ℕ, ◌==◌, List, [], map, find, Option, Some, option_map}
use Rattle.svr_tokens.specs.Tokens.{tokens_of}
use Rattle.svr_listing.specs.declared.document.Document.{Document}
use Rattle.svr_listing.specs.Listing.{documents_of}
use Rattle.svr_listing.specs.Merges.{Merge, terms_left}
use Rattle.svr_listing.specs.Served.{IsServed, Served, after, merge_publish}
pub use Rattle.svr_lists.specs.declared.publish.DocumentText.{DocumentText}
use Rattle.svr_lists.specs.Lists.{ListsValue, StandsForServed}

-- id, score and text of a document
abbrev pub row_of : Document → ℕ × ℕ × List ℕ
row_of d = (d.id, d.score, d.text)

-- the same of one that is shown
abbrev pub shown_row : DocumentText → ℕ × ℕ × List ℕ
shown_row d = (d.id, d.score, d.text.now)

-- documents are shown, in their order
abbrev pub Shows : List DocumentText → List Document → Type 0
Shows shown documents = map shown_row shown ≡ map row_of documents

-- these are the scores of documents that are shown, and no other id has one
abbrev pub AreScoresIn : List DocumentText → (ℕ → Option ℕ) → Type 0
AreScoresIn shown score = (id : ℕ) → score id ≡ option_map (λ d. d.score) (find (λ d. d.id == id) shown)

-- lists stand for the publish of a merge, if they stood for a listing of these documents with a merge that has no term left
abbrev pub Publishes : ListsValue → ListsValue → List DocumentText → Type 0
Publishes old new shown =
    (s : Served) → IsServed tokens_of s → StandsForServed old s → ((m : Merge) → s.merge ≡ Some m → terms_left s.listing m ≡ [])
    → Shows shown (documents_of s.listing) → StandsForServed new (after s merge_publish)
