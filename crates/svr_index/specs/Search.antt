-- What a search answers.
use Rattle.std.specs.Prelude.{◌≡◌, ◌≤◌, ℕ, List, Option, filter, map}
use Rattle.std.specs.Option.{ForSome}
use Rattle.svr_chunks.specs.Chosen.{chosen_rules}
use Rattle.svr_idmap.specs.Ids.{value_at}
use Rattle.svr_listing.specs.Kept.{Ascends, HoldsPosted, IsListing}
use Rattle.svr_listing.specs.Listing.{Listing, documents_of, groups_by_bytes, hit_of, matches, score_in}
use Rattle.svr_listing.specs.Visits.{IsAnswer}
use Rattle.svr_num.specs.Hits.{best_hits}
use Rattle.svr_num.specs.declared.hit.Hit.{Hit}
use Rattle.svr_num.specs.declared.mode.Mode.{Mode}
use Rattle.svr_postpage.specs.Wanted.{pairs_told}
use Rattle.svr_index.specs.Index.{Indexed, StandsFor}

-- no listed document has a score above the bound of its key
abbrev pub AreWithinBounds : Indexed → (ℕ → Option ℕ) → Type 0
AreWithinBounds index score =
    (id : ℕ) → ForSome (value_at index.entries id) (λ entry. ForSome (score id) (λ s. s ≤ (chosen_rules index.method).bound entry.key))

-- hits and the number of visited groups are those of the query by bytes told, in each listing that the index stands for
abbrev pub AnswersBy : Indexed → List (List ℕ) → Mode → ℕ → (ℕ → Option ℕ) → List ℕ → List Hit → ℕ → Type 0
AnswersBy index terms m k score bytes hits visits =
    (l : Listing) → Ascends (documents_of l) → StandsFor index l
    → IsAnswer k l.rules.bound score (groups_by_bytes (pairs_told bytes) l terms m) hits visits

-- the hits are the best k of all documents that match, where bytes told hold the posted pairs, and scores are those of the documents
abbrev pub FindsBest : Indexed → List (List ℕ) → Mode → ℕ → (ℕ → Option ℕ) → List ℕ → List Hit → Type 0
FindsBest index terms m k score bytes hits =
    (tokens : List ℕ → List (List ℕ)) (l : Listing) → IsListing tokens l → StandsFor index l → HoldsPosted (pairs_told bytes) l
    → ((id : ℕ) → score id ≡ score_in (documents_of l) id)
    → hits ≡ best_hits k (map hit_of (filter (matches m terms) (documents_of l)))
