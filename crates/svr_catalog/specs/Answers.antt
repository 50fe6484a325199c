-- The answer to a search.
use Rattle.std.specs.Prelude.{◌≡◌, ℕ, List, filter, map}
use Rattle.svr_listing.specs.Kept.{HoldsPosted}
use Rattle.svr_listing.specs.Listing.{Listing, groups_by_bytes, hit_of, matches, score_in, visits_of}
use Rattle.svr_listing.specs.Served.{Served}
use Rattle.svr_listing.specs.Visits.{IsAnswer}
use Rattle.svr_num.specs.Hits.{best_hits}
use Rattle.svr_num.specs.declared.mode.Mode.{Mode}
use Rattle.svr_postpage.specs.Wanted.{pairs_told}
use Rattle.svr_topk.specs.declared.search.Answer.{Answer}
use Rattle.svr_catalog.specs.Catalog.{Catalog, documents_in}
use Rattle.svr_catalog.specs.Stands.{CatalogValue, Stands}

-- the best k of the documents that match, and how many groups of their listing a search for them visits
abbrev pub answer_of : Catalog → Listing → List (List ℕ) → Mode → ℕ → Answer
answer_of c l terms m k = record {
  hits = best_hits k (map hit_of (filter (matches m terms) (documents_in c)));
  groups = visits_of l terms m k (score_in (documents_in c));
}

-- hits and the number of visited groups are those of the query by bytes told, in each listing that the catalog stands for
abbrev pub AnswersByBytes : CatalogValue → List (List ℕ) → Mode → ℕ → List ℕ → Answer → Type 0
AnswersByBytes v terms m k bytes answer =
    (s : Served) → Stands v s
    → IsAnswer k s.listing.rules.bound (score_in (documents_in v.catalog)) (groups_by_bytes (pairs_told bytes) s.listing terms m)
    answer.hits answer.groups

-- where bytes told hold the posted pairs, the answer is exactly the definition's
abbrev pub AnswersExactly : CatalogValue → List (List ℕ) → Mode → ℕ → List ℕ → Answer → Type 0
AnswersExactly v terms m k bytes answer =
    (s : Served) → Stands v s → HoldsPosted (pairs_told bytes) s.listing → answer ≡ answer_of v.catalog s.listing terms m k
