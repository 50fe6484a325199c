-- What the steps of a merge do to lists.
use Rattle.std.specs.Prelude.{◌≡◌, ℕ, ◌-◌, ◌^◌, ◌==◌, min, List, length, map, find, Option, option_map}
use Rattle.svr_num.specs.declared.hit.Hit.{Hit}
use Rattle.svr_tokens.specs.Tokens.{tokens_of}
use Rattle.svr_listing.specs.Listing.{documents_of, hit_of}
use Rattle.svr_listing.specs.Merges.{terms_left}
use Rattle.svr_listing.specs.Methods.{Rules}
use Rattle.svr_listing.specs.Served.{IsServed, Served, after, merge_begin, merge_forgotten}
use Rattle.svr_lists.specs.Lists.{ListsValue, StandsForServed}

-- these are the scores of documents, and no other id has one
abbrev pub AreScoresOf : List Hit → (ℕ → Option ℕ) → Type 0
AreScoresOf documents score = (id : ℕ) → score id ≡ option_map (λ d. d.score) (find (λ d. d.id == id) documents)

-- lists stand for the begin of a merge under these rules beside these documents, if they stood for a listing of them
abbrev pub BeginsMerge : ListsValue → ListsValue → List Hit → Rules → Type 0
BeginsMerge old new documents rules =
    (s : Served) → StandsForServed old s → map hit_of (documents_of s.listing) ≡ documents → StandsForServed new (after s (merge_begin rules))

-- lists stand for what they are without the merge
abbrev pub ForgetsMerge : ListsValue → ListsValue → Type 0
ForgetsMerge old new = (s : Served) → StandsForServed old s → StandsForServed new (after s merge_forgotten)

-- how many terms a merge has left, of which a count tells 2^64 - 1 at most; none where no merge is begun
abbrev pub CountsLeft : ListsValue → Option ℕ → Type 0
CountsLeft v left =
    (s : Served) → IsServed tokens_of s → StandsForServed v s
    → left ≡ option_map (λ m. min (length (terms_left s.listing m)) (2 ^ 64 - 1)) s.merge
