-- The documents of one term.
use Rattle.std.specs.Prelude.{◌≡◌, ℕ, List, [], unwrap_or}
use Rattle.svr_listing.specs.Kept.{Ascends}
use Rattle.svr_listing.specs.Listing.{Listing, documents_of, stands_by}
use Rattle.svr_listing.specs.Merges.{ids_under}
use Rattle.svr_long.specs.Lists.{pages_at}
use Rattle.svr_postpage.specs.Wanted.{pairs_told}
use Rattle.svr_postpage.specs.declared.page_ref.PageRef.{PageRef}
use Rattle.svr_index.specs.Index.{Indexed, StandsFor}

-- the posted pages of a term
abbrev pub refs_at : Indexed → List ℕ → List PageRef
refs_at index term = unwrap_or (pages_at index.pages term) []

-- ids are those of the documents that stand under a term by bytes told, in each listing that the index stands for
abbrev pub StandUnder : Indexed → List ℕ → List ℕ → List ℕ → Type 0
StandUnder index term bytes ids =
    (l : Listing) → Ascends (documents_of l) → StandsFor index l → ids ≡ ids_under (stands_by (pairs_told bytes) l term) l
