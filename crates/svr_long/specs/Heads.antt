-- The first pairs of pages.
use Rattle.std.specs.Prelude.{◌≡◌, ◌<◌, length, Bool, true, List, [], ◌∷◌, ◌&&◌, map}
use Rattle.svr_postpage.specs.declared.page_ref.PageRef.{PageRef}
use Rattle.svr_postpage.specs.declared.pair.Pair.{Pair}
use Rattle.svr_postpage.specs.Pairs.{first_pair, is_before, is_in_range}

-- the first pairs of pages, one page after the other
abbrev pub heads : List PageRef → List Pair
heads pages = map first_pair pages

-- the first pair of a page is within its range
abbrev pub fits : PageRef → Bool
fits page = is_in_range (first_pair page)

-- a pair stands in front of the first of others, if there is one
abbrev pub is_before_all : Pair → List Pair → Bool
is_before_all pair [] = true
is_before_all pair (next ∷ pairs) = is_before pair next

-- pairs within their range, each in front of the next one
abbrev pub are_paged : List Pair → Bool
are_paged [] = true
are_paged (pair ∷ pairs) = is_in_range pair && (is_before_all pair pairs && are_paged pairs)

-- the first pairs of pages are within their range and in page order
abbrev pub are_heads : List PageRef → Bool
are_heads pages = are_paged (heads pages)

-- pages of one term: there is one, and their first pairs are within their range and in page order
pub record ArePages (pages : List PageRef) : Type 0 where
  pub some : 0 < length pages
  pub heads : are_heads pages ≡ true
