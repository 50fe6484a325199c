-- The pairs that pages hold by given bytes, and those that a cursor has left.
use Rattle.std.specs.Prelude.{ℕ, ◌==◌, Bool, true, List, [], ◌∷◌, ◌++◌, filter, Option, None, Some}
use Rattle.svr_postpage.specs.declared.page_ref.PageRef.{PageRef}
use Rattle.svr_postpage.specs.declared.pair.Pair.{Pair}
use Rattle.svr_postpage.specs.Pairs.{first_pair, is_before}
use Rattle.svr_postpage.specs.Wanted.{pairs_told}

-- the same pairs, or the first pair of a page alone where there is none
abbrev pub or_first : PageRef → List Pair → List Pair
or_first page [] = first_pair page ∷ []
or_first page (pair ∷ pairs) = pair ∷ pairs

-- the pairs of a page by the bytes told, and its first one alone where those at its address are no page, or another one
abbrev pub page_pairs : List ℕ → PageRef → List Pair
page_pairs told page = or_first page (pairs_told told page)

-- a pair stands in front of the first pair of the next page, if there is one
abbrev pub is_ahead : List PageRef → Pair → Bool
is_ahead [] pair = true
is_ahead (next ∷ pages) pair = is_before pair (first_pair next)

-- the pairs of a page without those that do not stand in front of the next one
abbrev pub kept : List PageRef → List Pair → List Pair
kept pages pairs = filter (is_ahead pages) pairs

-- the pairs that pages hold, one page after the other
abbrev pub pairs_from : (PageRef → List Pair) → List PageRef → List Pair
pairs_from read [] = []
pairs_from read (page ∷ pages) = kept pages (read page) ++ pairs_from read pages

-- the pairs that are left, of which some were read
abbrev pub pairs_left : List ℕ → List Pair → List PageRef → List Pair
pairs_left told pairs pages = pairs ++ pairs_from (page_pairs told) pages

-- the key of the first pair, if there is one
abbrev pub first_key_of : List Pair → Option ℕ
first_key_of [] = None
first_key_of (pair ∷ pairs) = Some pair.key

-- the pages that begin with a key
abbrev pub pages_of_key : ℕ → List PageRef → List PageRef
pages_of_key key pages = filter (λ page. page.key == key) pages
