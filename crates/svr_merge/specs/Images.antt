-- The pages of documents with their new keys.
use Rattle.std.specs.Prelude.{◌≡◌, ℕ, true, List, length, Option, option_map}
use Rattle.std.specs.List.{filter_map, flat_map, list_all}
use Rattle.svr_idmap.specs.Ids.{value_at}
use Rattle.svr_listing.specs.Merges.{cut, in_page_order}
use Rattle.svr_postpage.specs.declared.pair.Pair.{Pair}
use Rattle.svr_postpage.specs.Pages.{page_bytes}
use Rattle.svr_postpage.specs.Pairs.{are_in_order, is_in_range}

-- an id with its new key; none for one without
abbrev pub pair_by : List (ℕ × ℕ) → ℕ → Option Pair
pair_by keys id = option_map (λ key. record { key = key; id = id }) (value_at keys id)

-- the ids that have a new key, with it, in page order
abbrev pub pairs_by : List (ℕ × ℕ) → List ℕ → List Pair
pairs_by keys ids = in_page_order (filter_map (pair_by keys) ids)

-- pairs that pages may hold: within their ranges and in page order
pub record MayFillPages (pairs : List Pair) : Type 0 where
  pub within : list_all is_in_range pairs ≡ true
  pub ordered : are_in_order pairs ≡ true

-- pairs in parts, one for each page: 255 in each but the last
abbrev pub page_parts : List Pair → List (List Pair)
page_parts pairs = cut 255 (length pairs) pairs

-- the bytes of the pages of pairs
abbrev pub pages_bytes : List Pair → List ℕ
pages_bytes pairs = flat_map page_bytes (page_parts pairs)
