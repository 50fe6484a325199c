-- The bytes of a page.
use Rattle.std.specs.Prelude.{ℕ, zero, suc, ◌+◌, ◌-◌, ◌*◌, ◌&&◌, List, [], ◌∷◌, ◌++◌, length, take, drop, replicate, slice_range}
use Rattle.std.specs.Prelude.{Option, None, Some, if◌then◌else◌}
use Rattle.std.specs.Int.{from_be_bytes, to_be_bytes, w16, w64}
use Rattle.std.specs.List.{flat_map}
use Rattle.std.specs.Str.{bytes_eq}
use Rattle.svr_postpage.specs.declared.pair.Pair.{Pair}
use Rattle.svr_postpage.specs.Pairs.{fill_a_page}

-- a pair is its key and its id, eight bytes each, the highest first
abbrev pub pair_bytes : Pair → List ℕ
pair_bytes pair = to_be_bytes w64 pair.key ++ to_be_bytes w64 pair.id

-- the 4,096 bytes of a page: the number of its pairs in two bytes, two zeros, the pairs, and zeros behind them
unfoldable pub page_bytes : List Pair → List ℕ
page_bytes pairs =
    to_be_bytes w16 (length pairs) ++ (replicate 2 0 ++ (flat_map pair_bytes pairs ++ replicate (4092 - 16 * length pairs) 0))

-- the pair that the first 16 bytes are
abbrev pub pair_in : List ℕ → Pair
pair_in bytes = record { key = from_be_bytes w64 (take 8 bytes); id = from_be_bytes w64 (take 8 (drop 8 bytes)) }

-- so many pairs, one behind the other
unfoldable pub pairs_in_bytes : ℕ → List ℕ → List Pair
pairs_in_bytes zero bytes = []
pairs_in_bytes (suc count) bytes = pair_in bytes ∷ pairs_in_bytes count (drop 16 bytes)

-- these pairs, where a page may hold them and these are its bytes
abbrev pub if_page : List ℕ → List Pair → Option (List Pair)
if_page bytes pairs = if fill_a_page pairs && bytes_eq bytes (page_bytes pairs) then Some pairs else None

-- the pairs of the page that these bytes are, if they are one: they are exactly the bytes of pairs that a page may hold
unfoldable pub page_in : List ℕ → Option (List Pair)
page_in bytes = if_page bytes (pairs_in_bytes (from_be_bytes w16 (take 2 bytes)) (drop 4 bytes))

-- the bytes of a page's length from an address on; fewer where they end sooner
abbrev pub bytes_at : List ℕ → ℕ → List ℕ
bytes_at told at = slice_range told at (at + 4096)

-- no pairs where there is no page
abbrev pub pairs_or_none : Option (List Pair) → List Pair
pairs_or_none None = []
pairs_or_none (Some pairs) = pairs

-- the pairs of the page that these bytes are; none where they are no page
abbrev pub pairs_of : List ℕ → List Pair
pairs_of bytes = pairs_or_none (page_in bytes)
