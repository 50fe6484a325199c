-- A page by tests of its parts, from the first byte to the last.
use Rattle.std.specs.Prelude.{ℕ, ◌+◌, ◌*◌, ◌==◌, ◌&&◌, Bool, true, List, [], ◌∷◌, drop, nat_le, nat_lt, slice_index, Option, None, Some}
use Rattle.std.specs.List.{list_all}
use Rattle.svr_postpage.specs.declared.pair.Pair.{Pair}
use Rattle.svr_postpage.specs.Pages.{pairs_in_bytes}
use Rattle.svr_postpage.specs.Pairs.{is_before, is_in_range}

-- a pair is in range, and stands behind the last one, if there is one
abbrev pub follows : Pair → Option Pair → Bool
follows pair None = is_in_range pair
follows pair (Some last) = is_in_range pair && is_before last pair

-- each pair follows the one in front of it, and the first one the last
abbrev pub are_pairs : Option Pair → List Pair → Bool
are_pairs last [] = true
are_pairs last (pair ∷ pairs) = follows pair last && are_pairs (Some pair) pairs

-- a byte is zero
abbrev pub is_zero : ℕ → Bool
is_zero byte = byte == 0

-- a page of so many pairs: two zeros, the pairs, and zeros
abbrev pub has_layout : ℕ → List ℕ → Bool
has_layout count bytes =
    (nat_lt 0 count && nat_le count 255)
    && ((is_zero (slice_index bytes 2) && is_zero (slice_index bytes 3))
    && (are_pairs None (pairs_in_bytes count (drop 4 bytes)) && list_all is_zero (drop (4 + 16 * count) bytes)))
