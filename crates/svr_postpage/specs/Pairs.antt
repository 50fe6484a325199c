-- Pairs in page order.
use Rattle.std.specs.Prelude.{ℕ, ◌^◌, ◌==◌, ◌&&◌, ◌||◌, Bool, true, List, [], ◌∷◌, length, nat_le, nat_lt}
use Rattle.std.specs.List.{list_all}
use Rattle.svr_postpage.specs.declared.page_ref.PageRef.{PageRef}
use Rattle.svr_postpage.specs.declared.pair.Pair.{Pair}

-- page order: keys descend, and of equal keys ids ascend
abbrev pub is_before : Pair → Pair → Bool
is_before a b = nat_lt b.key a.key || ((a.key == b.key) && nat_lt a.id b.id)

-- each pair stands in front of the next one
abbrev pub are_in_order : List Pair → Bool
are_in_order [] = true
are_in_order (pair ∷ []) = true
are_in_order (pair ∷ next ∷ pairs) = is_before pair next && are_in_order (next ∷ pairs)

-- the ranges of keys and ids
abbrev pub is_in_range : Pair → Bool
is_in_range pair = nat_lt pair.key (2 ^ 48) && nat_lt pair.id (2 ^ 63)

-- pairs that one page may hold: 1 to 255 in page order
abbrev pub fill_a_page : List Pair → Bool
fill_a_page pairs = nat_lt 0 (length pairs) && (nat_le (length pairs) 255 && (list_all is_in_range pairs && are_in_order pairs))

-- the first pair of a page
abbrev pub first_pair : PageRef → Pair
first_pair page = record { key = page.key; id = page.id }

-- what a page at an address with these pairs is known by
abbrev pub ref_of : ℕ → List Pair → PageRef
ref_of at [] = record { at = at; key = 0; id = 0; count = 0 }
ref_of at (pair ∷ pairs) = record { at = at; key = pair.key; id = pair.id; count = length (pair ∷ pairs) }
