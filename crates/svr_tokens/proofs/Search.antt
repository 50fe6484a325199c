-- What a binary search in ascending terms has found.
use Rattle.std.proofs.Common.{arith, ◌≡◌, ◌∙◌, ◌+◌, sym, ap, List, ℕ, [], false, length, Result, Ok, Err, get_or, inl, inr, is_ok}
use Rattle.std.specs.declared.cmp.Ordering.TheVariants.{Less, Greater}
use Rattle.std.specs.Ordering.{is_lt, is_eq, ordering_reverse}
use Rattle.std.specs.Cmp.Lexicographic.{nat_list_cmp_total, nat_list_eq_equiv}
use Rattle.std.specs.List.Sorted.{IsStrictlySortedBy, IsSorted, IsBinarySearchResult, IsSearchInRange, IsPartitionPoint}
use Rattle.std.specs.Str.{bytes_eq}
use Rattle.std.proofs.lemmas.Bool.{cases_lt}
use Rattle.std.proofs.lemmas.List.Folds.{list_any_at, list_any_none}
use Rattle.std.proofs.lemmas.List.Sorted.{searchable_from_sorted}
use Rattle.std.proofs.lemmas.Map.Keys.{Less-from_sorted}
use Rattle.std.proofs.lemmas.Map.Text.{is_eq-slice_cmp}
use Rattle.svr_tokens.specs.Tokens.{has_term}
use Rattle.svr_tokens.proofs.Order.{by_bytes}

is_sorted : (ts : List (List ℕ)) → IsStrictlySortedBy by_bytes ts → IsSorted by_bytes ts
is_sorted ts s k d _ h =
    let up : by_bytes (get_or ts k d) (get_or ts (k + 1) d) ≡ Less = Less-from_sorted by_bytes ts k (k + 1) d s (omega arith) h in
    ap is_lt (nat_list_cmp_total.antisymm (get_or ts (k + 1) d) (get_or ts k d) ∙ ap ordering_reverse up)

-- the test of a term with the one at a place, by how they compare
test_is : (t u : List ℕ) → bytes_eq t u ≡ is_eq (by_bytes u t)
test_is t u = nat_list_eq_equiv.symm t u ∙ sym (is_eq-slice_cmp u t)

none_there : (ts : List (List ℕ)) (t : List ℕ) (i : ℕ)
    → IsPartitionPoint (λ y. by_bytes y t ≡ Less) (λ y. by_bytes y t ≡ Greater) ts i → has_term ts t ≡ false
none_there ts t i p = list_any_none (bytes_eq t) ts
    (λ k d h. test_is t (get_or ts k d) ∙ elim (cases_lt k i) [ inl l ↦ ap is_eq (p.0 k d (omega arith) l) | inr g ↦ ap is_eq (p.1 k d g h) ])

pub found : (ts : List (List ℕ)) (t : List ℕ) (r : Result ℕ ℕ) → IsStrictlySortedBy by_bytes ts → IsSearchInRange r (length ts)
    → IsBinarySearchResult (λ y. by_bytes y t) ts r → is_ok r ≡ has_term ts t
found ts t (Ok i) s b p = sym (list_any_at (bytes_eq t) ts i [] b (test_is t (get_or ts i []) ∙ ap is_eq (p [])))
found ts t (Err i) s b p = sym (none_there ts t i (p (searchable_from_sorted nat_list_cmp_total (λ y. y) ts t (is_sorted ts s))))
