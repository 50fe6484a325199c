-- The pairs of ids with new keys.
use Rattle.std.proofs.Common.{◌≡◌, ◌<◌, ◌==◌, ◌&&◌, ◌||◌, ◌+◌, ◌^◌, ℕ, suc, Bool, true, false, not, List, [], ◌∷◌, length, Option, Some}
use Rattle.std.proofs.Common.{None, option_map}
use Rattle.std.proofs.Common.{slice_index, IfSome, get_or, take, ◌++◌, refl, sym, ap, subst, ◌∙◌, arith}
use Rattle.std.specs.List.{AllByRecursion, cons_option, filter_map, list_all, list_any}
use Rattle.std.specs.List.Sorted.{IsStrictlyIncreasing}
use Rattle.std.proofs.lemmas.Bool.Decides.{nat_tests}
use Rattle.std.proofs.lemmas.List.{take_more}
use Rattle.std.proofs.lemmas.List.Elements.{filter_map-append}
use Rattle.svr_idmap.specs.Ids.{value_at}
use Rattle.svr_listing.specs.Bounds.{Rises}
use Rattle.svr_listing.specs.Merges.{Merge, in_page_order, new_pair, pairs_of}
use Rattle.svr_listing.proofs.Cutting.{Differ, PairsInOrder, any-in_page_order, in_page_order-in_order}
use Rattle.svr_postpage.specs.declared.pair.Pair.{Pair}
use Rattle.svr_postpage.specs.Pairs.{are_in_order, is_in_range}
use Rattle.svr_merge.specs.Images.{MayFillPages, pair_by, pairs_by}
use Rattle.svr_merge.specs.Runs.{HaveKeys, IsKeyOf, Run, StandsForMerge}

-- ---- ids in their order

up_tail : (x : ℕ) (xs : List ℕ) → IsStrictlyIncreasing (x ∷ xs) → IsStrictlyIncreasing xs
up_tail x xs up = λ k lt.
    let place : suc k + 1 ≡ suc (k + 1) = omega arith in
    subst (λ (n : ℕ). slice_index xs k < slice_index (x ∷ xs) n) place (up (suc k) (omega (arith, lt)))

up_all : (x : ℕ) (xs : List ℕ) → IsStrictlyIncreasing (x ∷ xs) → AllByRecursion (λ y. x < y) xs
up_all x [] up = tt
up_all x (y ∷ ys) up =
    let one : x < y = up 0 (omega arith) in
    (one, later ys (up_all y ys (up_tail x (y ∷ ys) up)) one)
  where
    later : (zs : List ℕ) → AllByRecursion (λ z. y < z) zs → x < y → AllByRecursion (λ z. x < z) zs
    later [] all lt = tt
    later (z ∷ zs) all lt = (let h = all.0 in omega (arith, h, lt), later zs all.1 lt)

pub rises-from : (ids : List ℕ) → IsStrictlyIncreasing ids → Rises ids
rises-from [] up = tt
rises-from (x ∷ xs) up = (up_all x xs up, rises-from xs (up_tail x xs up))

-- ---- their pairs

others : (keys : List (ℕ × ℕ)) (id : ℕ) (ids : List ℕ) → AllByRecursion (λ later. id < later) ids
    → AllByRecursion (λ (q : Pair). (id == q.id) ≡ false) (filter_map (pair_by keys) ids)
others keys id [] above = tt
others keys id (x ∷ xs) above = by (value_at keys x) (others keys id xs above.1)
  where
    by : (o : Option ℕ) → AllByRecursion (λ (q : Pair). (id == q.id) ≡ false) (filter_map (pair_by keys) xs)
        → AllByRecursion (λ (q : Pair). (id == q.id) ≡ false)
        (cons_option (option_map (λ k. record { key = k; id = x }) o) (filter_map (pair_by keys) xs))
    by None more = more
    by (Some k) more = ((let lt : id < x = above.0 in grind (arith, nat_tests, lt)), more)

differ : (keys : List (ℕ × ℕ)) (ids : List ℕ) → Rises ids → Differ (filter_map (pair_by keys) ids)
differ keys [] up = tt
differ keys (x ∷ xs) up = by (value_at keys x) (others keys x xs up.0) (differ keys xs up.1)
  where
    by : (o : Option ℕ) → AllByRecursion (λ (q : Pair). (x == q.id) ≡ false) (filter_map (pair_by keys) xs)
        → Differ (filter_map (pair_by keys) xs)
        → Differ (cons_option (option_map (λ k. record { key = k; id = x }) o) (filter_map (pair_by keys) xs))
    by None other more = more
    by (Some k) other more = (other, more)

within : (keys : List (ℕ × ℕ)) (ids : List ℕ) → HaveKeys keys
    → list_any (λ (p : Pair). not (is_in_range p)) (filter_map (pair_by keys) ids) ≡ false
within keys [] have = refl
within keys (x ∷ xs) have = by (value_at keys x) (have x) (within keys xs have)
  where
    by : (o : Option ℕ) → IfSome o (IsKeyOf x) → list_any (λ (p : Pair). not (is_in_range p)) (filter_map (pair_by keys) xs) ≡ false
        → list_any (λ (p : Pair). not (is_in_range p))
        (cons_option (option_map (λ k. record { key = k; id = x }) o) (filter_map (pair_by keys) xs)) ≡ false
    by None fits more = more
    by (Some k) fits more =
        let key : k < 2 ^ 48 = fits.key_fits in
        let id : x < 2 ^ 63 = fits.id_fits in
        let in_range : is_in_range (record { key = k; id = x }) ≡ true = grind (arith, nat_tests, key, id) in
        rw in_range more

all-none : (ps : List Pair) → list_any (λ (p : Pair). not (is_in_range p)) ps ≡ false → list_all is_in_range ps ≡ true
all-none [] none = refl
all-none (p ∷ ps) none = by (is_in_range p) none (all-none ps)
  where
    by : (b : Bool) → (not b || list_any (λ (q : Pair). not (is_in_range q)) ps) ≡ false
        → (list_any (λ (q : Pair). not (is_in_range q)) ps ≡ false → list_all is_in_range ps ≡ true) → (b && list_all is_in_range ps) ≡ true
    by true e more = more e
    by false e more = absurd (cc)

next_to_next : (ps : List Pair) → PairsInOrder ps → are_in_order ps ≡ true
next_to_next [] order = refl
next_to_next (p ∷ []) order = refl
next_to_next (p ∷ q ∷ ps) order = rw order.0.0 (next_to_next (q ∷ ps) order.1)

-- the pairs of rising ids may fill pages
pub may_fill-rising : (keys : List (ℕ × ℕ)) (ids : List ℕ) → HaveKeys keys → Rises ids → MayFillPages (pairs_by keys ids)
may_fill-rising keys ids have up = record {
  within = all-none (pairs_by keys ids)
      (any-in_page_order (λ (p : Pair). not (is_in_range p)) (filter_map (pair_by keys) ids) ∙ within keys ids have);
  ordered = next_to_next (pairs_by keys ids) (in_page_order-in_order (filter_map (pair_by keys) ids) (differ keys ids up));
}

pub may_fill : (keys : List (ℕ × ℕ)) (ids : List ℕ) → HaveKeys keys → IsStrictlyIncreasing ids → MayFillPages (pairs_by keys ids)
may_fill keys ids have up = may_fill-rising keys ids have (rises-from ids up)

-- the pairs of one more id
pub pairs-more : (keys : List (ℕ × ℕ)) (ids : List ℕ) (i : ℕ) (old new : List Pair) → i < length ids
    → new ≡ old ++ filter_map (pair_by keys) (get_or ids i 0 ∷ []) → old ≡ filter_map (pair_by keys) (take i ids)
    → new ≡ filter_map (pair_by keys) (take (i + 1) ids)
pairs-more keys ids i old new lt added so_far =
    added ∙ ap (λ (l : List Pair). l ++ filter_map (pair_by keys) (get_or ids i 0 ∷ [])) so_far
    ∙ sym (ap (filter_map (pair_by keys)) (take_more ids i 0 lt) ∙ filter_map-append (pair_by keys) (take i ids) (get_or ids i 0 ∷ []))

-- they are those of the merge that a run stands for
same_pairs : (run : Run) (m : Merge) → StandsForMerge run m → (ids : List ℕ) → filter_map (pair_by run.keys) ids ≡ filter_map (new_pair m) ids
same_pairs run m stands [] = refl
same_pairs run m stands (x ∷ xs) =
    ap (λ (o : Option ℕ). cons_option (option_map (λ k. record { key = k; id = x }) o) (filter_map (pair_by run.keys) xs)) (stands.keys x)
    ∙ ap (cons_option (new_pair m x)) (same_pairs run m stands xs)

pub pairs-stand : (run : Run) (m : Merge) → StandsForMerge run m → (ids : List ℕ) → pairs_by run.keys ids ≡ pairs_of m ids
pairs-stand run m stands ids = ap in_page_order (same_pairs run m stands ids)
