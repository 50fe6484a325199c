-- Ids in their order, and those of two lists, as laws need them.
use Rattle.std.proofs.Common.{◌≡◌, ℕ, zero, suc, ◌+◌, ◌<◌, ◌==◌, List, [], ◌∷◌, length, slice_index, refl, sym, subst, arith, nat_lt}
use Rattle.std.specs.Bool.{⊤}
use Rattle.std.specs.List.{AllByRecursion}
use Rattle.std.specs.List.Sorted.{IsStrictlyIncreasing}
use Rattle.svr_listing.specs.Joined.{either, with_id}
use Rattle.svr_iter.specs.Truths.{by_order, eq_more, eq_self, if_at, lt_false, lt_true}

abbrev pub Above : ℕ → List ℕ → Type 0
Above id ids = AllByRecursion (λ x. id < x) ids

abbrev pub Up : List ℕ → Type 0
Up [] = ⊤
Up (x ∷ xs) = Above x xs × Up xs

above_from : (x : ℕ) (xs : List ℕ) → ((k : ℕ) → k < length xs → x < slice_index xs k) → Above x xs
above_from x [] far = tt
above_from x (y ∷ ys) far = (far 0 (omega arith), above_from x ys (λ k lt. far (suc k) (omega arith)))

up_tail : (x : ℕ) (xs : List ℕ) → IsStrictlyIncreasing (x ∷ xs) → IsStrictlyIncreasing xs
up_tail x xs up = λ k lt.
    let place : suc k + 1 ≡ suc (k + 1) = omega arith in
    subst (λ (n : ℕ). slice_index xs k < slice_index (x ∷ xs) n) place (up (suc k) (omega arith))

pub above-less : (x y : ℕ) (xs : List ℕ) → x < y → Above y xs → Above x xs
above-less x y [] lt a = tt
above-less x y (z ∷ zs) lt a = (omega (arith, a.0), above-less x y zs lt a.1)

pub Up-from : (xs : List ℕ) → IsStrictlyIncreasing xs → Up xs
Up-from [] up = tt
Up-from (x ∷ []) up = (tt, tt)
Up-from (x ∷ y ∷ ys) up =
    let rest = Up-from (y ∷ ys) (up_tail x (y ∷ ys) up) in
    let one : x < y = up 0 (omega arith) in
    ((one, above-less x y ys one rest.0), rest)

index_above : (x : ℕ) (xs : List ℕ) (k : ℕ) → Above x xs → k < length xs → x < slice_index xs k
index_above x [] k a lt = absurd (omega arith)
index_above x (y ∷ ys) zero a lt = a.0
index_above x (y ∷ ys) (suc k) a lt = index_above x ys k a.1 (omega arith)

increasing_from : (x : ℕ) (xs : List ℕ) → Above x xs → IsStrictlyIncreasing xs → IsStrictlyIncreasing (x ∷ xs)
increasing_from x xs a up zero lt = index_above x xs 0 a (omega arith)
increasing_from x xs a up (suc k) lt =
    let place : suc (k + 1) ≡ suc k + 1 = omega arith in
    subst (λ (n : ℕ). slice_index xs k < slice_index (x ∷ xs) n) place (up k (omega arith))

pub Up-to : (xs : List ℕ) → Up xs → IsStrictlyIncreasing xs
Up-to [] up = λ k lt. absurd (omega arith)
Up-to (x ∷ xs) up = increasing_from x xs up.0 (Up-to xs up.1)

-- ---- one id in its place

pub with_id-first : (id : ℕ) (xs : List ℕ) → Above id xs → with_id id xs ≡ id ∷ xs
with_id-first id [] a = refl
with_id-first id (x ∷ xs) a = rw (lt_true id x a.0) refl

pub with_id-behind : (x id : ℕ) (xs : List ℕ) → x < id → with_id id (x ∷ xs) ≡ x ∷ with_id id xs
with_id-behind x id xs lt = rw (lt_false id x (omega arith), eq_more x id lt) refl

pub with_id-again : (id : ℕ) (xs : List ℕ) → with_id id (id ∷ xs) ≡ id ∷ xs
with_id-again id xs = rw (lt_false id id (omega arith), eq_self id) refl

-- what holds of all ids of two lists holds of those of both
pub all-with_id : (P : ℕ → Type 0) (id : ℕ) (xs : List ℕ) → P id → AllByRecursion P xs → AllByRecursion P (with_id id xs)
all-with_id P id [] p all = (p, tt)
all-with_id P id (x ∷ xs) p all =
    if_at (nat_lt id x) (AllByRecursion P) (id ∷ x ∷ xs) _ (p, all)
    (if_at (id == x) (AllByRecursion P) (x ∷ xs) _ all (all.0, all-with_id P id xs p all.1))

pub all-either : (P : ℕ → Type 0) (xs ys : List ℕ) → AllByRecursion P xs → AllByRecursion P ys → AllByRecursion P (either xs ys)
all-either P [] ys all others = others
all-either P (x ∷ xs) ys all others = all-with_id P x (either xs ys) all.0 (all-either P xs ys all.1 others)

pub Up-with_id : (id : ℕ) (xs : List ℕ) → Up xs → Up (with_id id xs)
Up-with_id id [] up = (tt, tt)
Up-with_id id (x ∷ xs) up = by_order id x _
    (λ lt. rw (lt_true id x lt) ((lt, above-less id x xs lt up.0), up))
    (λ e. subst (λ (n : ℕ). Up (with_id n (x ∷ xs))) (sym e) (rw (with_id-again x xs) up))
    (λ lt. rw (with_id-behind x id xs lt) (all-with_id (λ y. x < y) id xs lt up.0, Up-with_id id xs up.1))

pub Up-either : (xs ys : List ℕ) → Up ys → Up (either xs ys)
Up-either [] ys up = up
Up-either (x ∷ xs) ys up = Up-with_id x (either xs ys) (Up-either xs ys up)
