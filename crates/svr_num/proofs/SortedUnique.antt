-- In a total order in which only equal elements tie, the elements of a list stand in order in one list alone.
use Rattle.std.proofs.Common.{◌≡◌, ℕ, ◌<◌, ◌≤◌, List, [], ◌∷◌, length, get_or, Bool, cond, suc, false, true, refl, ap, sym, arith, sum_by}
use Rattle.std.specs.Cmp.{IsTotalOrder}
use Rattle.std.specs.List.Sorted.{IsPermutation, IsSorted}
use Rattle.std.specs.Ordering.{is_gt, is_lt, ordering_reverse}
use Rattle.std.specs.declared.cmp.Ordering.{Ordering}
use Rattle.std.specs.declared.cmp.Ordering.TheVariants.{Less, Equal, Greater}
use Rattle.std.proofs.lemmas.Cmp.{tied_itself, upto}
use Rattle.std.proofs.lemmas.List.Sorted.{ranks_by, sorted_far, sum_by-IsPermutation}
use Rattle.std.proofs.lemmas.List.Sums.{sum_by-cons}
use Rattle.std.proofs.lemmas.Map.Lookups.{CmpEqualImpliesEq}

abbrev pub one_if : Bool → ℕ
one_if b = cond b 1 0

-- 1 where y belongs before x
abbrev pub before : {X : Type 0} → (X → X → Ordering) → X → X → ℕ
before cmp x y = one_if (is_gt (cmp x y))

-- no element belongs before one that it follows
abbrev pub Rises : {X : Type 0} → (X → X → Ordering) → List X → Type 0
Rises cmp [] = Unit {0}
Rises cmp (x ∷ xs) = (sum_by (before cmp x) xs ≡ 0) × Rises cmp xs

-- each element stands as often in the one as in the other
abbrev pub HasSame : {X : Type 0} → List X → List X → Type 0
HasSame {X} xs ys = (f : X → ℕ) → sum_by f xs ≡ sum_by f ys

false_from_none : (b : Bool) → one_if b ≡ 0 → b ≡ false
false_from_none true h = absurd (omega arith)
false_from_none false h = refl

one_if_le : (a b : Bool) → (b ≡ false → a ≡ false) → one_if a ≤ one_if b
one_if_le true true h = omega arith
one_if_le true false h = absurd (let e = h refl in cc)
one_if_le false b h = omega arith

tied : (p q : Ordering) → p ≡ ordering_reverse q → is_gt p ≡ false → is_gt q ≡ false → p ≡ Equal
tied p Less e g h = absurd (cc)
tied p Equal e g h = e
tied p Greater e g h = absurd (cc)

not_gt_from_not_lt : (p q : Ordering) → p ≡ ordering_reverse q → is_lt q ≡ false → is_gt p ≡ false
not_gt_from_not_lt p Less e h = absurd (cc)
not_gt_from_not_lt p Equal e h = ap is_gt e
not_gt_from_not_lt p Greater e h = ap is_gt e

-- what belongs before x belongs before whatever stands after x
pub before_le : {X : Type 0} (cmp : X → X → Ordering) → IsTotalOrder cmp →
    (x y : X) → is_gt (cmp x y) ≡ false → (z : X) → before cmp x z ≤ before cmp y z
before_le cmp o x y h z = one_if_le (is_gt (cmp x z)) (is_gt (cmp y z)) (upto o x y z h)

none_before : {X : Type 0} (cmp : X → X → Ordering) (x : X) (ys : List X) →
    ((j : ℕ) (d : X) → j < length ys → is_gt (cmp x (get_or ys j d)) ≡ false) → sum_by (before cmp x) ys ≡ 0
none_before cmp x [] h = refl
none_before cmp x (y ∷ ys) h =
    omega (
      arith,
      sum_by-cons (before cmp x) y ys,
      ap one_if (h 0 y (omega arith)),
      none_before cmp x ys (λ j d l. h (suc j) d (omega arith)),
    )

rises_from_far : {X : Type 0} (cmp : X → X → Ordering) (xs : List X) →
    ((i j : ℕ) (d : X) → i ≤ j → j < length xs → is_gt (cmp (get_or xs i d) (get_or xs j d)) ≡ false) → Rises cmp xs
rises_from_far cmp [] h = tt
rises_from_far cmp (x ∷ xs) h = (
  none_before cmp x xs (λ j d l. h 0 (suc j) d (omega arith) (omega arith)),
  rises_from_far cmp xs (λ i j d l m. h (suc i) (suc j) d (omega arith) (omega arith)),
)

-- a list that is sorted by its indices rises
pub rises_from_sorted : {X : Type 0} (cmp : X → X → Ordering) → IsTotalOrder cmp → (xs : List X) → IsSorted cmp xs → Rises cmp xs
rises_from_sorted cmp o xs up =
    rises_from_far cmp xs (λ i j d l m. not_gt_from_not_lt _ _ (o.antisymm (get_or xs i d) (get_or xs j d))
    (sorted_far (λ x y. is_lt (cmp x y)) (ranks_by o (λ x. x)) xs up i j d l m))

-- of two lists of the same elements, the first of the one that rises does not belong after that of the other
first_is_least : {X : Type 0} (cmp : X → X → Ordering) → IsTotalOrder cmp → (x y : X) (xs ys : List X) →
    HasSame (x ∷ xs) (y ∷ ys) → sum_by (before cmp x) xs ≡ 0 → is_gt (cmp x y) ≡ false
first_is_least cmp o x y xs ys same least =
    false_from_none (is_gt (cmp x y)) (omega (
      arith,
      same (before cmp x),
      sum_by-cons (before cmp x) x xs,
      sum_by-cons (before cmp x) y ys,
      ap (λ o. one_if (is_gt o)) (tied_itself o x),
    ))

rest_has_same : {X : Type 0} (x y : X) (xs ys : List X) → x ≡ y → HasSame (x ∷ xs) (y ∷ ys) → HasSame xs ys
rest_has_same x y xs ys e same f = omega (arith, same f, sum_by-cons f x xs, sum_by-cons f y ys, ap f e)

-- of the lists of the same elements one rises
pub rises_unique : {X : Type 0} (cmp : X → X → Ordering) → IsTotalOrder cmp → CmpEqualImpliesEq cmp →
    (xs ys : List X) → HasSame xs ys → Rises cmp xs → Rises cmp ys → xs ≡ ys
rises_unique cmp o exact [] [] same a b = refl
rises_unique cmp o exact [] (y ∷ ys) same a b = absurd (omega (arith, same (λ _. 1), sum_by-cons (λ _. 1) y ys))
rises_unique cmp o exact (x ∷ xs) [] same a b = absurd (omega (arith, same (λ _. 1), sum_by-cons (λ _. 1) x xs))
rises_unique cmp o exact (x ∷ xs) (y ∷ ys) same a b =
    let low : is_gt (cmp x y) ≡ false = first_is_least cmp o x y xs ys same a.0 in
    let high : is_gt (cmp y x) ≡ false = first_is_least cmp o y x ys xs (λ f. sym (same f)) b.0 in
    let first : x ≡ y = exact x y (tied (cmp x y) (cmp y x) (o.antisymm x y) low high) in
    let rest : xs ≡ ys = rises_unique cmp o exact xs ys (rest_has_same x y xs ys first same) a.1 b.1 in
    cc

-- of the lists of the same elements one is sorted
pub sorted_unique : {X : Type 0} (cmp : X → X → Ordering) → IsTotalOrder cmp → CmpEqualImpliesEq cmp →
    (xs ys : List X) → IsPermutation xs ys → IsSorted cmp xs → IsSorted cmp ys → xs ≡ ys
sorted_unique cmp o exact xs ys moved a b =
    rises_unique cmp o exact xs ys (λ f. sym (sum_by-IsPermutation f xs ys moved))
    (rises_from_sorted cmp o xs a) (rises_from_sorted cmp o ys b)
