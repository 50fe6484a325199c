-- A list that is sorted is the one that insertion makes.
use Rattle.std.proofs.Common.{◌≡◌, ℕ, ◌+◌, List, [], ◌∷◌, Bool, cond, false, true, refl, ap, sym, ◌∙◌, arith, sum_by}
use Rattle.std.specs.Cmp.{IsTotalOrder}
use Rattle.std.specs.List.Sorted.{IsPermutation, IsSorted}
use Rattle.std.specs.Ordering.{is_gt}
use Rattle.std.specs.declared.cmp.Ordering.{Ordering}
use Rattle.std.proofs.lemmas.Bool.{cond_both}
use Rattle.std.proofs.lemmas.List.Sorted.{sum_by-IsPermutation}
use Rattle.std.proofs.lemmas.List.Sums.{sum_by-cons, sum_by-le-sum_by}
use Rattle.std.proofs.lemmas.Map.Lookups.{CmpEqualImpliesEq}
use Rattle.svr_num.proofs.SortedUnique.{one_if, before, Rises, before_le, rises_from_sorted, rises_unique}

-- a list with one more, in front of the first that the test tells
abbrev pub put : {X : Type 0} → (X → X → Bool) → X → List X → List X
put front x [] = x ∷ []
put front x (y ∷ ys) = cond (front x y) (x ∷ y ∷ ys) (y ∷ put front x ys)

abbrev pub in_order : {X : Type 0} → (X → X → Bool) → List X → List X
in_order front [] = []
in_order front (x ∷ xs) = put front x (in_order front xs)

sum-put : {X : Type 0} (front : X → X → Bool) (f : X → ℕ) (x : X) (ys : List X) → sum_by f (put front x ys) ≡ f x + sum_by f ys
sum-put front f x [] = sum_by-cons f x []
sum-put {X} front f x (y ∷ ys) =
    let more = sum-put front f x ys in
    cond_both (front x y) (x ∷ y ∷ ys) (y ∷ put front x ys) (λ (l : List X). sum_by f l ≡ f x + sum_by f (y ∷ ys))
    (λ _. sum_by-cons f x (y ∷ ys))
    (λ _. omega (arith, sum_by-cons f y (put front x ys), sum_by-cons f y ys, more))

sum-in_order : {X : Type 0} (front : X → X → Bool) (f : X → ℕ) (xs : List X) → sum_by f (in_order front xs) ≡ sum_by f xs
sum-in_order front f [] = refl
sum-in_order front f (x ∷ xs) =
    sum-put front f x (in_order front xs) ∙ ap (λ n. f x + n) (sum-in_order front f xs) ∙ sym (sum_by-cons f x xs)

-- a test tells which of two stands in front
pub record Tells {X : Type 0} (cmp : X → X → Ordering) (front : X → X → Bool) : Type 0 where
  pub total : IsTotalOrder cmp
  pub exact : CmpEqualImpliesEq cmp
  pub first : (a b : X) → front a b ≡ true → is_gt (cmp a b) ≡ false
  pub later : (a b : X) → front a b ≡ false → is_gt (cmp b a) ≡ false

module _ {X : Type 0} (cmp : X → X → Ordering) (front : X → X → Bool) (t : Tells cmp front) where
  rises-put : (x : X) (ys : List X) → Rises cmp ys → Rises cmp (put front x ys)
  rises-put x [] up = (refl, tt)
  rises-put x (y ∷ ys) up =
      let more = rises-put x ys up.1 in
      cond_both (front x y) (x ∷ y ∷ ys) (y ∷ put front x ys) (Rises cmp)
      (λ at. (
        omega (
          arith,
          sum_by-cons (before cmp x) y ys,
          ap one_if (t.first x y at),
          up.0,
          sum_by-le-sum_by (before cmp x) (before cmp y) ys (before_le cmp t.total x y (t.first x y at)),
        ),
        up,
      ))
      (λ at. (omega (arith, sum-put front (before cmp y) x ys, up.0, ap one_if (t.later x y at)), more))

  rises-in_order : (xs : List X) → Rises cmp (in_order front xs)
  rises-in_order [] = tt
  rises-in_order (x ∷ xs) = rises-put x (in_order front xs) (rises-in_order xs)

  pub in_order-is : (xs ys : List X) → IsPermutation xs ys → IsSorted cmp ys → ys ≡ in_order front xs
  in_order-is xs ys moved up =
      rises_unique cmp t.total t.exact ys (in_order front xs)
      (λ f. sum_by-IsPermutation f xs ys moved ∙ sym (sum-in_order front f xs)) (rises_from_sorted cmp t.total ys up) (rises-in_order xs)
