-- What is made of values, by a value more or less, and of values in their order.
use Rattle.std.proofs.Common.{◌≡◌, ℕ, suc, ◌<◌, ℤ, pos, ◌+ℤ◌, List, [], ◌∷◌, length, Bool, true, false, refl, sym, ap, ◌∙◌, arith}
use Rattle.std.specs.Prelude.{◌-◌, int_lt, fold, slice_get, unwrap_or}
use Rattle.std.specs.Int.{int_max, int_min}
use Rattle.std.proofs.lemmas.Int.{ints, clamps}
use Rattle.svr_num.specs.Aggregates.{aggregate_of, sum_of}
use Rattle.svr_num.specs.declared.aggregate.Aggregate.{Aggregate}
use Rattle.svr_num.specs.declared.aggregate.Aggregate.TheVariants as how
use Rattle.svr_num.specs.Numbers.{floor_of}
use Rattle.svr_groups.specs.Values.{with_value, ascending_values}
use Rattle.svr_groups.proofs.Ascending.{with_value-less, with_value-here}
use Rattle.svr_groups.proofs.Ascending.{length-with_value, length-ascending_values}
use Rattle.svr_groups.proofs.Order.{NoneLess, Rises, Rises-from_ascending}

-- ---- sums

sum_of-with_at : (v x : ℤ) (xs : List ℤ) (b : Bool) → int_lt x v ≡ b → sum_of (with_value v xs) ≡ v +ℤ sum_of xs
    → sum_of (with_value v (x ∷ xs)) ≡ v +ℤ sum_of (x ∷ xs)
unfolding sum_of
sum_of-with_at v x xs true h same = ap sum_of (with_value-less v x xs h) ∙ omega (arith, ints)
sum_of-with_at v x xs false h same = ap sum_of (with_value-here v x xs h)

pub sum_of-with_value : (v : ℤ) (xs : List ℤ) → sum_of (with_value v xs) ≡ v +ℤ sum_of xs
unfolding with_value sum_of
sum_of-with_value v [] = refl
sum_of-with_value v (x ∷ xs) = sum_of-with_at v x xs (int_lt x v) refl (sum_of-with_value v xs)

pub sum_of-ascending_values : (xs : List ℤ) → sum_of (ascending_values xs) ≡ sum_of xs
unfolding sum_of ascending_values
sum_of-ascending_values [] = refl
sum_of-ascending_values (x ∷ xs) = sum_of-with_value x (ascending_values xs) ∙ ap (λ z. x +ℤ z) (sum_of-ascending_values xs)

-- ---- folds in which the order of the values is all one

module _ (f : ℤ → ℤ → ℤ) (swapped : (a x y : ℤ) → f (f a x) y ≡ f (f a y) x) where
  fold-with_at : (a v x : ℤ) (xs : List ℤ) (b : Bool) → int_lt x v ≡ b
      → fold f (f a x) (with_value v xs) ≡ fold f (f (f a x) v) xs → fold f a (with_value v (x ∷ xs)) ≡ fold f (f a v) (x ∷ xs)
  fold-with_at a v x xs true h same =
      ap (fold f a) (with_value-less v x xs h) ∙ same ∙ ap (λ z. fold f z xs) (swapped a x v)
  fold-with_at a v x xs false h same = ap (fold f a) (with_value-here v x xs h)

  fold-with_value : (a v : ℤ) (xs : List ℤ) → fold f a (with_value v xs) ≡ fold f (f a v) xs
  unfolding with_value
  fold-with_value a v [] = refl
  fold-with_value a v (x ∷ xs) = fold-with_at a v x xs (int_lt x v) refl (fold-with_value (f a x) v xs)

  fold-ascending_values : (a : ℤ) (xs : List ℤ) → fold f a (ascending_values xs) ≡ fold f a xs
  unfolding ascending_values
  fold-ascending_values a [] = refl
  fold-ascending_values a (x ∷ xs) = fold-with_value a x (ascending_values xs) ∙ fold-ascending_values (f a x) xs

int_min-swapped : (a x y : ℤ) → int_min (int_min a x) y ≡ int_min (int_min a y) x
int_min-swapped a x y = omega (arith, ints, clamps)

int_max-swapped : (a x y : ℤ) → int_max (int_max a x) y ≡ int_max (int_max a y) x
int_max-swapped a x y = omega (arith, ints, clamps)

int_min-comm : (x y : ℤ) → int_min x y ≡ int_min y x
int_min-comm x y = omega (arith, ints, clamps)

int_max-comm : (x y : ℤ) → int_max x y ≡ int_max y x
int_max-comm x y = omega (arith, ints, clamps)

-- ---- aggregates

average-same : (s t : ℤ) (m n : ℕ) → s ≡ t → m ≡ n → floor_of s (pos m) ≡ floor_of t (pos n)
average-same s t m n e k = ap (λ z. floor_of z (pos m)) e ∙ ap (λ i. floor_of t (pos i)) k

aggregate_of-with_at : (how : Aggregate) (empty v x : ℤ) (xs : List ℤ) (b : Bool) → int_lt x v ≡ b
    → aggregate_of how empty (with_value v (x ∷ xs)) ≡ aggregate_of how empty (v ∷ x ∷ xs)
unfolding aggregate_of sum_of
aggregate_of-with_at how.Sum empty v x xs b h = sum_of-with_value v (x ∷ xs)
aggregate_of-with_at how.Count empty v x xs b h = ap pos (length-with_value v (x ∷ xs) ∙ omega arith)
aggregate_of-with_at how.Min empty v x xs true h =
    ap (aggregate_of how.Min empty) (with_value-less v x xs h) ∙ fold-with_value int_min int_min-swapped x v xs
    ∙ ap (λ z. fold int_min z xs) (int_min-comm x v)
aggregate_of-with_at how.Min empty v x xs false h = ap (aggregate_of how.Min empty) (with_value-here v x xs h)
aggregate_of-with_at how.Max empty v x xs true h =
    ap (aggregate_of how.Max empty) (with_value-less v x xs h) ∙ fold-with_value int_max int_max-swapped x v xs
    ∙ ap (λ z. fold int_max z xs) (int_max-comm x v)
aggregate_of-with_at how.Max empty v x xs false h = ap (aggregate_of how.Max empty) (with_value-here v x xs h)
aggregate_of-with_at how.Avg empty v x xs true h =
    ap (aggregate_of how.Avg empty) (with_value-less v x xs h)
    ∙ average-same _ _ _ _ (ap sum_of (sym (with_value-less v x xs h)) ∙ sum_of-with_value v (x ∷ xs))
    (ap length (sym (with_value-less v x xs h)) ∙ length-with_value v (x ∷ xs) ∙ omega arith)
aggregate_of-with_at how.Avg empty v x xs false h = ap (aggregate_of how.Avg empty) (with_value-here v x xs h)

pub aggregate_of-with_value : (how : Aggregate) (empty v : ℤ) (xs : List ℤ)
    → aggregate_of how empty (with_value v xs) ≡ aggregate_of how empty (v ∷ xs)
unfolding with_value
aggregate_of-with_value how empty v [] = refl
aggregate_of-with_value how empty v (x ∷ xs) = aggregate_of-with_at how empty v x xs (int_lt x v) refl

-- the first of the values comes to the same among the others in their order
aggregate_of-rest : (how : Aggregate) (empty x : ℤ) (xs : List ℤ)
    → aggregate_of how empty (x ∷ ascending_values xs) ≡ aggregate_of how empty (x ∷ xs)
unfolding aggregate_of sum_of
aggregate_of-rest how.Sum empty x xs = ap (λ z. x +ℤ z) (sum_of-ascending_values xs)
aggregate_of-rest how.Count empty x xs = ap (λ n. pos (suc n)) (length-ascending_values xs)
aggregate_of-rest how.Min empty x xs = fold-ascending_values int_min int_min-swapped x xs
aggregate_of-rest how.Max empty x xs = fold-ascending_values int_max int_max-swapped x xs
aggregate_of-rest how.Avg empty x xs =
    average-same _ _ _ _ (ap (λ z. x +ℤ z) (sum_of-ascending_values xs)) (ap suc (length-ascending_values xs))

pub aggregate_of-ascending_values : (how : Aggregate) (empty : ℤ) (xs : List ℤ)
    → aggregate_of how empty (ascending_values xs) ≡ aggregate_of how empty xs
unfolding ascending_values
aggregate_of-ascending_values how empty [] = refl
aggregate_of-ascending_values how empty (x ∷ xs) =
    aggregate_of-with_value how empty x (ascending_values xs) ∙ aggregate_of-rest how empty x xs

-- ---- the least and the greatest of values in their order

least-first : (x : ℤ) (xs : List ℤ) → NoneLess x xs → fold int_min x xs ≡ x
least-first x [] none = refl
least-first x (y ∷ ys) none = ap (λ z. fold int_min z ys) (rw none.0 refl) ∙ least-first x ys none.1

pub aggregate_of-min : (empty : ℤ) (xs : List ℤ) → ascending_values xs ≡ xs → aggregate_of how.Min empty xs ≡ unwrap_or (slice_get xs 0) empty
unfolding aggregate_of
aggregate_of-min empty [] is = refl
aggregate_of-min empty (x ∷ xs) is = least-first x xs (Rises-from_ascending (x ∷ xs) is).0

greatest-last : (empty x : ℤ) (xs : List ℤ) → Rises (x ∷ xs) → fold int_max x xs ≡ unwrap_or (slice_get (x ∷ xs) (length xs)) empty
greatest-last empty x [] rises = refl
greatest-last empty x (y ∷ ys) rises =
    ap (λ z. fold int_max z ys) (rw rises.0.0 refl) ∙ greatest-last empty y ys rises.1

pub aggregate_of-max : (empty : ℤ) (xs : List ℤ) → ascending_values xs ≡ xs
    → aggregate_of how.Max empty xs ≡ unwrap_or (slice_get xs (length xs - 1)) empty
unfolding aggregate_of
aggregate_of-max empty [] is = refl
aggregate_of-max empty (x ∷ xs) is =
    greatest-last empty x xs (Rises-from_ascending (x ∷ xs) is)
    ∙ ap (λ n. unwrap_or (slice_get (x ∷ xs) n) empty) (omega arith)

-- ---- no values

pub aggregate_of-average : (empty : ℤ) (xs : List ℤ) → 0 < length xs
    → aggregate_of how.Avg empty xs ≡ floor_of (sum_of xs) (pos (length xs))
unfolding aggregate_of
aggregate_of-average empty [] h = absurd (omega arith)
aggregate_of-average empty (x ∷ xs) h = refl

pub aggregate_of-average_none : (empty : ℤ) (xs : List ℤ) → length xs ≡ 0 → aggregate_of how.Avg empty xs ≡ empty
unfolding aggregate_of
aggregate_of-average_none empty [] h = refl
aggregate_of-average_none empty (x ∷ xs) h = absurd (omega arith)
