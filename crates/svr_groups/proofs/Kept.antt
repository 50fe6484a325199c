-- A group's values with their sum, by a value more or less.
use Rattle.std.proofs.Common.{◌≡◌, ℕ, zero, suc, ◌+◌, ◌^◌, ◌<◌, ◌≤◌, ℤ, pos, negsuc, ◌+ℤ◌, ◌-ℤ◌, to_z, of_z, List, [], ◌∷◌, length}
use Rattle.std.proofs.Common.{Bool, true, false, refl, sym, ap, ◌∙◌, subst, arith}
use Rattle.std.specs.Prelude.{int_lt, FitsSigned}
use Rattle.std.specs.Int.{w64, w128}
use Rattle.std.specs.List.{All, Contains, insert, remove}
use Rattle.std.specs.Ordering.{int_eq}
use Rattle.std.proofs.lemmas.Int.{ints, to_z-of_z, to_z_pos}
use Rattle.std.proofs.lemmas.List.Elements.{All-cons, All-tail}
use Rattle.svr_num.specs.Aggregates.{IsValue, aggregate_of, sum_of}
use Rattle.svr_num.specs.declared.aggregate.Aggregate.TheVariants as how
use Rattle.svr_num.specs.Numbers.{floor_of}
use Rattle.svr_groups.specs.Values.{with_value, without_value, ascending_values}
use Rattle.svr_groups.specs.Layout.{IsGroup, IsPlaceOf}
use Rattle.svr_groups.proofs.Ascending.{with_value-less, with_value-here, without_value-here, without_value-other}
use Rattle.svr_groups.proofs.Ascending.{int_eq-refl, same_from_int_eq, ascending_values-with_value, length-with_value}
use Rattle.svr_groups.proofs.Order.{ascending_values-without_value, insert-place, place-below, remove-place}
use Rattle.svr_groups.proofs.Folds.{aggregate_of-average, sum_of-with_value}
use Rattle.svr_groups.proofs.Bounds.{IsValue-sum_of}

-- ---- what holds of each value

module _ (P : ℤ → Type 0) where
  All-with_at : (v x : ℤ) (xs : List ℤ) (b : Bool) → int_lt x v ≡ b → P v → All P (x ∷ xs) → All P (with_value v xs)
      → All P (with_value v (x ∷ xs))
  All-with_at v x xs true h one all rest =
      subst (All P) (sym (with_value-less v x xs h)) (All-cons P x (with_value v xs) (all 0 x (omega arith)) rest)
  All-with_at v x xs false h one all rest = subst (All P) (sym (with_value-here v x xs h)) (All-cons P v (x ∷ xs) one all)

  All-with_value : (v : ℤ) (xs : List ℤ) → P v → All P xs → All P (with_value v xs)
  unfolding with_value
  All-with_value v [] one all = All-cons P v [] one all
  All-with_value v (x ∷ xs) one all = All-with_at v x xs (int_lt x v) refl one all (All-with_value v xs one (All-tail P x xs all))

  All-without_at : (v x : ℤ) (xs : List ℤ) (b : Bool) → int_eq x v ≡ b → All P (x ∷ xs) → All P (without_value v xs)
      → All P (without_value v (x ∷ xs))
  All-without_at v x xs true h all rest = subst (All P) (sym (without_value-here v x xs h)) (All-tail P x xs all)
  All-without_at v x xs false h all rest =
      subst (All P) (sym (without_value-other v x xs h)) (All-cons P x (without_value v xs) (all 0 x (omega arith)) rest)

  All-without_value : (v : ℤ) (xs : List ℤ) → All P xs → All P (without_value v xs)
  unfolding without_value
  All-without_value v [] all = all
  All-without_value v (x ∷ xs) all = All-without_at v x xs (int_eq x v) refl all (All-without_value v xs (All-tail P x xs all))

-- ---- a value that is there, and the others

-- ys are the values xs without one v
record LacksOne (v : ℤ) (xs ys : List ℤ) : Type 0 where
  sum : v +ℤ sum_of ys ≡ sum_of xs
  count : length ys + 1 ≡ length xs

LacksOne-at : (v x : ℤ) (xs : List ℤ) (b : Bool) → int_eq x v ≡ b → (int_eq x v ≡ false → LacksOne v xs (without_value v xs))
    → LacksOne v (x ∷ xs) (without_value v (x ∷ xs))
unfolding sum_of
LacksOne-at v x xs true h rest =
    subst (LacksOne v (x ∷ xs)) (sym (without_value-here v x xs h))
    (record { sum = ap (λ z. z +ℤ sum_of xs) (sym (same_from_int_eq x v h)); count = omega arith })
LacksOne-at v x xs false h rest =
    let less = rest h in
    subst (LacksOne v (x ∷ xs)) (sym (without_value-other v x xs h))
    (record { sum = let e = less.sum in omega (arith, ints); count = let e = less.count in omega arith })

Contains-other : (v x : ℤ) (xs : List ℤ) → Contains (x ∷ xs) v → int_eq x v ≡ false → Contains xs v
Contains-other v x xs (zero, h, is) apart = absurd (let same = subst (λ z. int_eq z v ≡ false) is apart in let e = int_eq-refl v in cc)
Contains-other v x xs (suc k, h, is) apart = (k, omega arith, is)

LacksOne-without_value : (v : ℤ) (xs : List ℤ) → Contains xs v → LacksOne v xs (without_value v xs)
LacksOne-without_value v [] (k, h, is) = absurd (omega arith)
LacksOne-without_value v (x ∷ xs) there =
    LacksOne-at v x xs (int_eq x v) refl (λ apart. LacksOne-without_value v xs (Contains-other v x xs there apart))

-- ---- groups

pub IsGroup-none : IsGroup (pos 0) []
unfolding ascending_values sum_of
IsGroup-none = record { ordered = refl; fit = λ k d h. absurd (omega (arith, h)); few = omega arith; summed = refl }

pub IsGroup-one : (v : ℤ) → FitsSigned w64 v → IsGroup v (v ∷ [])
unfolding ascending_values with_value sum_of
IsGroup-one v fits = record {
  ordered = refl;
  fit = All-cons (FitsSigned w64) v [] fits (λ k d h. absurd (omega arith));
  few = omega arith;
  summed = omega (arith, ints);
}

module _ (sum v : ℤ) (xs : List ℤ) (group : IsGroup sum xs) where
  pub IsGroup-with_value : FitsSigned w64 v → length xs ≤ 2 ^ 18 → IsGroup (sum +ℤ v) (with_value v xs)
  IsGroup-with_value fits room = record {
    ordered = ascending_values-with_value v xs ∙ ap (with_value v) group.ordered;
    fit = All-with_value (FitsSigned w64) v xs fits group.fit;
    few = let e = length-with_value v xs in omega arith;
    summed = let e = sum_of-with_value v xs in let s = group.summed in omega (arith, ints);
  }

  pub IsGroup-without_value : Contains xs v → IsGroup (sum -ℤ v) (without_value v xs)
  IsGroup-without_value there =
      let less = LacksOne-without_value v xs there in record {
        ordered = ascending_values-without_value v xs group.ordered;
        fit = All-without_value (FitsSigned w64) v xs group.fit;
        few = let e = less.count in let few = group.few in omega arith;
        summed = let e = less.sum in let s = group.summed in omega (arith, ints);
      }

wide_from_value : (z : ℤ) → IsValue z → FitsSigned w128 z
wide_from_value (pos n) h = record { sfits = let b = h.high in omega (arith, ints) }
wide_from_value (negsuc n) h = record { sfits = let b = h.low in omega (arith, ints) }

pub wide_from_short : (z : ℤ) → FitsSigned w64 z → FitsSigned w128 z
wide_from_short z h = record { sfits = let b = h.sfits in omega arith }

pub IsValue-sum : (sum : ℤ) (xs : List ℤ) → IsGroup sum xs → IsValue sum
IsValue-sum sum xs group = subst IsValue (sym group.summed) (IsValue-sum_of xs group.fit group.few)

-- the sum fits 128 bits
pub wide_sum : (sum : ℤ) (xs : List ℤ) → IsGroup sum xs → FitsSigned w128 sum
wide_sum sum xs group = wide_from_value sum (IsValue-sum sum xs group)

pub kept_sum : (sum : ℤ) (xs : List ℤ) → IsGroup sum xs → to_z w128 (of_z w128 sum) ≡ sum
kept_sum sum xs group = to_z-of_z w128 sum (wide_sum sum xs group)

-- a number of 64 bits that was put into 128
pub widened : (z wide : ℤ) → FitsSigned w64 z → wide ≡ to_z w64 (of_z w64 z) → to_z w128 (of_z w128 wide) ≡ z
widened z wide fits is =
    let e = is ∙ to_z-of_z w64 z fits in
    ap (λ n. to_z w128 (of_z w128 n)) e ∙ to_z-of_z w128 z (wide_from_short z fits)

-- ---- a value at its place, as the code has it

module _ (v : ℤ) (xs ys : List ℤ) (i : ℕ) (fits : FitsSigned w64 v) (same : xs ≡ ys) (place : IsPlaceOf (to_z w64 (of_z w64 v)) ys i) where
  placed : IsPlaceOf v xs i
  placed = subst (λ z. IsPlaceOf z xs i) (to_z-of_z w64 v fits) (subst (λ zs. IsPlaceOf (to_z w64 (of_z w64 v)) zs i) (sym same) place)

  pub insert-placed : insert xs i (to_z w64 (of_z w64 v)) ≡ with_value v xs
  insert-placed = ap (insert xs i) (to_z-of_z w64 v fits) ∙ insert-place v xs i placed

  module _ (there : Contains ys v) where
    pub placed-below : i < length xs
    placed-below = place-below v xs i placed (subst (λ zs. Contains zs v) (sym same) there)

    pub remove-placed : ascending_values xs ≡ xs → remove xs i ≡ without_value v xs
    remove-placed is = remove-place v xs i is placed (subst (λ zs. Contains zs v) (sym same) there)

-- ---- the average, as the code has it

pub average-kept : (sum quotient empty : ℤ) (xs : List ℤ) (n : ℕ) → IsGroup sum xs → n ≡ length xs → 0 < n → FitsSigned w128 quotient
    → quotient ≡ floor_of (to_z w128 (of_z w128 sum)) (to_z w128 n) → to_z w128 (of_z w128 quotient) ≡ aggregate_of how.Avg empty xs
average-kept sum quotient empty xs n group count some fits is =
    let few = group.few in
    to_z-of_z w128 quotient fits ∙ is ∙ ap (λ z. floor_of z (to_z w128 n)) (kept_sum sum xs group ∙ group.summed)
    ∙ ap (floor_of (sum_of xs)) (to_z_pos w128 n (omega arith) ∙ ap pos count) ∙ sym (aggregate_of-average empty xs (omega arith))
