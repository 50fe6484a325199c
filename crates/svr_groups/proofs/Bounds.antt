-- What is made of values is in the range of a component's value.
use Rattle.std.proofs.Common.{ℕ, suc, ◌+◌, ◌*◌, ◌/◌, ◌^◌, ◌≤◌, ℤ, pos, negsuc, neg_ℤ, ◌≤ℤ◌, List, [], ◌∷◌, length, arith}
use Rattle.std.specs.Prelude.{fold, FitsSigned}
use Rattle.std.specs.Int.{int_max, int_min, w64}
use Rattle.std.specs.List.{All}
use Rattle.std.proofs.lemmas.Int.{ints, clamps}
use Rattle.std.proofs.Math.Nat.{div-le_self}
use Rattle.svr_num.specs.Aggregates.{IsValue, aggregate_of, sum_of}
use Rattle.svr_num.specs.declared.aggregate.Aggregate.{Aggregate}
use Rattle.svr_num.specs.declared.aggregate.Aggregate.TheVariants as how
use Rattle.svr_num.specs.Numbers.{floor_of}

-- a number of 64 bits
record IsShort (z : ℤ) : Type 0 where
  low : neg_ℤ (pos (2 ^ 63)) ≤ℤ z
  high : z ≤ℤ pos (2 ^ 63)

-- as much as n such numbers make
record IsWithin (n : ℕ) (z : ℤ) : Type 0 where
  low : neg_ℤ (pos (n * 2 ^ 63)) ≤ℤ z
  high : z ≤ℤ pos (n * 2 ^ 63)

IsShort-from_fits : (z : ℤ) → FitsSigned w64 z → IsShort z
IsShort-from_fits (pos n) h = let b = h.sfits in record { low = omega (arith, ints); high = omega (arith, ints) }
IsShort-from_fits (negsuc n) h = let b = h.sfits in record { low = omega (arith, ints); high = omega (arith, ints) }

IsValue-short : (z : ℤ) → IsShort z → IsValue z
IsValue-short z h = record { low = let b = h.low in omega (arith, ints); high = let b = h.high in omega (arith, ints) }

fits-rest : (x : ℤ) (xs : List ℤ) → All (FitsSigned w64) (x ∷ xs) → All (FitsSigned w64) xs
fits-rest x xs fit = λ k d h. fit (suc k) d (omega arith)

IsWithin-sum_of : (xs : List ℤ) → All (FitsSigned w64) xs → IsWithin (length xs) (sum_of xs)
unfolding sum_of
IsWithin-sum_of [] fit = record { low = omega (arith, ints); high = omega (arith, ints) }
IsWithin-sum_of (x ∷ xs) fit =
    let first = IsShort-from_fits x (fit 0 x (omega arith)) in
    let rest = IsWithin-sum_of xs (fits-rest x xs fit) in
    record {
      low = let a = first.low in let b = rest.low in omega (arith, ints);
      high = let a = first.high in let b = rest.high in omega (arith, ints);
    }

IsValue-within : (n : ℕ) (z : ℤ) → n ≤ 2 ^ 18 + 1 → IsWithin n z → IsValue z
IsValue-within n z few h = record {
  low = let b = h.low in omega (arith, ints);
  high = let b = h.high in omega (arith, ints);
}

pub IsValue-sum_of : (xs : List ℤ) → All (FitsSigned w64) xs → length xs ≤ 2 ^ 18 + 1 → IsValue (sum_of xs)
IsValue-sum_of xs fit few = IsValue-within (length xs) (sum_of xs) few (IsWithin-sum_of xs fit)

IsShort-min : (a : ℤ) (xs : List ℤ) → IsShort a → All (FitsSigned w64) xs → IsShort (fold int_min a xs)
IsShort-min a [] h fit = h
IsShort-min a (x ∷ xs) h fit =
    let first = IsShort-from_fits x (fit 0 x (omega arith)) in
    IsShort-min (int_min a x) xs (record {
      low = let p = first.low in let q = h.low in omega (arith, ints, clamps);
      high = let p = first.high in let q = h.high in omega (arith, ints, clamps);
    }) (fits-rest x xs fit)

IsShort-max : (a : ℤ) (xs : List ℤ) → IsShort a → All (FitsSigned w64) xs → IsShort (fold int_max a xs)
IsShort-max a [] h fit = h
IsShort-max a (x ∷ xs) h fit =
    let first = IsShort-from_fits x (fit 0 x (omega arith)) in
    IsShort-max (int_max a x) xs (record {
      low = let p = first.low in let q = h.low in omega (arith, ints, clamps);
      high = let p = first.high in let q = h.high in omega (arith, ints, clamps);
    }) (fits-rest x xs fit)

-- a quotient is no further from 0 than what is divided
IsValue-floor_of : (a : ℤ) (n : ℕ) → IsValue a → IsValue (floor_of a (pos (suc n)))
IsValue-floor_of (pos a) n h =
    let le : a / suc n ≤ a = div-le_self a (suc n) in
    record { low = let p = h.low in omega (arith, ints); high = let p = h.high in omega (arith, ints) }
IsValue-floor_of (negsuc a) n h =
    let le : a / suc n ≤ a = div-le_self a (suc n) in
    record { low = let p = h.low in omega (arith, ints); high = let p = h.high in omega (arith, ints) }

pub IsValue-aggregate_of : (how : Aggregate) (empty : ℤ) (xs : List ℤ) → FitsSigned w64 empty → All (FitsSigned w64) xs
    → length xs ≤ 2 ^ 18 + 1 → IsValue (aggregate_of how empty xs)
unfolding aggregate_of
IsValue-aggregate_of how.Sum empty xs short fit few = IsValue-sum_of xs fit few
IsValue-aggregate_of how.Count empty xs short fit few = record { low = omega (arith, ints); high = omega (arith, ints) }
IsValue-aggregate_of how.Min empty [] short fit few = IsValue-short empty (IsShort-from_fits empty short)
IsValue-aggregate_of how.Min empty (x ∷ xs) short fit few =
    IsValue-short _ (IsShort-min x xs (IsShort-from_fits x (fit 0 x (omega arith))) (fits-rest x xs fit))
IsValue-aggregate_of how.Max empty [] short fit few = IsValue-short empty (IsShort-from_fits empty short)
IsValue-aggregate_of how.Max empty (x ∷ xs) short fit few =
    IsValue-short _ (IsShort-max x xs (IsShort-from_fits x (fit 0 x (omega arith))) (fits-rest x xs fit))
IsValue-aggregate_of how.Avg empty [] short fit few = IsValue-short empty (IsShort-from_fits empty short)
IsValue-aggregate_of how.Avg empty (x ∷ xs) short fit few =
    IsValue-floor_of (sum_of (x ∷ xs)) (length xs) (IsValue-sum_of (x ∷ xs) fit few)
