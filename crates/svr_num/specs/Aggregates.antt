-- One number made of several.
use Rattle.std.specs.Prelude.{◌^◌, ℤ, pos, neg_ℤ, ◌+ℤ◌, ◌≤ℤ◌, List, [], ◌∷◌, length, fold}
use Rattle.std.specs.Int.{int_max, int_min}
use Rattle.svr_num.specs.declared.aggregate.Aggregate.{Aggregate}
use Rattle.svr_num.specs.declared.aggregate.Aggregate.TheVariants as how
use Rattle.svr_num.specs.Numbers.{floor_of}

-- the sum of values
unfoldable pub sum_of : List ℤ → ℤ
sum_of [] = pos 0
sum_of (x ∷ xs) = x +ℤ sum_of xs

-- one number made of values, and the number that stands in where it has none of no values
unfoldable pub aggregate_of : Aggregate → ℤ → List ℤ → ℤ
aggregate_of how.Sum empty values = sum_of values
aggregate_of how.Count empty values = pos (length values)
aggregate_of how.Min empty [] = empty
aggregate_of how.Min empty (x ∷ xs) = fold int_min x xs
aggregate_of how.Max empty [] = empty
aggregate_of how.Max empty (x ∷ xs) = fold int_max x xs
aggregate_of how.Avg empty [] = empty
aggregate_of how.Avg empty (x ∷ xs) = floor_of (sum_of (x ∷ xs)) (pos (length (x ∷ xs)))

-- the range of what is made of as many values as a table may have rows
pub record IsValue (n : ℤ) : Type 0 where
  pub low : neg_ℤ (pos (2 ^ 82)) ≤ℤ n
  pub high : n ≤ℤ pos (2 ^ 82)
