-- Words of private clauses: how values are kept.
use Rattle.std.specs.Prelude.{◌≡◌, ◌≢◌, ◌+◌, ◌<◌, ◌≤◌, ◌^◌, ℕ, ℤ, List, length, int_lt, true, false}
use Rattle.std.specs.List.{All, AllWithin}
use Rattle.std.specs.Int.RustNames.{FitsSigned}
use Rattle.std.specs.Int.{w64}
use Rattle.std.specs.Map.{values_of}
use Rattle.svr_num.specs.Aggregates.{sum_of}
use Rattle.svr_groups.specs.Values.{ascending_values}
use Rattle.svr_groups.specs.Groups.{values_of_id}

-- numbers of 64 bits in their order, and their sum
pub record IsGroup (sum : ℤ) (values : List ℤ) : Type 0 where
  pub ordered : ascending_values values ≡ values
  pub fit : All (FitsSigned w64) values
  pub few : length values ≤ 2 ^ 18 + 1
  pub summed : sum ≡ sum_of values

-- those in front of the place are less than v, and those from there on aren't
pub record IsPlaceOf (v : ℤ) (values : List ℤ) (place : ℕ) : Type 0 where
  pub within : place ≤ length values
  pub before : AllWithin (λ x. int_lt x v ≡ true) values 0 place
  pub behind : AllWithin (λ x. int_lt x v ≡ false) values place (length values)

-- each id has a value
abbrev pub HasValues : List (ℕ × List ℤ) → Type 0
HasValues entries = All (λ values. 0 < length values) (values_of entries)

-- an id has these values now, and every other has its own
pub record SetsValuesOf (old new : List (ℕ × List ℤ)) (id : ℕ) (values : List ℤ) : Type 0 where
  pub here : values_of_id new id ≡ values
  pub others : (k : ℕ) → k ≢ id → values_of_id new k ≡ values_of_id old k
