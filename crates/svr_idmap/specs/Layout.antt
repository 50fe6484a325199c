-- Words of private clauses: how values are kept.
use Rattle.std.specs.Prelude.{◌≡◌, ◌<◌, ◌≤◌, ◌^◌, ℕ, ◌+◌, ◌-◌, min, List, [], ◌∷◌, length, Option, Some, None}
use Rattle.std.specs.List.{AllByRecursion}
use Rattle.std.specs.declared.ops.Bound.{Bound}
use Rattle.std.specs.declared.ops.Bound.TheVariants as bound
use Rattle.svr_idmap.specs.Ids.{Ascends}

-- the places that have a value, counted on from one
unfoldable pub entries_from : {V : Type 0} → ℕ → List (Option V) → List (ℕ × V)
entries_from n [] = []
entries_from n (None ∷ values) = entries_from (n + 1) values
entries_from n (Some value ∷ values) = (n, value) ∷ entries_from (n + 1) values

-- a vector of 2^18 places at most, and how many of them have a value
pub record IsDense {V : Type 0} (values : List (Option V)) (count : ℕ) : Type 0 where
  pub few : length values ≤ 2 ^ 18
  pub counted : count ≡ length (entries_from 0 values)

-- the same places have the same values
abbrev pub KeepsEntries : {V : Type 0} → List (Option V) → List (Option V) → Type 0
KeepsEntries old new = (n : ℕ) → entries_from n new ≡ entries_from n old

abbrev pub count_of : {V : Type 0} → Option V → ℕ
count_of None = 0
count_of (Some value) = 1

-- lower ids, and higher ones, which ascend
pub record AreParted {V : Type 0} (dense sparse : List (ℕ × V)) : Type 0 where
  pub below : AllByRecursion (λ e. e.0 < 2 ^ 18) dense
  pub above : AllByRecursion (λ e. 2 ^ 18 ≤ e.0) sparse
  pub ascends : Ascends sparse

-- where the ids above one begin, or all
abbrev pub behind : Option ℕ → Bound ℕ
behind None = bound.Unbounded
behind (Some id) = bound.Excluded id

-- the first place above an id, or of all
abbrev pub place_behind : Option ℕ → ℕ
place_behind None = 0
place_behind (Some id) = min (id + 1) (2 ^ 64 - 1)
