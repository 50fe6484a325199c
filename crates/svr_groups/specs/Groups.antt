-- The values of each component and id.
use Rattle.std.specs.Prelude.{◌≡◌, ℕ, ℤ, List, [], length, slice_get, unwrap_or}
use Rattle.std.specs.BTreeMap.{is_at}
use Rattle.std.specs.Map.{lookup}
use Rattle.std.specs.Ordering.{nat_cmp}

-- of each component the ids that have a value, with their values
abbrev pub Grouped : Type 0
Grouped = List (List (ℕ × List ℤ))

-- the values of an id of one component; none where it isn't among them
abbrev pub values_of_id : List (ℕ × List ℤ) → ℕ → List ℤ
values_of_id ids id = unwrap_or (lookup (is_at (nat_cmp id)) ids) []

-- the values of a component for an id
unfoldable pub values_at : Grouped → ℕ → ℕ → List ℤ
values_at groups c id = values_of_id (unwrap_or (slice_get groups c) []) id

-- a component's id has these values now, and every other has its own
pub record SetsValues (old new : Grouped) (c id : ℕ) (values : List ℤ) : Type 0 where
  pub here : values_at new c id ≡ values
  pub others : (d k : ℕ) → (d ≡ c → k ≡ id → ⊥) → values_at new d k ≡ values_at old d k
  pub as_many : length new ≡ length old
