-- Values by id.
use Rattle.std.specs.Prelude.{◌≡◌, ℕ, ◌==◌, Bool, true, nat_lt, List, find, Option, Some, None, if◌then◌else◌}
use Rattle.std.specs.BTreeMap.{is_at}
use Rattle.std.specs.List.Sorted.{IsStrictlySortedBy}
use Rattle.std.specs.Map.{keys_of, lookup}
use Rattle.std.specs.Ordering.{nat_cmp}

-- the value of an id, if it has one
abbrev pub value_at : {V : Type 0} → List (ℕ × V) → ℕ → Option V
value_at values id = lookup (is_at (nat_cmp id)) values

-- an id has this value now, or none, and every other has its own
abbrev pub SetsValue : {V : Type 0} → List (ℕ × V) → List (ℕ × V) → ℕ → Option V → Type 0
SetsValue old new id value = (k : ℕ) → value_at new k ≡ (if id == k then value else value_at old k)

-- ids ascend, each once
abbrev pub Ascends : {V : Type 0} → List (ℕ × V) → Type 0
Ascends values = IsStrictlySortedBy nat_cmp (keys_of values)

-- an id is above the given one; each is where none is given
abbrev pub is_above : Option ℕ → ℕ → Bool
is_above None id = true
is_above (Some low) id = nat_lt low id

-- the first entry above an id, or of all; in ascending entries that of the least such id
abbrev pub entry_after : {V : Type 0} → List (ℕ × V) → Option ℕ → Option (ℕ × V)
entry_after values after = find (λ e. is_above after e.0) values
