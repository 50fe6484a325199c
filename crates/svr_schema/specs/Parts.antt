-- What stands at the members of a value.
use Rattle.std.specs.Prelude.{ℕ, ◌&&◌, Bool, ℤ, List, [], length, nat_le, not, int_lt, Option, is_some, unwrap_or}
use Rattle.std.specs.Option.{option_map_or}
use Rattle.serde_json.specs.Data.{Data}
use Rattle.serde_json.specs.Find.{get, as_array, as_i64, as_u64, as_number}
use Rattle.svr_json.specs.Parts.{◌>>=◌, elements_of, only_if, text_at}

-- the string at a member; empty where there is none
abbrev pub text_or_empty : List ℕ → Data → List ℕ
text_or_empty name d = unwrap_or (text_at name d) []

-- the elements of the array at a member; none where there is none
abbrev pub elements_at : List ℕ → Data → List Data
elements_at name d = option_map_or elements_of (get name d) []

-- an array of low to high elements stands at the member
abbrev pub is_list_at : List ℕ → ℕ → ℕ → Data → Bool
is_list_at name low high d =
    is_some (get name d >>= as_array) && nat_le low (length (elements_at name d)) && nat_le (length (elements_at name d)) high

-- the whole number in i64 at a member
abbrev pub whole_at : List ℕ → Data → Option ℤ
whole_at name d = get name d >>= as_number >>= as_i64

-- from low to high
abbrev pub is_within : ℤ → ℤ → ℤ → Bool
is_within low high n = not (int_lt n low) && not (int_lt high n)

-- the whole number from low to high at a member
abbrev pub whole_within : List ℕ → ℤ → ℤ → Data → Option ℤ
whole_within name low high d = do
  n ← whole_at name d
  only_if (is_within low high n) n

-- the same of numbers that aren't negative
abbrev pub count_within : List ℕ → ℕ → ℕ → Data → Option ℕ
count_within name low high d = do
  n ← get name d >>= as_number >>= as_u64
  only_if (nat_le low n && nat_le n high) n
