-- Parts of a JSON value, and steps that may find nothing.
use Rattle.std.specs.Prelude.{ℕ, Bool, false, List, [], ◌∷◌, if◌then◌else◌, Option, Some, None, option_and_then}
use Rattle.std.specs.Cmp.Lexicographic.{pointwise}
use Rattle.std.specs.List.{list_all, list_any}
use Rattle.std.specs.Str.{bytes_eq}
use Rattle.serde_json.specs.Data.{Data, array, object, Items, no_items, item, Members, no_members, member}
use Rattle.serde_json.specs.Find.{get, as_str}

-- the values in an array, in their order
abbrev pub items_in : Items → List Data
items_in no_items = []
items_in (item d ds) = d ∷ items_in ds

-- the elements of an array; none where the value is no array
abbrev pub elements_of : Data → List Data
elements_of (array ds) = items_in ds
elements_of _ = []

-- the names of the members, which ascend by bytes
abbrev pub names_in : Members → List (List ℕ)
names_in no_members = []
names_in (member name d ms) = name ∷ names_in ms

-- an object whose members have exactly these names
abbrev pub has_members : List (List ℕ) → Data → Bool
has_members names (object ms) = pointwise bytes_eq (names_in ms) names
has_members names _ = false

-- an object that has no member of another name
abbrev pub has_only : List (List ℕ) → Data → Bool
has_only names (object ms) = list_all (λ name. list_any (bytes_eq name) names) (names_in ms)
has_only names _ = false

-- the string at a member
abbrev pub text_at : List ℕ → Data → Option (List ℕ)
text_at name d = option_and_then as_str (get name d)

-- a step that goes on where the one before it found something
infixl 10 ◌>>=◌
abbrev pub ◌>>=◌ : {A B : Type 0} → Option A → (A → Option B) → Option B
found >>= next = option_and_then next found

-- x, if the test holds
abbrev pub only_if : {A : Type 0} → Bool → A → Option A
only_if holds x = if holds then Some x else None
