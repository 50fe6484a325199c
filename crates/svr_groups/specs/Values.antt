-- Values in ascending order.
use Rattle.std.specs.Prelude.{ℤ, List, [], ◌∷◌, int_lt, if◌then◌else◌}
use Rattle.std.specs.Ordering.{int_eq}

-- with one more, in front of the first that isn't less
unfoldable pub with_value : ℤ → List ℤ → List ℤ
with_value v [] = v ∷ []
with_value v (x ∷ xs) = if int_lt x v then x ∷ with_value v xs else v ∷ x ∷ xs

-- without one of those that are equal to v, the first
unfoldable pub without_value : ℤ → List ℤ → List ℤ
without_value v [] = []
without_value v (x ∷ xs) = if int_eq x v then xs else x ∷ without_value v xs

-- values in their order
unfoldable pub ascending_values : List ℤ → List ℤ
ascending_values [] = []
ascending_values (x ∷ xs) = with_value x (ascending_values xs)
