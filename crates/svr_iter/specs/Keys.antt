-- The greatest of several keys.
use Rattle.std.specs.Prelude.{◌∷◌, max, Option, Some, None, ℕ, List, []}

-- the greater of two keys
abbrev pub greater : Option ℕ → Option ℕ → Option ℕ
greater None b = b
greater (Some x) None = Some x
greater (Some x) (Some y) = Some (max x y)

-- the greatest key
abbrev pub greatest : List (Option ℕ) → Option ℕ
greatest [] = None
greatest (key ∷ keys) = greater key (greatest keys)
