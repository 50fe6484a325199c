-- The calls of one object that fail, by their numbers.
use Rattle.std.specs.Prelude.{ℕ, List, Bool, ◌==◌}
use Rattle.std.specs.List.{list_any}

-- the call of this number is listed
abbrev pub is_listed : List ℕ → ℕ → Bool
is_listed fail number = list_any (λ n. n == number) fail
