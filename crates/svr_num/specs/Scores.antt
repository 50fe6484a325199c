-- Scores.
use Rattle.std.specs.Prelude.{ℕ, ◌-◌, ◌^◌, ℤ, pos, negsuc, min}

-- the nearest number from 0 to the greatest score
abbrev pub clamped : ℤ → ℕ
clamped (pos n) = min n (2 ^ 48 - 1)
clamped (negsuc n) = 0
