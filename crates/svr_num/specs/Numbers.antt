-- Whole numbers.
use Rattle.std.specs.Prelude.{ℤ}
use Rattle.std.specs.Int.{int_div_euclid}

-- a over b, which is above 0, rounded towards minus infinity
abbrev pub floor_of : ℤ → ℤ → ℤ
floor_of a b = int_div_euclid a b
