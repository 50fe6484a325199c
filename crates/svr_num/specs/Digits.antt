-- Numbers in decimal digits.
use Rattle.std.specs.Prelude.{ℕ, ◌^◌, ◌&&◌, Bool, ℤ, pos, negsuc, List, length, nat_lt, Option, Some, None, if◌then◌else◌}
use Rattle.std.specs.Str.{all_ascii_digits}
use Rattle.std.specs.Str.Parse.{digits_value, signed_digits_value, without_leading_sign}

-- one digit or more, and nothing else
abbrev pub is_digits : List ℕ → Bool
is_digits text = nat_lt 0 (length text) && all_ascii_digits text

-- from -2^63 to 2^63 - 1
abbrev pub is_i64 : ℤ → Bool
is_i64 (pos n) = nat_lt n (2 ^ 63)
is_i64 (negsuc n) = nat_lt n (2 ^ 63)

-- the number that digits alone write, if it is below 2^64
unfoldable pub digits_in : List ℕ → Option ℕ
digits_in text = if is_digits text && nat_lt (digits_value 10 text) (2 ^ 64) then Some (digits_value 10 text) else None

-- the number that digits write behind a sign or none, if it is in i64
unfoldable pub int_in : List ℕ → Option ℤ
int_in text = if is_digits (without_leading_sign text) && is_i64 (signed_digits_value 10 text) then Some (signed_digits_value 10 text) else None
