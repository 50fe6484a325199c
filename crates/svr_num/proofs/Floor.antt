-- Division rounded down.
use Rattle.std.proofs.Common.{◌≡◌, ℕ, zero, suc, ◌*◌, ◌/◌, ◌<◌, ◌≤◌, ℤ, pos, negsuc}
use Rattle.std.proofs.Common.{◌+ℤ◌, ◌*ℤ◌, ◌≤ℤ◌, ◌<ℤ◌, neg_ℤ, add-one, refl, arith}
use Rattle.std.proofs.lemmas.Int.{ints}
use Rattle.std.proofs.lemmas.Nat.{div-add-mod'}
use Rattle.std.proofs.Math.Nat.{mod-lt, suc-mul}
use Rattle.svr_num.specs.Numbers.{floor_of}

-- the quotient's rows: n lies in the last one
rows : (n m : ℕ) → 0 < m → (n / m * m ≤ n) × (n < suc (n / m) * m)
rows n m h = omega (arith, div-add-mod' n m, mod-lt n h, suc-mul (n / m) m)

pub floor_of-not_above : (a b : ℤ) → pos 1 ≤ℤ b → (floor_of a b *ℤ b) ≤ℤ a
floor_of-not_above (pos n) (pos m) h = let r = rows n m (omega (arith, ints)) in omega (arith, ints)
floor_of-not_above (negsuc n) (pos m) h = let r = rows n m (omega (arith, ints)) in omega (arith, ints)
floor_of-not_above a (negsuc m) h = absurd (omega (arith, ints))

-- minus a quotient, times the divisor
negated : (n m q : ℕ) → q * m ≤ n → negsuc n <ℤ (neg_ℤ (pos q) *ℤ pos m)
negated n m zero h = omega (arith, ints)
negated n m (suc q) h = omega (arith, ints, h)

negsuc-add-one : (q : ℕ) → negsuc q +ℤ pos 1 ≡ neg_ℤ (pos q)
negsuc-add-one zero = refl
negsuc-add-one (suc q) = omega (arith, ints)

pub floor_of-greatest : (a b : ℤ) → pos 1 ≤ℤ b → a <ℤ ((floor_of a b +ℤ pos 1) *ℤ b)
floor_of-greatest (pos n) (pos m) h = let r = rows n m (omega (arith, ints)) in rw add-one (omega (arith, ints))
floor_of-greatest (negsuc n) (pos m) h = let r = rows n m (omega (arith, ints)) in rw (negsuc-add-one (n / m)) (negated n m (n / m) r.0)
floor_of-greatest a (negsuc m) h = absurd (omega (arith, ints))
