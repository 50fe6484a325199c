-- Bounds of products of signed numbers.
use Rattle.std.proofs.Common.{◌≤◌, ◌*◌, ◌^◌, ℕ, suc, ℤ, pos, negsuc, neg_ℤ, ◌*ℤ◌, ◌≤ℤ◌, ◌<◌, unsigned_abs, arith}
use Rattle.std.proofs.lemmas.Int.{ints}
use Rattle.std.proofs.lemmas.Nat.{mul-le}
use Rattle.svr_schema.specs.Lawful.{IsWeight}
use Rattle.svr_num.specs.Aggregates.{IsValue}

pub product-bounds : (a b : ℤ) (m n : ℕ) → unsigned_abs a ≤ m → unsigned_abs b ≤ n
    → (neg_ℤ (pos (m * n)) ≤ℤ (a *ℤ b)) × ((a *ℤ b) ≤ℤ pos (m * n))
product-bounds (pos x) (pos y) m n h k = let p = mul-le x y m n h k in (omega (arith, ints), omega (arith, ints))
product-bounds (pos x) (negsuc y) m n h k = let p = mul-le x (suc y) m n h k in (omega (arith, ints), omega (arith, ints))
product-bounds (negsuc x) (pos y) m n h k = let p = mul-le (suc x) y m n h k in (omega (arith, ints), omega (arith, ints))
product-bounds (negsuc x) (negsuc y) m n h k = let p = mul-le (suc x) (suc y) m n h k in (omega (arith, ints), omega (arith, ints))

weight-abs : (w : ℤ) → IsWeight w → unsigned_abs w ≤ 1000000000
weight-abs (pos x) h = let a = h.low in let b = h.high in omega (arith, ints)
weight-abs (negsuc x) h = let a = h.low in let b = h.high in omega (arith, ints)

value-abs : (v : ℤ) → IsValue v → unsigned_abs v ≤ 2 ^ 82
value-abs (pos x) h = let a = h.low in let b = h.high in omega (arith, ints)
value-abs (negsuc x) h = let a = h.low in let b = h.high in omega (arith, ints)

-- a weight times a value
pub part-bounds : (w v : ℤ) → IsWeight w → IsValue v → (neg_ℤ (pos (2 ^ 112)) ≤ℤ (w *ℤ v)) × ((w *ℤ v) ≤ℤ pos (2 ^ 112))
part-bounds w v h k =
    let p = product-bounds w v 1000000000 (2 ^ 82) (weight-abs w h) (value-abs v k) in
    (omega (arith, ints, p.0), omega (arith, ints, p.1))
