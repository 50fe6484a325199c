-- Tests on numbers, and truths, as laws and proofs need them.
use Rattle.std.proofs.Common.{◌≡◌, ℕ, ◌<◌, ◌≤◌, ◌==◌, ◌&&◌, ◌||◌, Bool, true, false, cond, refl, arith, nat_lt}
use Rattle.std.proofs.lemmas.Bool.Decides.{nat_tests}

pub lt_true : (a b : ℕ) → a < b → nat_lt a b ≡ true
lt_true a b lt = grind (arith, nat_tests)

pub lt_false : (a b : ℕ) → b ≤ a → nat_lt a b ≡ false
lt_false a b le = grind (arith, nat_tests)

pub lt_from : (a b : ℕ) → nat_lt a b ≡ true → a < b
lt_from a b e = grind (arith, nat_tests)

pub eq_self : (a : ℕ) → (a == a) ≡ true
eq_self a = grind (arith, nat_tests)

pub eq_less : (a b : ℕ) → a < b → (a == b) ≡ false
eq_less a b lt = grind (arith, nat_tests)

pub eq_more : (a b : ℕ) → a < b → (b == a) ≡ false
eq_more a b lt = grind (arith, nat_tests)

pub eq_from : (a b : ℕ) → (a == b) ≡ true → a ≡ b
eq_from a b e = grind (arith, nat_tests)

pub or_left : (a b : Bool) → a ≡ true → (a || b) ≡ true
or_left true b e = refl
or_left false b e = absurd (cc)

pub or_right : (a b : Bool) → b ≡ true → (a || b) ≡ true
or_right true b e = refl
or_right false b e = e

pub and_left : (a b : Bool) → (a && b) ≡ true → a ≡ true
and_left true b e = refl
and_left false b e = absurd (cc)

pub and_right : (a b : Bool) → (a && b) ≡ true → b ≡ true
and_right true b e = e
and_right false b e = absurd (cc)

pub both_true : (a b : Bool) → a ≡ true → b ≡ true → (a && b) ≡ true
both_true true b d e = e
both_true false b d e = absurd (cc)

-- what holds of both holds of the one that is chosen
pub if_at : {X : Type 0} (b : Bool) (P : X → Type 0) (x y : X) → P x → P y → P (cond b x y)
if_at true P x y p q = p
if_at false P x y p q = q

pub by_order : (id x : ℕ) (C : Type 0) → (id < x → C) → (id ≡ x → C) → (x < id → C) → C
by_order id x C less same more = cases (nat_lt id x) (nat_lt x id) refl refl
  where
    cases : (a b : Bool) → nat_lt id x ≡ a → nat_lt x id ≡ b → C
    cases true b e f = less (grind (arith, nat_tests))
    cases false true e f = more (grind (arith, nat_tests))
    cases false false e f = same (grind (arith, nat_tests))

pub eq_true : (a b : ℕ) → a ≡ b → (a == b) ≡ true
eq_true a b e = grind (arith, nat_tests)

pub eq_false : (a b : ℕ) → (a ≡ b → ⊥) → (a == b) ≡ false
eq_false a b e = grind (arith, nat_tests)
