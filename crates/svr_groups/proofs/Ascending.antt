-- What a value more or less makes of values, and of values in their order.
use Rattle.std.proofs.Common.{◌≡◌, ◌+◌, ℤ, List, [], ◌∷◌, ◌++◌, length, Bool, true, false, refl, sym, ap, ◌∙◌, arith}
use Rattle.std.specs.Prelude.{int_lt}
use Rattle.std.specs.Ordering.{int_eq}
use Rattle.std.proofs.lemmas.Int.{ints}
use Rattle.svr_groups.specs.Values.{with_value, without_value, ascending_values}

-- ---- less and equal

pub int_eq-refl : (v : ℤ) → int_eq v v ≡ true
int_eq-refl v = grind (arith, ints)

pub int_eq-less : (x v : ℤ) → int_lt x v ≡ true → int_eq x v ≡ false
int_eq-less x v h = grind (arith, ints)

pub same_from_int_eq : (x v : ℤ) → int_eq x v ≡ true → x ≡ v
same_from_int_eq x v h = grind (arith, ints)

pub same_from_none_less : (x v : ℤ) → int_lt x v ≡ false → int_lt v x ≡ false → x ≡ v
same_from_none_less x v h k = grind (arith, ints)

pub not_less-trans : (x y z : ℤ) → int_lt y x ≡ false → int_lt z y ≡ false → int_lt z x ≡ false
not_less-trans x y z h k = grind (arith, ints)

pub not_less-from_less : (x y : ℤ) → int_lt x y ≡ true → int_lt y x ≡ false
not_less-from_less x y h = grind (arith, ints)

pub less-between : (x u v : ℤ) → int_lt x u ≡ true → int_lt x v ≡ false → int_lt v u ≡ true
less-between x u v h k = grind (arith, ints)

-- ---- a value more, a value less

pub with_value-less : (v x : ℤ) (xs : List ℤ) → int_lt x v ≡ true → with_value v (x ∷ xs) ≡ x ∷ with_value v xs
unfolding with_value
with_value-less v x xs h = rw h refl

pub with_value-here : (v x : ℤ) (xs : List ℤ) → int_lt x v ≡ false → with_value v (x ∷ xs) ≡ v ∷ x ∷ xs
unfolding with_value
with_value-here v x xs h = rw h refl

pub without_value-here : (v x : ℤ) (xs : List ℤ) → int_eq x v ≡ true → without_value v (x ∷ xs) ≡ xs
unfolding without_value
without_value-here v x xs h = rw h refl

pub without_value-other : (v x : ℤ) (xs : List ℤ) → int_eq x v ≡ false → without_value v (x ∷ xs) ≡ x ∷ without_value v xs
unfolding without_value
without_value-other v x xs h = rw h refl

without_with-at : (v x : ℤ) (xs : List ℤ) (b : Bool) → int_lt x v ≡ b → without_value v (with_value v xs) ≡ xs
    → without_value v (with_value v (x ∷ xs)) ≡ x ∷ xs
without_with-at v x xs true h same =
    ap (without_value v) (with_value-less v x xs h) ∙ without_value-other v x (with_value v xs) (int_eq-less x v h)
    ∙ ap (λ ys. x ∷ ys) same
without_with-at v x xs false h same =
    ap (without_value v) (with_value-here v x xs h) ∙ without_value-here v v (x ∷ xs) (int_eq-refl v)

-- a value taken out that was put in
pub without_value-with_value : (v : ℤ) (xs : List ℤ) → without_value v (with_value v xs) ≡ xs
unfolding with_value
without_value-with_value v [] = without_value-here v v [] (int_eq-refl v)
without_value-with_value v (x ∷ xs) = without_with-at v x xs (int_lt x v) refl (without_value-with_value v xs)

comm-here : (u v : ℤ) (ys : List ℤ) (b d : Bool) → int_lt u v ≡ b → int_lt v u ≡ d → with_value u ys ≡ u ∷ ys → with_value v ys ≡ v ∷ ys
    → with_value u (v ∷ ys) ≡ with_value v (u ∷ ys)
comm-here u v ys b true h k us vs =
    with_value-less u v ys k ∙ ap (λ zs. v ∷ zs) us ∙ sym (with_value-here v u ys (not_less-from_less v u k))
comm-here u v ys true false h k us vs =
    with_value-here u v ys k ∙ ap (λ zs. u ∷ zs) (sym vs) ∙ sym (with_value-less v u ys h)
comm-here u v ys false false h k us vs =
    with_value-here u v ys k ∙ ap (λ z. u ∷ z ∷ ys) (sym (same_from_none_less u v h k)) ∙ ap (λ z. z ∷ u ∷ ys) (same_from_none_less u v h k)
    ∙ sym (with_value-here v u ys h)

comm-at : (u v x : ℤ) (xs : List ℤ) (b d : Bool) → int_lt x u ≡ b → int_lt x v ≡ d
    → with_value u (with_value v xs) ≡ with_value v (with_value u xs)
    → with_value u (with_value v (x ∷ xs)) ≡ with_value v (with_value u (x ∷ xs))
comm-at u v x xs true true h k same =
    ap (with_value u) (with_value-less v x xs k) ∙ with_value-less u x (with_value v xs) h ∙ ap (λ zs. x ∷ zs) same
    ∙ sym (ap (with_value v) (with_value-less u x xs h) ∙ with_value-less v x (with_value u xs) k)
comm-at u v x xs true false h k same =
    ap (with_value u) (with_value-here v x xs k) ∙ with_value-less u v (x ∷ xs) (less-between x u v h k)
    ∙ ap (λ zs. v ∷ zs) (with_value-less u x xs h)
    ∙ sym (ap (with_value v) (with_value-less u x xs h) ∙ with_value-here v x (with_value u xs) k)
comm-at u v x xs false true h k same =
    ap (with_value u) (with_value-less v x xs k) ∙ with_value-here u x (with_value v xs) h
    ∙ sym (ap (with_value v) (with_value-here u x xs h) ∙ with_value-less v u (x ∷ xs) (less-between x v u k h)
    ∙ ap (λ zs. u ∷ zs) (with_value-less v x xs k))
comm-at u v x xs false false h k same =
    ap (with_value u) (with_value-here v x xs k)
    ∙ comm-here u v (x ∷ xs) (int_lt u v) (int_lt v u) refl refl (with_value-here u x xs h) (with_value-here v x xs k)
    ∙ sym (ap (with_value v) (with_value-here u x xs h))

-- which of two values is put in first is all one
pub with_value-comm : (u v : ℤ) (xs : List ℤ) → with_value u (with_value v xs) ≡ with_value v (with_value u xs)
unfolding with_value
with_value-comm u v [] = comm-here u v [] (int_lt u v) (int_lt v u) refl refl refl refl
with_value-comm u v (x ∷ xs) = comm-at u v x xs (int_lt x u) (int_lt x v) refl refl (with_value-comm u v xs)

-- ---- values in their order

-- a value anywhere among values
pub ascending_values-insert : (xs ys : List ℤ) (v : ℤ) → ascending_values (xs ++ v ∷ ys) ≡ with_value v (ascending_values (xs ++ ys))
unfolding ascending_values
ascending_values-insert [] ys v = refl
ascending_values-insert (x ∷ xs) ys v = ap (with_value x) (ascending_values-insert xs ys v) ∙ with_value-comm x v (ascending_values (xs ++ ys))

ascending_values-with-at : (v x : ℤ) (xs : List ℤ) (b : Bool) → int_lt x v ≡ b → ascending_values (with_value v xs) ≡ with_value v (ascending_values xs)
    → ascending_values (with_value v (x ∷ xs)) ≡ with_value v (ascending_values (x ∷ xs))
unfolding ascending_values
ascending_values-with-at v x xs true h same =
    ap ascending_values (with_value-less v x xs h) ∙ ap (with_value x) same ∙ with_value-comm x v (ascending_values xs)
ascending_values-with-at v x xs false h same = ap ascending_values (with_value-here v x xs h)

pub ascending_values-with_value : (v : ℤ) (xs : List ℤ) → ascending_values (with_value v xs) ≡ with_value v (ascending_values xs)
unfolding with_value ascending_values
ascending_values-with_value v [] = refl
ascending_values-with_value v (x ∷ xs) = ascending_values-with-at v x xs (int_lt x v) refl (ascending_values-with_value v xs)

length-with-at : (v x : ℤ) (xs : List ℤ) (b : Bool) → int_lt x v ≡ b → length (with_value v xs) ≡ length xs + 1
    → length (with_value v (x ∷ xs)) ≡ length (x ∷ xs) + 1
length-with-at v x xs true h same = ap length (with_value-less v x xs h) ∙ omega arith
length-with-at v x xs false h same = ap length (with_value-here v x xs h) ∙ omega arith

pub length-with_value : (v : ℤ) (xs : List ℤ) → length (with_value v xs) ≡ length xs + 1
unfolding with_value
length-with_value v [] = omega arith
length-with_value v (x ∷ xs) = length-with-at v x xs (int_lt x v) refl (length-with_value v xs)

pub length-ascending_values : (xs : List ℤ) → length (ascending_values xs) ≡ length xs
unfolding ascending_values
length-ascending_values [] = refl
length-ascending_values (x ∷ xs) = length-with_value x (ascending_values xs) ∙ omega (arith, length-ascending_values xs)
