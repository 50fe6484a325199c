-- Values in ascending order: at which place one stands, and what is left without it.
use Rattle.std.proofs.Common.{◌≡◌, ℕ, zero, suc, ◌<◌, ◌≤◌, ℤ, List, [], ◌∷◌, length, get_or, Bool, true, false}
use Rattle.std.proofs.Common.{refl, sym, ap, ◌∙◌, subst, ⊎_elim, arith}
use Rattle.std.specs.Prelude.{int_lt}
use Rattle.std.specs.List.{Contains, insert, remove}
use Rattle.std.specs.List.Sorted.{IsPartitionedBy}
use Rattle.std.specs.Ordering.{int_eq}
use Rattle.std.proofs.lemmas.Int.{ints}
use Rattle.std.proofs.lemmas.Bool.{cases_lt}
use Rattle.svr_groups.specs.Values.{with_value, without_value, ascending_values}
use Rattle.svr_groups.specs.Layout.{IsPlaceOf}
use Rattle.svr_groups.proofs.Ascending.{int_eq-refl, int_eq-less, not_less-trans, not_less-from_less}
use Rattle.svr_groups.proofs.Ascending.{with_value-less, with_value-here, without_value-here, without_value-other, same_from_none_less}

-- no value is less than x
abbrev pub NoneLess : ℤ → List ℤ → Type 0
NoneLess x [] = Unit {0}
NoneLess x (y ∷ ys) = (int_lt y x ≡ false) × NoneLess x ys

-- no value is less than one in front of it
abbrev pub Rises : List ℤ → Type 0
Rises [] = Unit {0}
Rises (x ∷ xs) = NoneLess x xs × Rises xs

not_less-refl : (x : ℤ) → int_lt x x ≡ false
not_less-refl x = grind (arith, ints)

NoneLess-trans : (x y : ℤ) (zs : List ℤ) → int_lt y x ≡ false → NoneLess y zs → NoneLess x zs
NoneLess-trans x y [] h none = tt
NoneLess-trans x y (z ∷ zs) h none = (not_less-trans x y z h none.0, NoneLess-trans x y zs h none.1)

-- ---- one value more

module _ (v x : ℤ) (xs : List ℤ) where
  NoneLess-with_at : (z : ℤ) (b : Bool) → int_lt x v ≡ b → int_lt v z ≡ false → NoneLess z (x ∷ xs) → NoneLess z (with_value v xs)
      → NoneLess z (with_value v (x ∷ xs))
  NoneLess-with_at z true h k none rest = subst (NoneLess z) (sym (with_value-less v x xs h)) (none.0, rest)
  NoneLess-with_at z false h k none rest = subst (NoneLess z) (sym (with_value-here v x xs h)) (k, none)

NoneLess-with_value : (z v : ℤ) (xs : List ℤ) → int_lt v z ≡ false → NoneLess z xs → NoneLess z (with_value v xs)
unfolding with_value
NoneLess-with_value z v [] k none = (k, tt)
NoneLess-with_value z v (x ∷ xs) k none =
    NoneLess-with_at v x xs z (int_lt x v) refl k none (NoneLess-with_value z v xs k none.1)

Rises-with_at : (v x : ℤ) (xs : List ℤ) (b : Bool) → int_lt x v ≡ b → Rises (x ∷ xs) → Rises (with_value v xs)
    → Rises (with_value v (x ∷ xs))
Rises-with_at v x xs true h rises rest =
    subst Rises (sym (with_value-less v x xs h)) (NoneLess-with_value x v xs (not_less-from_less x v h) rises.0, rest)
Rises-with_at v x xs false h rises rest =
    subst Rises (sym (with_value-here v x xs h)) ((h, NoneLess-trans v x xs h rises.0), rises)

Rises-with_value : (v : ℤ) (xs : List ℤ) → Rises xs → Rises (with_value v xs)
unfolding with_value
Rises-with_value v [] rises = (tt, tt)
Rises-with_value v (x ∷ xs) rises = Rises-with_at v x xs (int_lt x v) refl rises (Rises-with_value v xs rises.1)

Rises-ascending_values : (xs : List ℤ) → Rises (ascending_values xs)
unfolding ascending_values
Rises-ascending_values [] = tt
Rises-ascending_values (x ∷ xs) = Rises-with_value x (ascending_values xs) (Rises-ascending_values xs)

with_value-none_less : (x : ℤ) (xs : List ℤ) → NoneLess x xs → with_value x xs ≡ x ∷ xs
unfolding with_value
with_value-none_less x [] none = refl
with_value-none_less x (y ∷ ys) none = with_value-here x y ys none.0

pub ascending_values-from_rises : (xs : List ℤ) → Rises xs → ascending_values xs ≡ xs
unfolding ascending_values
ascending_values-from_rises [] rises = refl
ascending_values-from_rises (x ∷ xs) rises = ap (with_value x) (ascending_values-from_rises xs rises.1) ∙ with_value-none_less x xs rises.0

pub Rises-from_ascending : (xs : List ℤ) → ascending_values xs ≡ xs → Rises xs
Rises-from_ascending xs is = subst Rises is (Rises-ascending_values xs)

-- ---- one value less

module _ (v x : ℤ) (xs : List ℤ) where
  NoneLess-without_at : (z : ℤ) (b : Bool) → int_eq x v ≡ b → NoneLess z (x ∷ xs) → NoneLess z (without_value v xs)
      → NoneLess z (without_value v (x ∷ xs))
  NoneLess-without_at z true h none rest = subst (NoneLess z) (sym (without_value-here v x xs h)) none.1
  NoneLess-without_at z false h none rest = subst (NoneLess z) (sym (without_value-other v x xs h)) (none.0, rest)

NoneLess-without_value : (z v : ℤ) (xs : List ℤ) → NoneLess z xs → NoneLess z (without_value v xs)
unfolding without_value
NoneLess-without_value z v [] none = tt
NoneLess-without_value z v (x ∷ xs) none =
    NoneLess-without_at v x xs z (int_eq x v) refl none (NoneLess-without_value z v xs none.1)

Rises-without_at : (v x : ℤ) (xs : List ℤ) (b : Bool) → int_eq x v ≡ b → Rises (x ∷ xs) → Rises (without_value v xs)
    → Rises (without_value v (x ∷ xs))
Rises-without_at v x xs true h rises rest = subst Rises (sym (without_value-here v x xs h)) rises.1
Rises-without_at v x xs false h rises rest =
    subst Rises (sym (without_value-other v x xs h)) (NoneLess-without_value x v xs rises.0, rest)

Rises-without_value : (v : ℤ) (xs : List ℤ) → Rises xs → Rises (without_value v xs)
unfolding without_value
Rises-without_value v [] rises = tt
Rises-without_value v (x ∷ xs) rises = Rises-without_at v x xs (int_eq x v) refl rises (Rises-without_value v xs rises.1)

pub ascending_values-without_value : (v : ℤ) (xs : List ℤ) → ascending_values xs ≡ xs → ascending_values (without_value v xs) ≡ without_value v xs
ascending_values-without_value v xs is = ascending_values-from_rises (without_value v xs) (Rises-without_value v xs (Rises-from_ascending xs is))

-- ---- places

none_less-at : (x : ℤ) (xs : List ℤ) → NoneLess x xs → (j : ℕ) (d : ℤ) → j < length xs → int_lt (get_or xs j d) x ≡ false
none_less-at x [] none j d h = absurd (omega arith)
none_less-at x (y ∷ ys) none zero d h = none.0
none_less-at x (y ∷ ys) none (suc j) d h = none_less-at x ys none.1 j d (omega arith)

rises-at : (xs : List ℤ) → Rises xs → (i j : ℕ) (d : ℤ) → i ≤ j → j < length xs → int_lt (get_or xs j d) (get_or xs i d) ≡ false
rises-at [] rises i j d h k = absurd (omega arith)
rises-at (x ∷ xs) rises zero zero d h k = not_less-refl x
rises-at (x ∷ xs) rises zero (suc j) d h k = none_less-at x xs rises.0 j d (omega arith)
rises-at (x ∷ xs) rises (suc i) zero d h k = absurd (omega arith)
rises-at (x ∷ xs) rises (suc i) (suc j) d h k = rises-at xs rises.1 i j d (omega arith) (omega arith)

less-along : (x y v : ℤ) → int_lt y x ≡ false → int_lt y v ≡ true → int_lt x v ≡ true
less-along x y v h k = grind (arith, ints)

-- those that are less than v stand in front
pub IsPartitionedBy-less : (v : ℤ) (xs : List ℤ) → ascending_values xs ≡ xs → IsPartitionedBy (λ x. int_lt x v) xs
IsPartitionedBy-less v xs is = λ i j d h k less.
    less-along (get_or xs i d) (get_or xs j d) v (rises-at xs (Rises-from_ascending xs is) i j d h k) less

-- the same place in the list without its first value
IsPlaceOf-rest : (v x : ℤ) (xs : List ℤ) (i : ℕ) → IsPlaceOf v (x ∷ xs) (suc i) → IsPlaceOf v xs i
IsPlaceOf-rest v x xs i place = record {
  within = let h = place.within in omega arith;
  before = λ k d h j. place.before (suc k) d (omega arith) (omega arith);
  behind = λ k d h j. place.behind (suc k) d (omega arith) (omega arith);
}

pub insert-place : (v : ℤ) (xs : List ℤ) (i : ℕ) → IsPlaceOf v xs i → insert xs i v ≡ with_value v xs
unfolding with_value
insert-place v [] zero place = refl
insert-place v [] (suc i) place = absurd (let h = place.within in omega arith)
insert-place v (x ∷ xs) zero place = sym (with_value-here v x xs (place.behind 0 x (omega arith) (omega arith)))
insert-place v (x ∷ xs) (suc i) place =
    ap (λ ys. x ∷ ys) (insert-place v xs i (IsPlaceOf-rest v x xs i place))
    ∙ sym (with_value-less v x xs (place.before 0 x (omega arith) (omega arith)))

-- ---- a value that is there

less_itself : (v : ℤ) → int_lt v v ≡ true → ⊥
less_itself v h = let e = not_less-refl v in cc

pub place-below : (v : ℤ) (xs : List ℤ) (i : ℕ) → IsPlaceOf v xs i → Contains xs v → i < length xs
place-below v xs i place (k, h, is) =
    ⊎_elim (λ below. below)
    (λ past.
    absurd (less_itself v (subst (λ z. int_lt z v ≡ true) is (place.before k v (omega arith) (omega arith)))))
    (cases_lt i (length xs))

Contains-rest : (v x : ℤ) (xs : List ℤ) → (x ≡ v → ⊥) → Contains (x ∷ xs) v → Contains xs v
Contains-rest v x xs apart (zero, h, is) = absurd (apart is)
Contains-rest v x xs apart (suc k, h, is) = (k, omega arith, is)

not_same-from_less : (x v : ℤ) → int_lt x v ≡ true → x ≡ v → ⊥
not_same-from_less x v h e = less_itself v (subst (λ z. int_lt z v ≡ true) e h)

-- the first value, where it isn't less than one that is there
first-same : (v x : ℤ) (xs : List ℤ) → Rises (x ∷ xs) → int_lt x v ≡ false → Contains (x ∷ xs) v → x ≡ v
first-same v x xs rises h (k, within, is) =
    same_from_none_less x v h (subst (λ z. int_lt z x ≡ false) is (rises-at (x ∷ xs) rises 0 k v (omega arith) within))

remove-at : (v : ℤ) (xs : List ℤ) (i : ℕ) → Rises xs → IsPlaceOf v xs i → Contains xs v → remove xs i ≡ without_value v xs
remove-at v [] i rises place (k, h, is) = absurd (omega arith)
remove-at v (x ∷ xs) zero rises place there =
    let e = first-same v x xs rises (place.behind 0 x (omega arith) (omega arith)) there in
    sym (without_value-here v x xs (subst (λ z. int_eq z v ≡ true) (sym e) (int_eq-refl v)))
remove-at v (x ∷ xs) (suc i) rises place there =
    let less = place.before 0 x (omega arith) (omega arith) in
    ap (λ ys. x ∷ ys)
    (remove-at v xs i rises.1 (IsPlaceOf-rest v x xs i place) (Contains-rest v x xs (not_same-from_less x v less) there))
    ∙ sym (without_value-other v x xs (int_eq-less x v less))

pub remove-place : (v : ℤ) (xs : List ℤ) (i : ℕ) → ascending_values xs ≡ xs → IsPlaceOf v xs i → Contains xs v → remove xs i ≡ without_value v xs
remove-place v xs i is place there = remove-at v xs i (Rises-from_ascending xs is) place there

Contains-with_at : (v x : ℤ) (xs : List ℤ) (b : Bool) → int_lt x v ≡ b → Contains (with_value v xs) v → Contains (with_value v (x ∷ xs)) v
Contains-with_at v x xs true h (k, within, is) =
    subst (λ ys. Contains ys v) (sym (with_value-less v x xs h)) (suc k, omega arith, is)
Contains-with_at v x xs false h there = subst (λ ys. Contains ys v) (sym (with_value-here v x xs h)) (0, omega arith, refl)

pub Contains-with_value : (v : ℤ) (xs : List ℤ) → Contains (with_value v xs) v
unfolding with_value
Contains-with_value v [] = (0, omega arith, refl)
Contains-with_value v (x ∷ xs) = Contains-with_at v x xs (int_lt x v) refl (Contains-with_value v xs)
