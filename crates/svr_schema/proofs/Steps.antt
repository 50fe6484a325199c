-- What tests and steps that passed tell.
use Rattle.std.proofs.Common.{◌≡◌, ◌≤◌, ◌&&◌, ℕ, Bool, true, false, List, [], ◌∷◌, get_or, nat_le, Option, Some}
use Rattle.std.proofs.Common.{None, is_some, option_and_then, option_map, position, ℤ, ◌≤ℤ◌, T, subst, refl, sym, arith}
use Rattle.std.proofs.lemmas.Bool.{false≢true}
use Rattle.std.proofs.lemmas.Bool.Decides.{nat_tests}
use Rattle.std.proofs.lemmas.List.Quantifiers.{position-Some}
use Rattle.std.proofs.lemmas.Option.{slice_get-get_or}
use Rattle.std.specs.List.{slice_get}
use Rattle.std.specs.Int.Signed.{lt_z_no}
use Rattle.svr_json.specs.Parts.{only_if}
use Rattle.svr_schema.specs.Parts.{is_within}
use Rattle.svr_schema.specs.Steps.{first_fault}

pub and_true : (a b : Bool) → (a && b) ≡ true → (a ≡ true) × (b ≡ true)
and_true true b e = (refl, e)
and_true false b e = absurd (false≢true e)

pub nat_le-true : (a b : ℕ) → nat_le a b ≡ true → a ≤ b
nat_le-true a b e = grind (arith, nat_tests)

-- the rule holds, and none fails after it
pub first_fault-none : (n : ℕ) (b : Bool) (later : Option ℕ) → first_fault n b later ≡ None → (b ≡ true) × (later ≡ None)
first_fault-none n true later e = (refl, e)
first_fault-none n false later e = cc

-- a step that led to a value gave one
pub and_then-some : {A B : Type 0} (o : Option A) (f : A → Option B) (b : B)
    → option_and_then f o ≡ Some b → (a : A) × (o ≡ Some a) × (f a ≡ Some b)
and_then-some None f b e = cc
and_then-some (Some a) f b e = (a, refl, e)

pub only_if-some : {A : Type 0} (t : Bool) (x y : A) → only_if t x ≡ Some y → (t ≡ true) × (x ≡ y)
only_if-some true x y e = (refl, cc)
only_if-some false x y e = cc

-- a test that passed before a step
pub form-some : {A B : Type 0} (t : Bool) (x : A) (f : A → Option B) (b : B)
    → option_and_then f (only_if t x) ≡ Some b → (t ≡ true) × (f x ≡ Some b)
form-some true x f b e = (refl, e)
form-some false x f b e = cc

pub option_map-some : {A B : Type 0} (f : A → B) (o : Option A) (b : B) → option_map f o ≡ Some b → (a : A) × (o ≡ Some a) × (f a ≡ b)
option_map-some f None b e = cc
option_map-some f (Some a) b e = (a, refl, cc)

-- a number in a range
pub is_within-true : (low high n : ℤ) → is_within low high n ≡ true → (low ≤ℤ n) × (n ≤ℤ high)
is_within-true low high n e =
    let both = and_true _ _ e in
    (lt_z_no (subst T (sym both.0) tt), lt_z_no (subst T (sym both.1) tt))

pub is_some-true : {A : Type 0} (o : Option A) → is_some o ≡ true → (a : A) × (o ≡ Some a)
is_some-true None e = absurd (false≢true e)
is_some-true (Some a) e = (a, refl)

-- an element that passes stands at the place that was found
pub position-at : {X : Type 0} (p : X → Bool) (xs : List X) (i : ℕ)
    → position p xs ≡ Some i → (x : X) × (slice_get xs i ≡ Some x) × (p x ≡ true)
position-at p [] i e = cc
position-at p (x ∷ xs) i e =
    let found = position-Some p (x ∷ xs) i x e in
    (get_or (x ∷ xs) i x, slice_get-get_or (x ∷ xs) i x found.0, found.1)
