-- Groups in their order, and what holds of all ids, as laws need them.
use Rattle.std.proofs.Common.{◌≡◌, ℕ, zero, suc, ◌<◌, ◌^◌, ◌==◌, Bool, true, false, cond, List, [], ◌∷◌, ◌++◌, map, filter, Option, Some, None, refl, subst, arith}
use Rattle.std.specs.List.{All, AllByRecursion}
use Rattle.std.specs.Option.{IfSome}
use Rattle.svr_listing.specs.Groups.{Descends, IsGroup, first_key}
use Rattle.svr_listing.specs.declared.group.Group.{Group}
use Rattle.svr_listing.specs.Joined.{ids_at}
use Rattle.svr_iter.specs.Keys.{greater}
use Rattle.svr_iter.specs.KeyLaws.{AllLess, AreDescending, first}
use Rattle.svr_iter.specs.Merging.{Above, Up}
use Rattle.svr_iter.specs.Taking.{IsLess}
use Rattle.svr_iter.specs.Truths.{eq_from, if_at}

pub from_all : (P : ℕ → Type 0) (xs : List ℕ) → All P xs → AllByRecursion P xs
from_all P [] all = tt
from_all P (x ∷ xs) all = (all 0 0 (omega arith), from_all P xs (λ k d lt. all (suc k) d (omega arith)))

all_front : (P : ℕ → Type 0) (x : ℕ) (xs : List ℕ) → P x → All P xs → All P (x ∷ xs)
all_front P x xs p rest zero d lt = p
all_front P x xs p rest (suc k) d lt = rest k d (omega arith)

pub to_all : (P : ℕ → Type 0) (xs : List ℕ) → AllByRecursion P xs → All P xs
to_all P [] all = λ k d lt. absurd (omega arith)
to_all P (x ∷ xs) all = all_front P x xs all.0 (to_all P xs all.1)

above-filter : (p : ℕ → Bool) (x : ℕ) (xs : List ℕ) → Above x xs → Above x (filter p xs)
above-filter p x [] a = tt
above-filter p x (y ∷ ys) a = if_at (p y) (Above x) (y ∷ filter p ys) (filter p ys) (a.0, above-filter p x ys a.1)
    (above-filter p x ys a.1)

pub Up-filter : (p : ℕ → Bool) (xs : List ℕ) → Up xs → Up (filter p xs)
Up-filter p [] up = tt
Up-filter p (x ∷ xs) up = if_at (p x) Up (x ∷ filter p xs) (filter p xs) (above-filter p x xs up.0, Up-filter p xs up.1)
    (Up-filter p xs up.1)

-- of those that pass a test, what holds where the test is passed
pub filter-all : (P Q : ℕ → Type 0) (p : ℕ → Bool) (xs : List ℕ) → ((x : ℕ) → P x → p x ≡ true → Q x) → AllByRecursion P xs
    → AllByRecursion Q (filter p xs)
filter-all P Q p [] q all = tt
filter-all P Q p (x ∷ xs) q all = one (p x) (q x all.0) (filter-all P Q p xs q all.1)
  where
    one : (b : Bool) → (b ≡ true → Q x) → AllByRecursion Q (filter p xs) → AllByRecursion Q (cond b (x ∷ filter p xs) (filter p xs))
    one true here rest = (here refl, rest)
    one false here rest = rest

empty_group : (may : ℕ → ℕ → Bool) (key : ℕ) → key < 2 ^ 48 → IsGroup may (record { key = key; ids = [] })
empty_group may key lt = record {
  ordered = record { key_fits = lt; ascending = λ k h. absurd (omega arith); ids_fit = λ k d h. absurd (omega arith) };
  allowed = λ k d h. absurd (omega arith);
}

pub part_at : (may : ℕ → ℕ → Bool) (key : ℕ) (list : List Group) → key < 2 ^ 48 → AllByRecursion (IsGroup may) list
    → IsGroup may (record { key = key; ids = ids_at key list })
part_at may key [] lt all = empty_group may key lt
part_at may key (g ∷ gs) lt all = one (g.key == key) refl (part_at may key gs lt all.1)
  where
    one : (b : Bool) → (g.key == key) ≡ b → IsGroup may (record { key = key; ids = ids_at key gs })
        → IsGroup may (record { key = key; ids = cond b g.ids (ids_at key gs) })
    one true e rest = subst (λ (n : ℕ). IsGroup may (record { key = n; ids = g.ids })) (eq_from g.key key e) all.0
    one false e rest = rest

pub all-append : (Q : ℕ → Type 0) (xs ys : List ℕ) → AllByRecursion Q xs → AllByRecursion Q ys → AllByRecursion Q (xs ++ ys)
all-append Q [] ys a b = b
all-append Q (x ∷ xs) ys a b = (a.0, all-append Q xs ys a.1 b)

abbrev pub groups_at : (ℕ → List ℕ) → List ℕ → List Group
groups_at f ks = map {B = Group} (λ key. record { key = key; ids = f key }) ks

pub first_group : (f : ℕ → List ℕ) (ks : List ℕ) → first_key (groups_at f ks) ≡ first ks
first_group f [] = refl
first_group f (k ∷ ks) = refl

less_groups : (f : ℕ → List ℕ) (key : ℕ) (ks : List ℕ) → AllLess key ks
    → AllByRecursion (λ (later : Group). later.key < key) (groups_at f ks)
less_groups f key [] all = tt
less_groups f key (k ∷ ks) all = (all.0, less_groups f key ks all.1)

pub down_groups : (f : ℕ → List ℕ) (ks : List ℕ) → AreDescending ks → Descends (groups_at f ks)
down_groups f [] d = tt
down_groups f (k ∷ ks) d = (less_groups f k ks d.0, down_groups f ks d.1)

pub law_groups : (may : ℕ → ℕ → Bool) (f : ℕ → List ℕ) (ks : List ℕ)
    → ((key : ℕ) → key < 2 ^ 48 → IsGroup may (record { key = key; ids = f key })) → AllByRecursion (λ key. key < 2 ^ 48) ks
    → AllByRecursion (IsGroup may) (groups_at f ks)
law_groups may f [] law all = tt
law_groups may f (k ∷ ks) law all = (law k all.0, law_groups may f ks law all.1)

pub less_first : (a b : Option ℕ) (key : ℕ) → IsLess (greater a b) (Some key) → IsLess a (Some key) × IsLess b (Some key)
less_first None b key less = (tt, less)
less_first (Some x) None key less = (less, tt)
less_first (Some x) (Some y) key less = (omega arith, omega arith)

-- the greatest of the next keys fits
pub first_fits : (may : ℕ → ℕ → Bool) (gs : List Group) → AllByRecursion (IsGroup may) gs → IfSome (first_key gs) (λ key. key < 2 ^ 48)
first_fits may [] each = tt
first_fits may (g ∷ gs) each = each.0.ordered.key_fits

pub greater_fits : (a b : Option ℕ) → IfSome a (λ key. key < 2 ^ 48) → IfSome b (λ key. key < 2 ^ 48)
    → IfSome (greater a b) (λ key. key < 2 ^ 48)
greater_fits None b p q = q
greater_fits (Some x) None p q = p
greater_fits (Some x) (Some y) p q = omega arith
