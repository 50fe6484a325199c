-- Keys in their order, as laws need them.
use Rattle.std.proofs.Common.{◌≡◌, ℕ, ◌<◌, ◌≤◌, ◌==◌, List, [], ◌∷◌, ◌++◌, map, max, nat_lt, Option, Some, None, refl, ap, subst, ◌∙◌, arith}
use Rattle.std.specs.Bool.{⊤}
use Rattle.std.specs.List.{AllByRecursion, flat_map}
use Rattle.svr_listing.specs.Groups.{Descends, first_key}
use Rattle.svr_listing.specs.declared.group.Group.{Group}
use Rattle.svr_listing.specs.Listing.{descending, with_key}
use Rattle.svr_iter.specs.Keys.{greater, greatest}
use Rattle.svr_iter.specs.Truths.{by_order, eq_less, eq_self, if_at, lt_false, lt_true}

abbrev pub AllLess : ℕ → List ℕ → Type 0
AllLess key keys = AllByRecursion (λ k. k < key) keys

pub with_key-first : (key : ℕ) (ks : List ℕ) → AllLess key ks → with_key key ks ≡ key ∷ ks
with_key-first key [] all = refl
with_key-first key (k ∷ ks) all = rw (lt_true k key all.0) refl

pub with_key-less : (key k : ℕ) (ks : List ℕ) → k < key → AllLess key ks → AllLess key (with_key k ks)
with_key-less key k [] lt all = (lt, tt)
with_key-less key k (x ∷ xs) lt all =
    if_at (nat_lt x k) (AllLess key) (k ∷ x ∷ xs) _ (lt, all)
    (if_at (k == x) (AllLess key) (x ∷ xs) _ all (all.0, with_key-less key k xs lt all.1))

pub descending-less : (key : ℕ) (ks : List ℕ) → AllLess key ks → AllLess key (descending ks)
descending-less key [] all = tt
descending-less key (k ∷ ks) all = with_key-less key k (descending ks) all.0 (descending-less key ks all.1)

less_trans : (k key : ℕ) (ks : List ℕ) → k < key → AllLess k ks → AllLess key ks
less_trans k key [] lt all = tt
less_trans k key (x ∷ xs) lt all = (omega (arith, all.0), less_trans k key xs lt all.1)

abbrev pub AreDescending : List ℕ → Type 0
AreDescending [] = ⊤
AreDescending (key ∷ keys) = AllLess key keys × AreDescending keys

with_key-down : (key : ℕ) (ks : List ℕ) → AreDescending ks → AreDescending (with_key key ks)
with_key-down key [] d = (tt, tt)
with_key-down key (k ∷ ks) d = by_order k key _
    (λ lt. rw (lt_true k key lt) ((lt, less_trans k key ks lt d.0), d))
    (λ e. subst (λ (n : ℕ). AreDescending (with_key n (k ∷ ks))) e (rw (lt_false k k (omega arith), eq_self k) d))
    (λ lt. rw (lt_false k key (omega arith), eq_less key k lt) (with_key-less k key ks lt d.0, with_key-down key ks d.1))

pub descending-down : (ks : List ℕ) → AreDescending (descending ks)
descending-down [] = tt
descending-down (k ∷ ks) = with_key-down k (descending ks) (descending-down ks)

-- what holds of keys holds of them in their order
with_key-all : (P : ℕ → Type 0) (key : ℕ) (ks : List ℕ) → P key → AllByRecursion P ks → AllByRecursion P (with_key key ks)
with_key-all P key [] p all = (p, tt)
with_key-all P key (k ∷ ks) p all =
    if_at (nat_lt k key) (AllByRecursion P) (key ∷ k ∷ ks) _ (p, all)
    (if_at (key == k) (AllByRecursion P) (k ∷ ks) _ all (all.0, with_key-all P key ks p all.1))

pub descending-all : (P : ℕ → Type 0) (ks : List ℕ) → AllByRecursion P ks → AllByRecursion P (descending ks)
descending-all P [] all = tt
descending-all P (k ∷ ks) all = with_key-all P k (descending ks) all.0 (descending-all P ks all.1)

-- ---- the first of them

abbrev pub first : List ℕ → Option ℕ
first [] = None
first (key ∷ keys) = Some key

max-left : (a b : ℕ) → b ≤ a → max a b ≡ a
max-left a b le = omega arith

max-right : (a b : ℕ) → a ≤ b → max a b ≡ b
max-right a b le = omega arith

first-with_key : (key : ℕ) (ks : List ℕ) → first (with_key key ks) ≡ greater (Some key) (first ks)
first-with_key key [] = refl
first-with_key key (k ∷ ks) = by_order k key _
    (λ lt. rw (lt_true k key lt, max-left key k (omega arith)) refl)
    (λ e. subst (λ (n : ℕ). first (with_key n (k ∷ ks)) ≡ Some (max n k)) e
    (rw (lt_false k k (omega arith), eq_self k, max-left k k (omega arith)) refl))
    (λ lt. rw (lt_false k key (omega arith), eq_less key k lt, max-right key k (omega arith)) refl)

first-descending : (ks : List ℕ) → first (descending ks) ≡ greatest (map Some ks)
first-descending [] = refl
first-descending (k ∷ ks) = first-with_key k (descending ks) ∙ ap (greater (Some k)) (first-descending ks)

max-assoc : (a b c : ℕ) → max a (max b c) ≡ max (max a b) c
max-assoc a b c = omega arith

greater-assoc : (x : ℕ) (a b : Option ℕ) → greater (Some x) (greater a b) ≡ greater (greater (Some x) a) b
greater-assoc x None b = refl
greater-assoc x (Some y) None = refl
greater-assoc x (Some y) (Some z) = ap Some (max-assoc x y z)

greatest-append : (xs ys : List ℕ) → greatest (map Some (xs ++ ys)) ≡ greater (greatest (map Some xs)) (greatest (map Some ys))
greatest-append [] ys = refl
greatest-append (x ∷ xs) ys = ap (greater (Some x)) (greatest-append xs ys)
    ∙ greater-assoc x (greatest (map Some xs)) (greatest (map Some ys))

greatest-groups : (gs : List Group) → Descends gs → greatest (map Some (map (λ (g : Group). g.key) gs)) ≡ first_key gs
greatest-groups [] d = refl
greatest-groups (g ∷ gs) d = ap (greater (Some g.key)) (greatest-groups gs d.1) ∙ above gs d.0
  where
    above : (l : List Group) → AllByRecursion (λ later. later.key < g.key) l → greater (Some g.key) (first_key l) ≡ Some g.key
    above [] all = refl
    above (h ∷ hs) all = ap Some (max-left g.key h.key (omega (arith, all.0)))

abbrev pub keys_of : List Group → List ℕ
keys_of list = map (λ group. group.key) list

-- the first of the keys of several lists
pub first-keys : (lists : List (List Group)) → AllByRecursion (λ list. Descends list) lists
    → first (descending (flat_map (λ list. keys_of list) lists)) ≡ greatest (map first_key lists)
first-keys lists all = first-descending (flat_map (λ list. keys_of list) lists) ∙ firsts lists all
  where
    firsts : (ls : List (List Group)) → AllByRecursion (λ list. Descends list) ls
        → greatest (map Some (flat_map (λ list. keys_of list) ls)) ≡ greatest (map first_key ls)
    firsts [] all = refl
    firsts (l ∷ ls) all = greatest-append (keys_of l) (flat_map (λ list. keys_of list) ls)
        ∙ ap (λ (o : Option ℕ). greater o (greatest (map Some (flat_map (λ list. keys_of list) ls)))) (greatest-groups l all.0)
        ∙ ap (greater (first_key l)) (firsts ls all.1)
