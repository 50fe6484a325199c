-- The greatest key of several lists, taken from each that has it.
use Rattle.std.proofs.Common.{◌≡◌, ℕ, ◌<◌, ◌||◌, Bool, true, false, cond, List, [], ◌∷◌, ◌++◌, map, refl, ap, sym, ◌∙◌, arith}
use Rattle.std.specs.List.{AllByRecursion, flat_map}
use Rattle.svr_listing.specs.declared.group.Group.{Group}
use Rattle.svr_listing.specs.Listing.{descending, with_key}
use Rattle.svr_listing.specs.Joined.{ids_at, keys_in}
use Rattle.svr_iter.specs.KeyLaws.{AllLess, descending-less, with_key-first}
use Rattle.svr_iter.specs.Truths.{eq_less, eq_more, eq_self, lt_false}

-- a list before and after the greatest key was taken: it gave its group of the key, or had none and stayed
pub record Step : Type 0 where
  pub old : List Group
  pub new : List Group
  pub ids : List ℕ
  pub took : Bool

pub record IsStep (key : ℕ) (step : Step) : Type 0 where
  pub is : step.old ≡ cond step.took (record { key = key; ids = step.ids } ∷ step.new) step.new
  pub none : step.took ≡ false → step.ids ≡ []
  pub below : AllByRecursion (λ group. group.key < key) step.new

abbrev pub olds : List Step → List (List Group)
olds steps = map (λ step. step.old) steps

abbrev pub news : List Step → List (List Group)
news steps = map (λ step. step.new) steps

abbrev pub some_took : List Step → Bool
some_took [] = false
some_took (step ∷ steps) = step.took || some_took steps

-- ---- keys

-- a key below the first goes behind it
with_key-below : (key k : ℕ) (ks : List ℕ) → k < key → with_key k (key ∷ ks) ≡ key ∷ with_key k ks
with_key-below key k ks lt = rw (lt_false key k (omega arith), eq_less k key lt) refl

with_key-again : (key : ℕ) (ks : List ℕ) → with_key key (key ∷ ks) ≡ key ∷ ks
with_key-again key ks = rw (lt_false key key (omega arith), eq_self key) refl

-- keys below the first, put before a list whose greatest is the first
descending-before : (key : ℕ) (pre rest left : List ℕ) → AllLess key pre → descending rest ≡ key ∷ descending left
    → descending (pre ++ rest) ≡ key ∷ descending (pre ++ left)
descending-before key [] rest left all e = e
descending-before key (k ∷ ks) rest left all e =
    ap (with_key k) (descending-before key ks rest left all.1 e) ∙ with_key-below key k (descending (ks ++ left)) all.0

-- the same where the greatest is not there
descending-same : (pre rest left : List ℕ) → descending rest ≡ descending left → descending (pre ++ rest) ≡ descending (pre ++ left)
descending-same [] rest left e = e
descending-same (k ∷ ks) rest left e = ap (with_key k) (descending-same ks rest left e)

all_less-append : (key : ℕ) (xs ys : List ℕ) → AllLess key xs → AllLess key ys → AllLess key (xs ++ ys)
all_less-append key [] ys a b = b
all_less-append key (x ∷ xs) ys a b = (a.0, all_less-append key xs ys a.1 b)

less_keys : (key : ℕ) (list : List Group) → AllByRecursion (λ group. group.key < key) list → AllLess key (map (λ group. group.key) list)
less_keys key [] all = tt
less_keys key (g ∷ gs) all = (all.0, less_keys key gs all.1)

abbrev flat : List (List Group) → List ℕ
flat lists = flat_map (λ list. map (λ group. group.key) list) lists

pub news_less : (key : ℕ) (steps : List Step) → AllByRecursion (IsStep key) steps → AllLess key (flat (news steps))
news_less key [] all = tt
news_less key (s ∷ ss) all = all_less-append key (map (λ (g : Group). g.key) s.new) (flat (news ss)) (less_keys key s.new all.0.below)
    (news_less key ss all.1)

keys-step : (key : ℕ) (old new : List Group) (ids : List ℕ) (took more : Bool) (rest left : List ℕ)
    → old ≡ cond took (record { key = key; ids = ids } ∷ new) new → AllByRecursion (λ group. group.key < key) new → AllLess key left
    → descending rest ≡ cond more (key ∷ descending left) (descending left)
    → descending (map (λ (g : Group). g.key) old ++ rest)
    ≡ cond (took || more) (key ∷ descending (map (λ (g : Group). g.key) new ++ left))
    (descending (map (λ (g : Group). g.key) new ++ left))
keys-step key old new ids true true rest left is below less e =
    rw is (ap (with_key key) (descending-before key (map (λ (g : Group). g.key) new) rest left (less_keys key new below) e)
    ∙ with_key-again key (descending (map (λ (g : Group). g.key) new ++ left)))
keys-step key old new ids true false rest left is below less e =
    rw is (ap (with_key key) (descending-same (map (λ (g : Group). g.key) new) rest left e)
    ∙ with_key-first key (descending (map (λ (g : Group). g.key) new ++ left))
    (descending-less key (map (λ (g : Group). g.key) new ++ left)
    (all_less-append key (map (λ (g : Group). g.key) new) left (less_keys key new below) less)))
keys-step key old new ids false true rest left is below less e =
    rw is (descending-before key (map (λ (g : Group). g.key) new) rest left (less_keys key new below) e)
keys-step key old new ids false false rest left is below less e = rw is (descending-same (map (λ (g : Group). g.key) new) rest left e)

pub keys_in-step : (key : ℕ) (steps : List Step) → AllByRecursion (IsStep key) steps
    → keys_in (olds steps) ≡ cond (some_took steps) (key ∷ keys_in (news steps)) (keys_in (news steps))
keys_in-step key [] all = refl
keys_in-step key (s ∷ ss) all =
    keys-step key s.old s.new s.ids s.took (some_took ss) (flat (olds ss)) (flat (news ss)) all.0.is all.0.below (news_less key ss all.1)
    (keys_in-step key ss all.1)

-- ---- ids at a key

ids_at-none : (key : ℕ) (groups : List Group) → AllByRecursion (λ group. group.key < key) groups → ids_at key groups ≡ []
ids_at-none key [] all = refl
ids_at-none key (g ∷ gs) all = rw (eq_less g.key key all.0) (ids_at-none key gs all.1)

pub ids_at-here : (key : ℕ) (old new : List Group) (ids : List ℕ) (took : Bool)
    → old ≡ cond took (record { key = key; ids = ids } ∷ new) new
    → (took ≡ false → ids ≡ []) → AllByRecursion (λ group. group.key < key) new → ids_at key old ≡ ids
ids_at-here key old new ids true is none below = rw (is, eq_self key) refl
ids_at-here key old new ids false is none below = rw is (ids_at-none key new below ∙ sym (none refl))

pub ids_at-below : (key k : ℕ) (old new : List Group) (ids : List ℕ) (took : Bool)
    → old ≡ cond took (record { key = key; ids = ids } ∷ new) new
    → k < key → ids_at k old ≡ ids_at k new
ids_at-below key k old new ids true is lt = rw (is, eq_more k key lt) refl
ids_at-below key k old new ids false is lt = ap (ids_at k) is

pub ids_here : (key : ℕ) (steps : List Step) → AllByRecursion (IsStep key) steps
    → map (ids_at key) (olds steps) ≡ map (λ step. step.ids) steps
ids_here key [] all = refl
ids_here key (s ∷ ss) all =
    ap (λ (l : List ℕ). l ∷ map (ids_at key) (olds ss)) (ids_at-here key s.old s.new s.ids s.took all.0.is all.0.none all.0.below)
    ∙ ap (λ (l : List (List ℕ)). s.ids ∷ l) (ids_here key ss all.1)

pub ids_below : (key k : ℕ) (steps : List Step) → AllByRecursion (IsStep key) steps → k < key
    → map (ids_at k) (olds steps) ≡ map (ids_at k) (news steps)
ids_below key k [] all lt = refl
ids_below key k (s ∷ ss) all lt =
    ap (λ (l : List ℕ). l ∷ map (ids_at k) (olds ss)) (ids_at-below key k s.old s.new s.ids s.took all.0.is lt)
    ∙ ap (λ (l : List (List ℕ)). ids_at k s.new ∷ l) (ids_below key k ss all.1 lt)

pub same_below : (key : ℕ) (ks : List ℕ) (f h : ℕ → List ℕ) → AllLess key ks → ((k : ℕ) → k < key → f k ≡ h k)
    → map {B = Group} (λ k. record { key = k; ids = f k }) ks ≡ map {B = Group} (λ k. record { key = k; ids = h k }) ks
same_below key [] f h less each = refl
same_below key (k ∷ ks) f h less each =
    ap (λ (l : List ℕ). record { key = k; ids = l } ∷ map {B = Group} (λ k. record { key = k; ids = f k }) ks) (each k less.0)
    ∙ ap (λ (l : List Group). record { key = k; ids = h k } ∷ l) (same_below key ks f h less.1 each)

-- the groups of all lists begin with the greatest key, at which stand the ids that the lists gave; `join` puts the ids of one key together
pub groups-step : (join : List (List ℕ) → List ℕ) (key : ℕ) (steps : List Step) → AllByRecursion (IsStep key) steps
    → some_took steps ≡ true
    → map {B = Group} (λ k. record { key = k; ids = join (map (ids_at k) (olds steps)) }) (keys_in (olds steps))
    ≡ record { key = key; ids = join (map (λ step. step.ids) steps) } ∷ map {B = Group}
    (λ k. record { key = k; ids = join (map (ids_at k) (news steps)) }) (keys_in (news steps))
groups-step join key steps all some =
    ap (λ (ks : List ℕ). map {B = Group} (λ k. record { key = k; ids = join (map (ids_at k) (olds steps)) }) ks)
    (rw some at (keys_in-step key steps all))
    ∙ ap (λ (l : List (List ℕ)). record { key = key; ids = join l } ∷ map {B = Group}
    (λ k. record { key = k; ids = join (map (ids_at k) (olds steps)) }) (keys_in (news steps))) (ids_here key steps all)
    ∙ ap (λ (l : List Group). record { key = key; ids = join (map (λ (step : Step). step.ids) steps) } ∷ l)
    (same_below key (keys_in (news steps)) (λ k. join (map (ids_at k) (olds steps))) (λ k. join (map (ids_at k) (news steps)))
    (descending-less key _ (news_less key steps all))
    (λ k lt. ap join (ids_below key k steps all lt)))
