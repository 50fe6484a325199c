-- Posted pairs in memory, and that they keep the law.
use Rattle.std.proofs.Common.{◌≡◌, ℕ, zero, suc, ◌<◌, ◌≤◌, ◌^◌, ◌==◌, ◌&&◌, ◌||◌, Bool, true, false, cond, List, [], ◌∷◌, drop, nat_lt, refl, sym, subst, ◌∙◌, arith}
use Rattle.std.specs.Bool.{⊤}
use Rattle.std.specs.List.{AllByRecursion, list_all}
use Rattle.std.proofs.lemmas.Bool.Decides.{nat_tests}
use Rattle.svr_listing.specs.Groups.{AreGroups, Descends, IsGroup, first_key}
use Rattle.svr_listing.specs.declared.group.Group.{Group}
use Rattle.svr_iter.specs.GroupLaws.{to_all}
use Rattle.svr_iter.specs.Marks.{every}
use Rattle.svr_iter.specs.Merging.{Above, Up, Up-to}
use Rattle.svr_iter.specs.Truths.{and_left, and_right, both_true, by_order, eq_from, eq_self, lt_from, lt_true, or_left, or_right}
use Rattle.svr_postpage.specs.Pairs.{are_in_order, is_before, is_in_range}
use Rattle.svr_postpage.specs.declared.pair.Pair.{Pair}

-- pairs in page order, each before all later ones
abbrev pub IsPaged : List Pair → Type 0
IsPaged [] = ⊤
IsPaged (p ∷ ps) = ((p.key < 2 ^ 48) × (p.id < 2 ^ 63)) × (AllByRecursion (λ q. is_before p q ≡ true) ps × IsPaged ps)

-- one more id in front
abbrev pub with_pair : Pair → List Group → List Group
with_pair p [] = record { key = p.key; ids = p.id ∷ [] } ∷ []
with_pair p (g ∷ gs) = cond (g.key == p.key) (record { key = p.key; ids = p.id ∷ g.ids } ∷ gs)
    (record { key = p.key; ids = p.id ∷ [] } ∷ g ∷ gs)

-- the groups of pairs
abbrev pub grouped : List Pair → List Group
grouped [] = []
grouped (p ∷ ps) = with_pair p (grouped ps)

IsPaged-drop : (n : ℕ) (ps : List Pair) → IsPaged ps → IsPaged (drop n ps)
IsPaged-drop zero ps are = are
IsPaged-drop (suc n) [] are = tt
IsPaged-drop (suc n) (p ∷ ps) are = IsPaged-drop n ps are.1.1

-- ---- they are groups

not_from : (a b : ℕ) → (a == b) ≡ false → a ≡ b → ⊥
not_from a b e f = grind (arith, nat_tests)

pub record Follows (p : Pair) (g : Group) : Type 0 where
  pub key_low : g.key ≤ p.key
  pub ids_high : g.key ≡ p.key → Above p.id g.ids

pub before_low : (p q : Pair) → is_before p q ≡ true → q.key ≤ p.key
before_low p q e = one (nat_lt q.key p.key) (p.key == q.key) (nat_lt p.id q.id) refl refl e
  where
    one : (a b c : Bool) → nat_lt q.key p.key ≡ a → (p.key == q.key) ≡ b → (a || (b && c)) ≡ true → q.key ≤ p.key
    one true b c f h g = grind (arith, nat_tests)
    one false true c f h g = let same : p.key ≡ q.key = eq_from p.key q.key h in omega arith
    one false false c f h g = absurd (cc)

pub before_high : (p q : Pair) → is_before p q ≡ true → q.key ≡ p.key → p.id < q.id
before_high p q e same = one (nat_lt q.key p.key) (p.key == q.key) (nat_lt p.id q.id) refl refl e
  where
    one : (a b c : Bool) → nat_lt q.key p.key ≡ a → nat_lt p.id q.id ≡ c → (a || (b && c)) ≡ true → p.id < q.id
    one true b c f h g = let lt : q.key < p.key = grind (arith, nat_tests) in absurd (omega arith)
    one false true true f h g = grind (arith, nat_tests)
    one false true false f h g = absurd (cc)
    one false false c f h g = absurd (cc)

pub before_trans : (p q r : Pair) → is_before p q ≡ true → is_before q r ≡ true → is_before p r ≡ true
before_trans p q r e f = by_order r.key p.key _
    (λ lt. or_left _ _ (lt_true r.key p.key lt))
    (λ same.
    let qr : q.key ≡ r.key = (let a = before_low p q e in let b = before_low q r f in omega arith) in
    let pq : p.id < q.id = before_high p q e (qr ∙ same) in
    let at : q.id < r.id = before_high q r f (sym qr) in
    or_right _ _ (both_true _ _ (let h : p.key ≡ r.key = sym same in rw h (eq_self r.key)) (lt_true p.id r.id (omega arith))))
    (λ lt. let a = before_low p q e in let b = before_low q r f in absurd (omega arith))

pub in_range : (p : Pair) → is_in_range p ≡ true → (p.key < 2 ^ 48) × (p.id < 2 ^ 63)
in_range p e = (lt_from p.key (2 ^ 48) (and_left _ _ e), lt_from p.id (2 ^ 63) (and_right _ _ e))

follow-with : (p q : Pair) (gs : List Group) → is_before p q ≡ true → AllByRecursion (Follows p) gs
    → AllByRecursion (Follows p) (with_pair q gs)
follow-with p q [] e all = (record { key_low = before_low p q e; ids_high = λ f. (before_high p q e f, tt) }, tt)
follow-with p q (g ∷ gs) e all = one (g.key == q.key) refl
  where
    one : (b : Bool) → (g.key == q.key) ≡ b → AllByRecursion (Follows p)
        (cond b (record { key = q.key; ids = q.id ∷ g.ids } ∷ gs) (record { key = q.key; ids = q.id ∷ [] } ∷ g ∷ gs))
    one true f = (
      record {
        key_low = before_low p q e;
        ids_high =
            λ h. (before_high p q e h, all.0.ids_high (eq_from g.key q.key f ∙ h));
      },
      all.1,
    )
    one false f = (record { key_low = before_low p q e; ids_high = λ h. (before_high p q e h, tt) }, all)

follow : (p : Pair) (ps : List Pair) → AllByRecursion (λ q. is_before p q ≡ true) ps → AllByRecursion (Follows p) (grouped ps)
follow p [] all = tt
follow p (q ∷ qs) all = follow-with p q (grouped qs) all.0 (follow p qs all.1)

pub record IsRun (g : Group) : Type 0 where
  pub key_fits : g.key < 2 ^ 48
  pub up : Up g.ids
  pub ids_fit : AllByRecursion (λ id. id < 2 ^ 63) g.ids

lower : (key bound : ℕ) (gs : List Group) → AllByRecursion (λ (group : Group). group.key < bound) gs → bound < key
    → AllByRecursion (λ (group : Group). group.key < key) gs
lower key bound [] all lt = tt
lower key bound (g ∷ gs) all lt = (omega (arith, all.0), lower key bound gs all.1 lt)

runs-with : (p : Pair) (gs : List Group) → (p.key < 2 ^ 48) × (p.id < 2 ^ 63) → AllByRecursion (Follows p) gs
    → Descends gs × AllByRecursion IsRun gs
    → Descends (with_pair p gs) × AllByRecursion IsRun (with_pair p gs)
runs-with p [] fits all good = ((tt, tt), (record { key_fits = fits.0; up = (tt, tt); ids_fit = (fits.1, tt) }, tt))
runs-with p (g ∷ gs) fits all good = one (g.key == p.key) refl
  where
    one : (b : Bool) → (g.key == p.key) ≡ b
        → Descends (cond b (record { key = p.key; ids = p.id ∷ g.ids } ∷ gs) (record { key = p.key; ids = p.id ∷ [] } ∷ g ∷ gs))
        × AllByRecursion IsRun (cond b (record { key = p.key; ids = p.id ∷ g.ids } ∷ gs)
        (record { key = p.key; ids = p.id ∷ [] } ∷ g ∷ gs))
    one true f =
        let same : g.key ≡ p.key = eq_from g.key p.key f in (
          (subst (λ (n : ℕ). AllByRecursion (λ (later : Group). later.key < n) gs) same good.0.0, good.0.1),
          (record { key_fits = fits.0; up = (all.0.ids_high same, good.1.0.up); ids_fit = (fits.1, good.1.0.ids_fit) }, good.1.1),
        )
    one false f =
        let low : g.key < p.key = grind (arith, nat_tests, all.0.key_low) in (
          ((low, lower p.key g.key gs good.0.0 low), good.0),
          (record { key_fits = fits.0; up = (tt, tt); ids_fit = (fits.1, tt) }, good.1),
        )

runs : (ps : List Pair) → IsPaged ps → Descends (grouped ps) × AllByRecursion IsRun (grouped ps)
runs [] are = (tt, tt)
runs (p ∷ ps) are = runs-with p (grouped ps) are.0 (follow p ps are.1.0) (runs ps are.1.1)

as_groups : (gs : List Group) → AllByRecursion IsRun gs → AllByRecursion (IsGroup every) gs
as_groups [] all = tt
as_groups (g ∷ gs) all = (
  record {
    ordered = record { key_fits = all.0.key_fits; ascending = Up-to g.ids all.0.up; ids_fit = to_all _ g.ids all.0.ids_fit };
    allowed = λ k d lt. refl;
  },
  as_groups gs all.1,
)

pub before_all : (p q : Pair) (ps : List Pair) → is_before p q ≡ true → AllByRecursion (λ r. is_before q r ≡ true) ps
    → AllByRecursion (λ r. is_before p r ≡ true) ps
before_all p q [] e all = tt
before_all p q (r ∷ rs) e all = (before_trans p q r e all.0, before_all p q rs e all.1)

-- pairs of which each stands in front of the next
pub paged : (ps : List Pair) → list_all is_in_range ps ≡ true → are_in_order ps ≡ true → IsPaged ps
paged [] fit order = tt
paged (p ∷ []) fit order = (in_range p (and_left _ _ fit), (tt, tt))
paged (p ∷ q ∷ ps) fit order =
    let rest = paged (q ∷ ps) (and_right _ _ fit) (and_right _ _ order) in
    let here = and_left _ _ order in
    (in_range p (and_left _ _ fit), ((here, before_all p q ps here rest.1.0), rest))

pub grouped-lawful : (n : ℕ) (ps : List Pair) → list_all is_in_range ps ≡ true → are_in_order ps ≡ true
    → AreGroups every (first_key (grouped (drop n ps))) (grouped (drop n ps))
grouped-lawful n ps fit order =
    let good = runs (drop n ps) (IsPaged-drop n ps (paged ps fit order)) in
    record { begin = refl; descend = good.0; each = as_groups (grouped (drop n ps)) good.1 }
