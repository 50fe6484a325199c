-- Places in their order, and those between two of them.
use Rattle.std.proofs.Common.{◌≡◌, ℕ, ◌<◌, ◌≤◌, ◌^◌, ◌==◌, ◌&&◌, true, false, nat_lt, List, Option, Some, None, refl, sym, ap, subst}
use Rattle.std.proofs.Common.{◌∙◌, arith}
use Rattle.std.specs.BTreeMap.Range.{IsInRange}
use Rattle.std.specs.Cmp.{nat_cmp_is}
use Rattle.std.specs.Ordering.{is_gt, nat_cmp, ordering_then}
use Rattle.std.specs.declared.ops.Bound.TheVariants.{Included}
use Rattle.std.specs.declared.cmp.Ordering.{Ordering}
use Rattle.std.specs.declared.cmp.Ordering.TheVariants.{Less, Equal, Greater}
use Rattle.std.specs.BTreeSet.{BTreeSet, IsKeyInRange, IsKeyRangeOf, contains}
use Rattle.std.specs.List.{slice_get}
use Rattle.std.specs.Map.Iter.{TakesFirst}
use Rattle.std.specs.Option.{IfSome, IsSome, is_some}
use Rattle.svr_iter.specs.declared.marks.Mark.{Mark}
use Rattle.svr_short.specs.Layout.{AreMarked, any_add, has_add}
use Rattle.svr_short.specs.declared.place.Holding.{Holding}
use Rattle.svr_short.proofs.Adding.{any_add-none, any_add-there}
use Rattle.svr_iter.specs.Truths.{and_left, and_right, both_true, by_order, eq_from, eq_true}
use Rattle.svr_short.specs.Short.{is_under, mark_at, place_cmp}
use Rattle.svr_short.specs.declared.place.Place.{Place}

-- how two numbers compare
pub by_cmp : (a b : ℕ) (C : Type 0) → (a < b → nat_cmp a b ≡ Less → C) → (a ≡ b → nat_cmp a b ≡ Equal → C)
    → (b < a → nat_cmp a b ≡ Greater → C) → C
by_cmp a b C less same more = by_order a b C (λ lt. less lt (sym (nat_cmp_is a b Less lt)))
    (λ e. same e (sym (nat_cmp_is a b Equal e))) (λ lt. more lt (sym (nat_cmp_is a b Greater lt)))

cmp_same : (a b : ℕ) → a ≡ b → nat_cmp a b ≡ Equal
cmp_same a b e = sym (nat_cmp_is a b Equal e)

abbrev pub place_at : ℕ → ℕ → ℕ → Place
place_at term key id = record { term = term; key = key; id = id }

-- a smaller key of the same term comes first
pub key_less : (p q : Place) → p.term ≡ q.term → p.key < q.key → place_cmp p q ≡ Less
key_less p q term lt = rw (cmp_same p.term q.term term, sym (nat_cmp_is p.key q.key Less lt)) refl

le_by_id : (p q : Place) → p.term ≡ q.term → p.key ≡ q.key → p.id ≤ q.id → is_gt (place_cmp p q) ≡ false
le_by_id p q term key le = rw (cmp_same p.term q.term term, cmp_same p.key q.key key) (by_cmp p.id q.id (is_gt (nat_cmp p.id q.id) ≡ false)
    (λ lt e. rw e refl) (λ s e. rw e refl) (λ lt e. absurd (omega arith)))

pub le_place : (p q : Place) → p.term ≡ q.term → p.key ≤ q.key → (p.key ≡ q.key → p.id ≤ q.id) → is_gt (place_cmp p q) ≡ false
le_place p q term key id = by_cmp p.key q.key _ (λ lt e. ap is_gt (key_less p q term lt)) (λ s e. le_by_id p q term s (id s))
    (λ lt e. absurd (omega arith))

-- what is not behind another has no greater term
pub le_term : (p q : Place) → is_gt (place_cmp p q) ≡ false → p.term ≤ q.term
le_term p q e = by_cmp p.term q.term (p.term ≤ q.term) (λ lt f. omega arith) (λ s f. omega arith)
    (λ lt f. absurd (back (nat_cmp p.term q.term) (ordering_then (nat_cmp p.key q.key) (nat_cmp p.id q.id)) f e))
  where
    back : (a b : Ordering) → a ≡ Greater → is_gt (ordering_then a b) ≡ false → ⊥
    back Less b f e = absurd (cc)
    back Equal b f e = absurd (cc)
    back Greater b f e = absurd (cc)

-- what it is to stand under a number at a key
pub record IsUnder (n key : ℕ) (p : Place) : Type 0 where
  pub term : p.term ≡ n
  pub key_is : p.key ≡ key
  pub fits : nat_lt p.id (2 ^ 63) ≡ true

pub under_from : (n key : ℕ) (p : Place) → is_under n key p ≡ true → IsUnder n key p
under_from n key p e =
    let rest = and_right (p.term == n) ((p.key == key) && nat_lt p.id (2 ^ 63)) e in
    record {
      term = eq_from p.term n (and_left (p.term == n) ((p.key == key) && nat_lt p.id (2 ^ 63)) e);
      key_is = eq_from p.key key (and_left (p.key == key) (nat_lt p.id (2 ^ 63)) rest);
      fits = and_right (p.key == key) (nat_lt p.id (2 ^ 63)) rest;
    }

pub under_to : (n key : ℕ) (p : Place) → IsUnder n key p → is_under n key p ≡ true
under_to n key p is = both_true (p.term == n) ((p.key == key) && nat_lt p.id (2 ^ 63)) (eq_true p.term n is.term)
    (both_true (p.key == key) (nat_lt p.id (2 ^ 63)) (eq_true p.key key is.key_is) is.fits)

pub under_place : (n key : ℕ) (p : Place) → IsUnder n key p → p ≡ place_at n key p.id
under_place n key p is = ap (λ (x : ℕ). place_at x p.key p.id) is.term ∙ ap (λ (x : ℕ). place_at n x p.id) is.key_is

-- ---- between two places

-- the places under a number
pub in_term : (n top : ℕ) (p : Place) → p.term ≡ n → p.key < 2 ^ 48 → p.id < 2 ^ 63 → 2 ^ 63 ≤ top
    → IsInRange place_cmp (Included (place_at n 0 0)) (Included (place_at n top top)) p
in_term n top p term key id le = (
  le_place (place_at n 0 0) p (sym term) (omega arith) (λ e. omega arith),
  le_place p (place_at n top top) term (omega arith) (λ e. omega arith),
)

pub of_term : (n k i l j : ℕ) (p : Place) → IsInRange place_cmp (Included (place_at n k i)) (Included (place_at n l j)) p → p.term ≡ n
of_term n k i l j p range =
    let low = le_term (place_at n k i) p range.0 in
    let high = le_term p (place_at n l j) range.1 in
    omega (arith, low, high)

-- ---- the places of Adds between two others

-- a place under the number that has a mark, where those of Adds were asked for
no_add : (count n top : ℕ) (marks : List (Place × Mark)) (adds : BTreeSet Place) (held : Holding → Option ℕ) (p : Place)
    → AreMarked count (mark_at marks) (contains place_cmp adds) held → 2 ^ 63 ≤ top
    → ((q : Place) → IsInRange place_cmp (Included (place_at n 0 0)) (Included (place_at n top top)) q → contains place_cmp adds q ≡ false)
    → p.term ≡ n → has_add (mark_at marks p) ≡ false
no_add count n top marks adds held p are le none term = by_option (mark_at marks p) refl
  where
    by_option : (o : Option Mark) → mark_at marks p ≡ o → has_add o ≡ false
    by_option None e = refl
    by_option (Some mark) e = let some : IsSome (mark_at marks p) = subst (λ (o : Option Mark). IsSome o) (sym e) refl in
        ap has_add (sym e) ∙ sym (are.is_added p) ∙ none p (in_term n top p term (are.key_fits p some) (are.id_fits p some) le)

pub has_add-first : {A : Type 0} (shows : A → Place) (count n top : ℕ) (marks : List (Place × Mark)) (adds : BTreeSet Place)
    (held : Holding → Option ℕ) (r : List Place) (o : Option A) (t : List Place)
    → AreMarked count (mark_at marks) (contains place_cmp adds) held → 2 ^ 63 ≤ top
    → IsKeyRangeOf place_cmp (Included (place_at n 0 0)) (Included (place_at n top top)) adds r → TakesFirst shows r o t
    → is_some o ≡ any_add marks n
has_add-first shows count n top marks adds held r None t are le range step =
    sym (any_add-none marks n (λ p term. no_add count n top marks adds held p are le (range.5 step.0) term))
has_add-first shows count n top marks adds held r (Some x) t are le range step =
    let first : IsKeyInRange place_cmp (Included (place_at n 0 0)) (Included (place_at n top top)) adds (shows x) =
    subst (λ (ps : List Place). IfSome (slice_get ps 0) (IsKeyInRange place_cmp (Included (place_at n 0 0))
    (Included (place_at n top top)) adds)) step range.1 in
    sym (any_add-there marks (shows x) n (of_term n 0 0 top top (shows x) first.0) (sym (are.is_added (shows x)) ∙ first.1))

-- what lies between two places that are known by their equations
pub between : (adds : BTreeSet Place) (r : List Place) (start low end high : Place) → start ≡ low → end ≡ high
    → IsKeyRangeOf place_cmp (Included start) (Included end) adds r → IsKeyRangeOf place_cmp (Included low) (Included high) adds r
between adds r start low end high s e range =
    subst (λ (a : Place). IsKeyRangeOf place_cmp (Included a) (Included high) adds r) s
    (subst (λ (b : Place). IsKeyRangeOf place_cmp (Included start) (Included b) adds r) e range)
