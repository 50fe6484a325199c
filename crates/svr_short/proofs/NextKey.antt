-- The greatest key with an Add, as the last place of Adds between two others has it.
use Rattle.std.proofs.Common.{◌≡◌, ℕ, ◌<◌, ◌≤◌, ◌^◌, ◌==◌, ◌&&◌, ◌||◌, Bool, true, false, cond, IsTrue, List, [], ◌∷◌, filter, map}
use Rattle.std.proofs.Common.{nat_lt, Option, Some, None, option_map, refl, sym, ap, subst, ◌∙◌, arith}
use Rattle.std.specs.BTreeMap.Range.{IsInRange}
use Rattle.std.specs.BTreeSet.{BTreeSet, IsKeyRangeOf, contains}
use Rattle.std.specs.Map.Iter.{TakesLast}
use Rattle.std.specs.Option.{IsSome}
use Rattle.std.specs.Ordering.{is_gt, is_lt, nat_cmp}
use Rattle.std.specs.declared.ops.Bound.{Bound}
use Rattle.std.specs.declared.ops.Bound.TheVariants.{Excluded, Included}
use Rattle.std.specs.declared.cmp.Ordering.TheVariants.{Less, Equal, Greater}
use Rattle.svr_listing.specs.Joined.{is_in}
use Rattle.svr_iter.specs.KeyLaws.{AllLess, AreDescending, descending-down}
use Rattle.svr_iter.specs.Marks as iter
use Rattle.svr_iter.specs.Marks.{MarksAt, is_below, mark_of, next_add}
use Rattle.svr_iter.specs.Truths.{and_left, and_right, both_true, eq_from, lt_from, lt_true}
use Rattle.svr_iter.specs.declared.marks.Mark.{Mark}
use Rattle.svr_iter.specs.declared.marks.Mark.TheVariants as mark
use Rattle.svr_iter.proofs.Effecting.{add_there, some_add}
use Rattle.svr_short.specs.Laws.{are_under}
use Rattle.svr_short.specs.Layout.{AreMarked, has_add}
use Rattle.svr_short.specs.Short.{keys_under, mark_at, marks_under, place_cmp, under_number}
use Rattle.svr_short.specs.declared.place.Holding.{Holding}
use Rattle.svr_short.specs.declared.place.Place.{Place}
use Rattle.svr_short.proofs.Keeping.{by_bool}
use Rattle.svr_short.proofs.Marking.{Entry, in_keys_under, is_key, mark_of-marks_under, none_under, under}
use Rattle.svr_short.proofs.Places.{by_cmp, in_term, key_less, le_place, le_term, of_term, place_at}
use Rattle.svr_short.proofs.Terms.{is_add, some_mark}

-- a key is below the bound and has an Add under the number
abbrev wanted : ℕ → Option ℕ → List Entry → ℕ → Bool
wanted n below es key = is_below key below && iter.has_add (marks_under n key es)

next-none : (n : ℕ) (below : Option ℕ) (es : List Entry) (ks : List ℕ) → ((k : ℕ) → wanted n below es k ≡ false)
    → next_add below (map {B = MarksAt} (under n es) ks) ≡ None
next-none n below es [] none = refl
next-none n below es (k ∷ ks) none =
    ap (λ (b : Bool). cond b (Some k) (next_add below (map {B = MarksAt} (under n es) ks))) (none k) ∙ next-none n below es ks none

in_less : (key k : ℕ) (ks : List ℕ) → AllLess k ks → is_in key ks ≡ true → key < k
in_less key k [] all e = absurd (cc)
in_less key k (x ∷ ks) all e = one (x == key) refl e (in_less key k ks all.1)
  where
    one : (b : Bool) → (x == key) ≡ b → (b || is_in key ks) ≡ true → (is_in key ks ≡ true → key < k) → key < k
    one true f g rest = subst (λ (y : ℕ). y < k) (eq_from x key f) all.0
    one false f g rest = rest g

next-some : (n : ℕ) (below : Option ℕ) (es : List Entry) (ks : List ℕ) (key : ℕ) → AreDescending ks → is_in key ks ≡ true
    → wanted n below es key ≡ true → ((k : ℕ) → key < k → wanted n below es k ≡ false)
    → next_add below (map {B = MarksAt} (under n es) ks) ≡ Some key
next-some n below es [] key down e is most = absurd (cc)
next-some n below es (k ∷ ks) key down e is most = one (k == key) refl e (λ f. next-some n below es ks key down.1 f is most)
  where
    rest : Option ℕ
    rest = next_add below (map {B = MarksAt} (under n es) ks)

    one : (b : Bool) → (k == key) ≡ b → (b || is_in key ks) ≡ true → (is_in key ks ≡ true → rest ≡ Some key)
        → cond (wanted n below es k) (Some k) rest ≡ Some key
    one true f g later = let same : k ≡ key = eq_from k key f in
        ap (λ (b : Bool). cond b (Some k) rest) (ap (wanted n below es) same ∙ is) ∙ ap Some same
    one false f g later = ap (λ (b : Bool). cond b (Some k) rest) (most k (in_less key k ks down.0 g)) ∙ later g

-- ---- the places between which the Adds below a key stand

pub record IsBelow (n : ℕ) (below : Option ℕ) (low high : Bound Place) : Type 0 where
  pub within : (q : Place) → q.term ≡ n → q.key < 2 ^ 48 → q.id < 2 ^ 63 → is_below q.key below ≡ true → IsInRange place_cmp low high q
  pub term : (q : Place) → IsInRange place_cmp low high q → q.term ≡ n
  pub key : (q : Place) → IsInRange place_cmp low high q → is_below q.key below ≡ true

pub below-none : (n top : ℕ) → 2 ^ 63 ≤ top → IsBelow n None (Included (place_at n 0 0)) (Included (place_at n top top))
below-none n top le = record {
  within = λ q term key id is. in_term n top q term key id le;
  term = λ q range. of_term n 0 0 top top q range;
  key = λ q range. refl;
}

less_term : (p q : Place) → place_cmp p q ≡ Less → p.term ≤ q.term
less_term p q e = le_term p q (ap is_gt e)

less_key : (p : Place) (n b : ℕ) → p.term ≡ n → place_cmp p (place_at n b 0) ≡ Less → p.key < b
less_key p n b term e = by_cmp p.term n (p.key < b) (λ lt f. absurd (omega arith))
    (λ s f. by_cmp p.key b (p.key < b) (λ lt g. lt)
    (λ t g. by_cmp p.id 0 (p.key < b) (λ lt h. absurd (omega arith)) (λ u h. absurd (equal f g h)) (λ lt h. absurd (greater f g h)))
    (λ lt g. absurd (beyond f g)))
    (λ lt f. absurd (omega arith))
  where
    equal : nat_cmp p.term n ≡ Equal → nat_cmp p.key b ≡ Equal → nat_cmp p.id 0 ≡ Equal → ⊥
    equal f g h = let other : place_cmp p (place_at n b 0) ≡ Equal = rw (f, g, h) refl in absurd (cc)

    greater : nat_cmp p.term n ≡ Equal → nat_cmp p.key b ≡ Equal → nat_cmp p.id 0 ≡ Greater → ⊥
    greater f g h = let other : place_cmp p (place_at n b 0) ≡ Greater = rw (f, g, h) refl in absurd (cc)

    beyond : nat_cmp p.term n ≡ Equal → nat_cmp p.key b ≡ Greater → ⊥
    beyond f g = let other : place_cmp p (place_at n b 0) ≡ Greater = rw (f, g) refl in absurd (cc)

pub below-some : (n b : ℕ) → IsBelow n (Some b) (Included (place_at n 0 0)) (Excluded (place_at n b 0))
below-some n b = record {
  within = λ q term key id is. (
    le_place (place_at n 0 0) q (sym term) (omega arith) (λ e. omega arith),
    key_less q (place_at n b 0) term (lt_from q.key b is),
  );
  term = λ q range. same q range;
  key = λ q range. lt_true q.key b (less_key q n b (same q range) range.1);
}
  where
    same : (q : Place) → IsInRange place_cmp (Included (place_at n 0 0)) (Excluded (place_at n b 0)) q → q.term ≡ n
    same q range =
        let low = le_term (place_at n 0 0) q range.0 in
        let high = less_term q (place_at n b 0) range.1 in
        omega (arith, low, high)

-- ---- keys with an Add, and places of Adds

-- a place of an Add gives its key an Add
to_wanted : (n : ℕ) (below : Option ℕ) (es : List Entry) (p : Place) → p.term ≡ n → p.id < 2 ^ 63 → is_below p.key below ≡ true
    → has_add (mark_at es p) ≡ true → wanted n below es p.key ≡ true
to_wanted n below es p term fit is add = both_true (is_below p.key below) (iter.has_add (marks_under n p.key es)) is
    (add_there p.id (marks_under n p.key es) (mark_of-marks_under n p.key p.id es
    ∙ ap (λ (b : Bool). cond b (mark_at es (place_at n p.key p.id)) None) (lt_true p.id (2 ^ 63) fit)
    ∙ ap (λ (x : ℕ). mark_at es (place_at x p.key p.id)) (sym term) ∙ is_add (mark_at es p) add))

-- a key with an Add has a place of one
pub record AddAt (n : ℕ) (es : List Entry) (key : ℕ) : Type 0 where
  pub id : ℕ
  pub there : has_add (mark_at es (place_at n key id)) ≡ true

from_wanted : (n key : ℕ) (es : List Entry) → iter.has_add (marks_under n key es) ≡ true → AddAt n es key
from_wanted n key es e =
    let some = some_add (marks_under n key es) (are_under n key es).0 e in
    record {
      id = some.0;
      there = either (nat_lt some.0 (2 ^ 63)) (mark_at es (place_at n key some.0))
          (sym (mark_of-marks_under n key some.0 es) ∙ some.1);
    }
  where
    either : (b : Bool) (o : Option Mark) → cond b o None ≡ Some mark.Add → has_add o ≡ true
    either true o f = ap has_add f
    either false o f = absurd (cc)

-- no key is wanted that no place between the bounds stands for
not_wanted : (count n : ℕ) (below : Option ℕ) (low high : Bound Place) (es : List Entry) (adds : BTreeSet Place) (held : Holding → Option ℕ)
    (k : ℕ) → AreMarked count (mark_at es) (contains place_cmp adds) held → IsBelow n below low high
    → ((q : Place) → q.key ≡ k → IsInRange place_cmp low high q → contains place_cmp adds q ≡ true → ⊥) → wanted n below es k ≡ false
not_wanted count n below low high es adds held k are bounds none =
    by_bool (wanted n below es k ≡ false) (wanted n below es k) (λ e. absurd (there e)) (λ e. e)
  where
    there : wanted n below es k ≡ true → ⊥
    there e =
        let add = from_wanted n k es (and_right (is_below k below) (iter.has_add (marks_under n k es)) e) in
        let some = some_mark (mark_at es (place_at n k add.id)) add.there in
        none (place_at n k add.id) refl (bounds.within (place_at n k add.id) refl (are.key_fits (place_at n k add.id) some)
        (are.id_fits (place_at n k add.id) some) (and_left (is_below k below) (iter.has_add (marks_under n k es)) e))
        (are.is_added (place_at n k add.id) ∙ add.there)

pub last_key : {A : Type 0} (shows : A → Place) (count n : ℕ) (below : Option ℕ) (low high : Bound Place) (es : List Entry)
    (adds : BTreeSet Place) (held : Holding → Option ℕ) (r : List Place) (o : Option A) (t : List Place)
    → AreMarked count (mark_at es) (contains place_cmp adds) held → IsBelow n below low high → IsKeyRangeOf place_cmp low high adds r
    → TakesLast shows r o t → option_map (λ x. (shows x).key) o ≡ next_add below (under_number es (Some n))
last_key shows count n below low high es adds held r None t are bounds range step =
    sym (next-none n below es (keys_under n es) (λ k. not_wanted count n below low high es adds held k are bounds
    (λ q same inside e. let f = range.5 step.0 q inside in absurd (cc))))
last_key shows count n below low high es adds held r (Some x) t are bounds range step =
    sym (next-some n below es (keys_under n es) (shows x).key
    (descending-down (map (λ (e : Entry). e.0.key) (filter (is_key n) es))) there is most)
  where
    inside : IsInRange place_cmp low high (shows x) × IsTrue (contains place_cmp adds (shows x))
    inside = range.3 (shows x) t step

    add : has_add (mark_at es (shows x)) ≡ true
    add = sym (are.is_added (shows x)) ∙ inside.1

    some : IsSome (mark_at es (shows x))
    some = some_mark (mark_at es (shows x)) add

    is : wanted n below es (shows x).key ≡ true
    is = to_wanted n below es (shows x) (bounds.term (shows x) inside.0) (are.id_fits (shows x) some) (bounds.key (shows x) inside.0) add

    there : is_in (shows x).key (keys_under n es) ≡ true
    there = in_keys_under n (shows x).key es ∙ by_bool (is_in (shows x).key (map (λ (e : Entry). e.0.key) (filter (is_key n) es)) ≡ true)
        (is_in (shows x).key (map (λ (e : Entry). e.0.key) (filter (is_key n) es))) (λ e. e)
        (λ e. let empty = none_under n (shows x).key es (lt_true (shows x).key (2 ^ 48) (are.key_fits (shows x) some)) e in
        let has = and_right (is_below (shows x).key below) (iter.has_add (marks_under n (shows x).key es)) is in
        let lacks : iter.has_add (marks_under n (shows x).key es) ≡ false = ap iter.has_add empty in absurd (cc))

    most : (k : ℕ) → (shows x).key < k → wanted n below es k ≡ false
    most k lt = not_wanted count n below low high es adds held k are bounds (λ q same within e.
        let not_less = range.4 (shows x) t step q within e in
        let less : is_lt (place_cmp (shows x) q) ≡ true = ap is_lt (key_less (shows x) q
        (bounds.term (shows x) inside.0 ∙ sym (bounds.term q within)) (subst (λ (j : ℕ). (shows x).key < j) (sym same) lt)) in absurd (cc))
