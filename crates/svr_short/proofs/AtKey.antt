-- The marks at a key, as a range of the entries has them.
use Rattle.std.proofs.Common.{◌≡◌, ℕ, ◌<◌, ◌≤◌, ◌^◌, Bool, true, false, cond, List, [], ◌∷◌, ◌++◌, append-nil, map, filter}
use Rattle.std.proofs.Common.{nat_lt, Option, Some, refl, sym, ap, subst, ◌∙◌, arith}
use Rattle.std.specs.BTreeMap.{is_at}
use Rattle.std.specs.BTreeMap.Range.{entries_between, range_contains}
use Rattle.std.specs.List.{AllByRecursion}
use Rattle.std.specs.List.Sorted.{IsStrictlySortedBy}
use Rattle.std.specs.Map.{keys_of}
use Rattle.std.specs.Option.{IsSome}
use Rattle.std.specs.Ordering.{is_le, is_lt, nat_cmp}
use Rattle.std.specs.declared.ops.Bound.TheVariants.{Included}
use Rattle.std.specs.declared.cmp.Ordering.TheVariants.{Less, Equal, Greater}
use Rattle.svr_iter.specs.Marks.{ids_of, marks_at}
use Rattle.svr_iter.specs.Merging.{Above, all-with_id}
use Rattle.svr_iter.specs.Truths.{eq_less, eq_more, eq_true, lt_true}
use Rattle.svr_iter.specs.declared.marks.Mark.{Mark}
use Rattle.svr_iter.specs.declared.marks.Marked.{Marked}
use Rattle.svr_short.specs.Laws.{ids-with_mark}
use Rattle.svr_short.specs.Short.{is_under, mark_at, marks_under, place_cmp, under_number, with_mark}
use Rattle.svr_short.specs.declared.place.Place.{Place}
use Rattle.svr_short.proofs.Keeping.{at_self}
use Rattle.svr_short.proofs.Marking.{Entry, marked, marks_at-under}
use Rattle.svr_short.proofs.Places.{by_cmp, place_at, under_from, under_place}

-- what holds of each place with a mark holds of each entry's
pub all_places : (P : Place → Type 0) (es : List Entry) → ((p : Place) → IsSome (mark_at es p) → P p) → AllByRecursion P (keys_of es)
all_places P [] holds = tt
all_places P (e ∷ es) holds = (
  holds e.0 (subst (λ (b : Bool). IsSome (cond b (Some e.1) (mark_at es e.0))) (sym (at_self e.0)) refl),
  all_places P es (λ p some. holds p (either (is_at (place_cmp p) e.0) (mark_at es p) some)),
)
  where
    either : (b : Bool) (o : Option Mark) → IsSome o → IsSome (cond b (Some e.1) o)
    either true o some = refl
    either false o some = some

abbrev pub passes : ℕ → ℕ → ℕ → Place → Bool
passes n key top p = range_contains place_cmp (Included (place_at n key 0)) (Included (place_at n key top)) p

-- a range from the least to the greatest id has the places under the number at the key
passes-under : (n key top : ℕ) (p : Place) → p.id < 2 ^ 63 → 2 ^ 63 ≤ top → passes n key top p ≡ is_under n key p
passes-under n key top p fit le =
    by_cmp n p.term (passes n key top p ≡ is_under n key p) (λ lt e. outside p.term lt e) (λ same e. within same e)
    (λ lt e. below lt e)
  where
    low : is_le (nat_cmp 0 p.id) ≡ true
    low = by_cmp 0 p.id (is_le (nat_cmp 0 p.id) ≡ true) (λ lt e. ap is_le e) (λ s e. ap is_le e) (λ lt e. absurd (omega arith))

    high : is_lt (nat_cmp top p.id) ≡ false
    high = by_cmp top p.id (is_lt (nat_cmp top p.id) ≡ false) (λ lt e. absurd (omega arith)) (λ s e. ap is_lt e) (λ lt e. ap is_lt e)

    outside : (t : ℕ) → n < p.term → nat_cmp n p.term ≡ Less → passes n key top p ≡ is_under n key p
    outside t lt e = rw (e, eq_more n p.term lt) refl

    below : p.term < n → nat_cmp n p.term ≡ Greater → passes n key top p ≡ is_under n key p
    below lt e = rw (e, eq_less p.term n lt) refl

    within : n ≡ p.term → nat_cmp n p.term ≡ Equal → passes n key top p ≡ is_under n key p
    within same e = by_cmp key p.key (passes n key top p ≡ is_under n key p)
        (λ lt f. rw (e, f, eq_true p.term n (sym same), eq_more key p.key lt) refl)
        (λ s f. rw (e, f, eq_true p.term n (sym same), eq_true p.key key (sym s), low, high, lt_true p.id (2 ^ 63) fit) refl)
        (λ lt f. rw (e, f, eq_true p.term n (sym same), eq_less p.key key lt) refl)

-- ids behind one in the places' order are above it
above_less : (n key id : ℕ) (p : Place) → is_under n key p ≡ true → place_cmp (place_at n key id) p ≡ Less → id < p.id
above_less n key id p under less =
    let term : p.term ≡ n = (under_from n key p under).term in
    let key_is : p.key ≡ key = (under_from n key p under).key_is in
    by_cmp n p.term (id < p.id) (λ lt e. absurd (omega arith)) (λ s e. by_cmp key p.key (id < p.id) (λ lt f. absurd (omega arith))
    (λ t f. by_cmp id p.id (id < p.id) (λ lt g. lt) (λ u g. absurd (no e f g less)) (λ lt g. absurd (not_less e f g less)))
    (λ lt f. absurd (omega arith))) (λ lt e. absurd (omega arith))
  where
    no : nat_cmp n p.term ≡ Equal → nat_cmp key p.key ≡ Equal → nat_cmp id p.id ≡ Equal → place_cmp (place_at n key id) p ≡ Less → ⊥
    no e f g less = let same : place_cmp (place_at n key id) p ≡ Equal = rw (e, f, g) refl in absurd (cc)

    not_less : nat_cmp n p.term ≡ Equal → nat_cmp key p.key ≡ Equal → nat_cmp id p.id ≡ Greater
        → place_cmp (place_at n key id) p ≡ Less → ⊥
    not_less e f g less = let same : place_cmp (place_at n key id) p ≡ Greater = rw (e, f, g) refl in absurd (cc)

all_above : (n key id : ℕ) (es : List Entry) → AllByRecursion (λ p. place_cmp (place_at n key id) p ≡ Less) (keys_of es)
    → Above id (ids_of (marks_under n key es))
all_above n key id [] all = tt
all_above n key id (e ∷ es) all = one (is_under n key e.0) refl (all_above n key id es all.1)
  where
    one : (b : Bool) → is_under n key e.0 ≡ b → Above id (ids_of (marks_under n key es))
        → Above id (ids_of (cond b (with_mark (marked e) (marks_under n key es)) (marks_under n key es)))
    one true is rest = rw (ids-with_mark (marked e) (marks_under n key es))
        (all-with_id (λ x. id < x) e.0.id (ids_of (marks_under n key es)) (above_less n key id e.0 is all.0) rest)
    one false is rest = rest

with_mark-first : (m : Marked) (ms : List Marked) → Above m.id (ids_of ms) → with_mark m ms ≡ m ∷ ms
with_mark-first m [] above = refl
with_mark-first m (x ∷ ms) above = rw (lt_true m.id x.id above.0) refl

pub range-under : (n key top : ℕ) (es : List Entry) → IsStrictlySortedBy place_cmp (keys_of es)
    → AllByRecursion (λ p. p.id < 2 ^ 63) (keys_of es) → 2 ^ 63 ≤ top
    → map marked (filter (λ (e : Entry). passes n key top e.0) es) ≡ marks_under n key es
unfolding IsStrictlySortedBy
range-under n key top [] sorted fit le = refl
range-under n key top (e ∷ es) sorted fit le =
    ap (λ (b : Bool). map marked (cond b (e ∷ filter (λ (x : Entry). passes n key top x.0) es)
    (filter (λ (x : Entry). passes n key top x.0) es))) (passes-under n key top e.0 fit.0 le)
    ∙ one (is_under n key e.0) refl (range-under n key top es sorted.1 fit.1 le)
  where
    one : (b : Bool) → is_under n key e.0 ≡ b → map marked (filter (λ (x : Entry). passes n key top x.0) es) ≡ marks_under n key es
        → map marked (cond b (e ∷ filter (λ (x : Entry). passes n key top x.0) es) (filter (λ (x : Entry). passes n key top x.0) es))
        ≡ cond b (with_mark (marked e) (marks_under n key es)) (marks_under n key es)
    one true is rest =
        let here : e.0 ≡ place_at n key e.0.id = under_place n key e.0 (under_from n key e.0 is) in
        ap (λ (ms : List Marked). marked e ∷ ms) rest ∙ sym (with_mark-first (marked e) (marks_under n key es)
        (all_above n key e.0.id es (subst (λ (q : Place). AllByRecursion (λ p. place_cmp q p ≡ Less) (keys_of es)) here sorted.0)))
    one false is rest = rest

-- no marks stand at a key beyond the range of keys
none_beyond : (n key : ℕ) (es : List Entry) → AllByRecursion (λ p. p.key < 2 ^ 48) (keys_of es) → nat_lt key (2 ^ 48) ≡ false
    → marks_under n key es ≡ []
none_beyond n key [] fit beyond = refl
none_beyond n key (e ∷ es) fit beyond = one (is_under n key e.0) refl (none_beyond n key es fit.1 beyond)
  where
    one : (b : Bool) → is_under n key e.0 ≡ b → marks_under n key es ≡ []
        → cond b (with_mark (marked e) (marks_under n key es)) (marks_under n key es) ≡ []
    one true is rest =
        let low : nat_lt key (2 ^ 48) ≡ true =
        lt_true key (2 ^ 48) (subst (λ (x : ℕ). x < 2 ^ 48) (under_from n key e.0 is).key_is fit.0) in
        absurd (cc)
    one false is rest = rest

pub at_key : (n key top : ℕ) (es : List Entry) → IsStrictlySortedBy place_cmp (keys_of es)
    → ((p : Place) → IsSome (mark_at es p) → p.key < 2 ^ 48) → ((p : Place) → IsSome (mark_at es p) → p.id < 2 ^ 63) → 2 ^ 63 ≤ top
    → map marked (filter (λ (e : Entry). passes n key top e.0) es) ≡ marks_at key (under_number es (Some n))
at_key n key top es sorted keys ids le = range-under n key top es sorted (all_places (λ p. p.id < 2 ^ 63) es ids) le
    ∙ by_fit (nat_lt key (2 ^ 48)) refl ∙ sym (marks_at-under n key es)
  where
    by_fit : (b : Bool) → nat_lt key (2 ^ 48) ≡ b → marks_under n key es ≡ cond b (marks_under n key es) []
    by_fit true e = refl
    by_fit false e = none_beyond n key es (all_places (λ p. p.key < 2 ^ 48) es keys) e

-- what was gathered in a loop over all of them
pub gathered : (items : List Marked) (rest all : List Entry) → items ++ map marked rest ≡ map marked all → rest ≡ []
    → items ≡ map marked all
gathered items rest all e none = sym (append-nil items) ∙ ap (λ (es : List Entry). items ++ map marked es) (sym none) ∙ e

-- what lies between two places that are known by their equations
pub entries_at : (r es : List Entry) (start low end high : Place) → start ≡ low → end ≡ high
    → r ≡ entries_between place_cmp (Included start) (Included end) es → r ≡ entries_between place_cmp (Included low) (Included high) es
entries_at r es start low end high s e is = is
    ∙ ap (λ (a : Place). entries_between place_cmp (Included a) (Included end) es) s
    ∙ ap (λ (b : Place). entries_between place_cmp (Included low) (Included b) es) e
