-- What a change of one place keeps.
use Rattle.std.proofs.Common.{◌≡◌, ℕ, ◌+◌, ◌<◌, ◌^◌, ◌==◌, Bool, true, false, cond, List, Option, Some, None, refl, sym, ap, subst}
use Rattle.std.proofs.Common.{◌∙◌, arith}
use Rattle.std.specs.BTreeMap.{is_at}
use Rattle.std.specs.Cmp.Lexicographic.{slice_cmp}
use Rattle.std.specs.Option.{IsSome}
use Rattle.std.specs.BTreeMap.Range.{IsInRange}
use Rattle.std.specs.Ordering.{is_eq, is_gt, nat_cmp, ordering_then}
use Rattle.std.specs.declared.ops.Bound.TheVariants.{Included}
use Rattle.std.specs.declared.cmp.Ordering.{Ordering}
use Rattle.std.specs.declared.cmp.Ordering.TheVariants.{Less, Equal, Greater}
use Rattle.std.proofs.lemmas.Map.Lookups.{exact_bytes, exact_unsigned}
use Rattle.svr_iter.specs.Truths.{eq_true}
use Rattle.svr_iter.specs.declared.marks.Mark.{Mark}
use Rattle.svr_short.specs.Layout.{AreMarked, AreNumbers, IsAlone, SetsAdd, SetsHolding, SetsMark, has_add, holding_cmp, holding_of, key_of}
use Rattle.svr_short.specs.Short.{HasMarks, KeepsOthers, Lists, fits, mark_at, mark_by, number_of, place_cmp}
use Rattle.svr_short.specs.declared.place.Holding.{Holding}
use Rattle.svr_short.specs.declared.place.Place.{Place}

pub is_equal : (a : Ordering) → is_eq a ≡ true → a ≡ Equal
is_equal Less e = absurd (cc)
is_equal Equal e = refl
is_equal Greater e = absurd (cc)

both_equal : (a b : Ordering) → is_eq (ordering_then a b) ≡ true → (a ≡ Equal) × (is_eq b ≡ true)
both_equal Less b e = absurd (cc)
both_equal Equal b e = (refl, e)
both_equal Greater b e = absurd (cc)

pub same_place : (p q : Place) → is_at (place_cmp p) q ≡ true → p ≡ q
same_place p q e =
    let first = both_equal (nat_cmp p.term q.term) (ordering_then (nat_cmp p.key q.key) (nat_cmp p.id q.id)) e in
    let second = both_equal (nat_cmp p.key q.key) (nat_cmp p.id q.id) first.1 in
    let third = is_equal (nat_cmp p.id q.id) second.1 in
    ap (λ (x : ℕ). record { term = x; key = p.key; id = p.id }) (exact_unsigned p.term q.term first.0)
    ∙ ap (λ (x : ℕ). record { term = q.term; key = x; id = p.id }) (exact_unsigned p.key q.key second.0)
    ∙ ap (λ (x : ℕ). record { term = q.term; key = q.key; id = x }) (exact_unsigned p.id q.id third)

pub same_holding : (p q : Holding) → is_at (holding_cmp p) q ≡ true → p ≡ q
same_holding p q e =
    let first = both_equal (nat_cmp p.id q.id) (nat_cmp p.term q.term) e in
    let second = is_equal (nat_cmp p.term q.term) first.1 in
    ap (λ (x : ℕ). record { id = x; term = p.term }) (exact_unsigned p.id q.id first.0)
    ∙ ap (λ (x : ℕ). record { id = q.id; term = x }) (exact_unsigned p.term q.term second)

self_equal : (n : ℕ) → nat_cmp n n ≡ Equal
self_equal n = grind (arith)

pub at_self : (p : Place) → is_at (place_cmp p) p ≡ true
at_self p = rw (self_equal p.term, self_equal p.key, self_equal p.id) refl

pub held_self : (h : Holding) → is_at (holding_cmp h) h ≡ true
held_self h = rw (self_equal h.id, self_equal h.term) refl

-- ---- one place is changed

pick : (C : Type 0) (b : Bool) (w o : Option Mark) → IsSome (cond b w o) → (b ≡ true → IsSome w → C) → (b ≡ false → IsSome o → C) → C
pick C true w o some here there = here refl some
pick C false w o some here there = there refl some

pub by_bool : (C : Type 0) (b : Bool) → (b ≡ true → C) → (b ≡ false → C) → C
by_bool C true here there = here refl
by_bool C false here there = there refl

push : (b : Bool) (w o : Option Mark) → cond b (has_add w) (has_add o) ≡ has_add (cond b w o)
push true w o = refl
push false w o = refl

key_some : (w : Option Mark) (key : ℕ) → IsSome w → key_of w key ≡ Some key
key_some None key some = absurd (cc)
key_some (Some mark) key some = refl

some_key : (w : Option Mark) (at key : ℕ) → key_of w at ≡ Some key → IsSome w × (at ≡ key)
some_key None at key e = absurd (cc)
some_key (Some mark) at key e = (refl, cc)

one_place : (p q : Place) → holding_of q ≡ holding_of p → q.key ≡ p.key → q ≡ p
one_place p q same key =
    ap (λ (h : Holding). record { term = h.term; key = q.key; id = h.id }) same
    ∙ ap (λ (x : ℕ). record { term = p.term; key = x; id = p.id }) key

pub alone_there : (count : ℕ) (mk : Place → Option Mark) (ad : Place → Bool) (hd : Holding → Option ℕ) (p : Place)
    → AreMarked count mk ad hd → IsSome (mk p) → IsAlone mk p
alone_there count mk ad hd p are some q there same =
    some_same _ _ (sym (are.is_held q there) ∙ ap hd same ∙ are.is_held p some)
  where
    some_same : (a b : ℕ) → Some a ≡ Some b → a ≡ b
    some_same a b e = cc

pub marked-set : (count : ℕ) (mk new_mk : Place → Option Mark) (ad new_ad : Place → Bool) (hd new_hd : Holding → Option ℕ) (p : Place)
    (w : Option Mark) → AreMarked count mk ad hd → (IsSome w → (p.term < count) × ((p.key < 2 ^ 48) × (p.id < 2 ^ 63)))
    → IsAlone mk p → SetsMark mk new_mk p w → SetsAdd ad new_ad p w → SetsHolding hd new_hd p w → AreMarked count new_mk new_ad new_hd
marked-set count mk new_mk ad new_ad hd new_hd p w are fit alone sm sa sh = record {
  term_below = λ q s. at q s (q.term < count) (λ e sw. subst (λ (x : Place). x.term < count) (same_place p q e) (fit sw).0)
      (λ e so. are.term_below q so);
  key_fits = λ q s. at q s (q.key < 2 ^ 48) (λ e sw. subst (λ (x : Place). x.key < 2 ^ 48) (same_place p q e) (fit sw).1.0)
      (λ e so. are.key_fits q so);
  id_fits = λ q s. at q s (q.id < 2 ^ 63) (λ e sw. subst (λ (x : Place). x.id < 2 ^ 63) (same_place p q e) (fit sw).1.1)
      (λ e so. are.id_fits q so);
  is_added = λ q. sa q ∙ ap (λ (x : Bool). cond (is_at (place_cmp p) q) (has_add w) x) (are.is_added q)
      ∙ push (is_at (place_cmp p) q) w (mk q) ∙ ap has_add (sym (sm q));
  is_held = λ q s. at q s (new_hd (holding_of q) ≡ Some q.key)
      (λ e sw. subst (λ (x : Place). new_hd (holding_of x) ≡ Some x.key) (same_place p q e) (held_here sw))
      (λ e so. held_there q e so);
  is_marked = λ h key e. by_bool _ (is_at (holding_cmp (holding_of p)) h) (λ f. marked_here h key f e) (λ f. marked_there h key f e);
}
  where
    at : (q : Place) → IsSome (new_mk q) → (C : Type 0) → (is_at (place_cmp p) q ≡ true → IsSome w → C)
        → (is_at (place_cmp p) q ≡ false → IsSome (mk q) → C) → C
    at q s C here there = pick C (is_at (place_cmp p) q) w (mk q) (subst (λ (o : Option Mark). IsSome o) (sm q) s) here there

    held_here : IsSome w → new_hd (holding_of p) ≡ Some p.key
    held_here sw = sh (holding_of p) ∙ rw (held_self (holding_of p)) (key_some w p.key sw)

    differ : (q : Place) → is_at (place_cmp p) q ≡ false → p ≡ q → ⊥
    differ q e same = let yes = subst (λ (x : Place). is_at (place_cmp p) x ≡ true) same (at_self p) in absurd (cc)

    held_there : (q : Place) → is_at (place_cmp p) q ≡ false → IsSome (mk q) → new_hd (holding_of q) ≡ Some q.key
    held_there q e so = by_bool _ (is_at (holding_cmp (holding_of p)) (holding_of q))
        (λ f. let same = sym (same_holding (holding_of p) (holding_of q) f) in
        absurd (differ q e (sym (one_place p q same (alone q so same)))))
        (λ f. sh (holding_of q) ∙ ap (λ (b : Bool). cond b (key_of w p.key) (hd (holding_of q))) f ∙ are.is_held q so)

    marked_here : (h : Holding) (key : ℕ) → is_at (holding_cmp (holding_of p)) h ≡ true → new_hd h ≡ Some key
        → IsSome (new_mk (record { term = h.term; key = key; id = h.id }))
    marked_here h key f e =
        let there = some_key w p.key key (ap (λ (b : Bool). cond b (key_of w p.key) (hd h)) (sym f) ∙ sym (sh h) ∙ e) in
        let place : p ≡ record { term = h.term; key = key; id = h.id } =
        sym (one_place p (record { term = h.term; key = key; id = h.id }) (sym (same_holding (holding_of p) h f)) (sym there.1)) in
        subst (λ (x : Place). IsSome (new_mk x)) place
        (subst (λ (o : Option Mark). IsSome o) (sym (sm p ∙ ap (λ (b : Bool). cond b w (mk p)) (at_self p))) there.0)

    marked_there : (h : Holding) (key : ℕ) → is_at (holding_cmp (holding_of p)) h ≡ false → new_hd h ≡ Some key
        → IsSome (new_mk (record { term = h.term; key = key; id = h.id }))
    marked_there h key f e = let r : Place = record { term = h.term; key = key; id = h.id } in
        let there = are.is_marked h key (ap (λ (b : Bool). cond b (key_of w p.key) (hd h)) (sym f) ∙ sym (sh h) ∙ e) in
        by_bool _ (is_at (place_cmp p) r)
        (λ g. let yes = ap (λ (x : Place). is_at (holding_cmp (holding_of p)) (holding_of x)) (same_place p r g) in
        let held = held_self (holding_of p) in absurd (cc))
        (λ g. subst (λ (o : Option Mark). IsSome o) (sym (sm r ∙ ap (λ (b : Bool). cond b w (mk r)) g)) there)

-- ---- a change undone, and a term more

-- what stood beside others goes away
gone : {X : Type 0} (b : Bool) (none now between old : X) → now ≡ cond b none between → (b ≡ false → between ≡ old)
    → now ≡ cond b none old
gone true none now between old e keep = e
gone false none now between old e keep = e ∙ keep refl

twice : {X : Type 0} (b : Bool) (none some now between old : X) → now ≡ cond b none between → between ≡ cond b some old
    → now ≡ cond b none old
twice true none some now between old e f = e
twice false none some now between old e f = e ∙ f

pub numbers-new : (count : ℕ) (num new : List ℕ → Option ℕ) (t : List ℕ) → AreNumbers count num
    → ((s : List ℕ) → new s ≡ cond (is_at (slice_cmp nat_cmp t) s) (Some count) (num s)) → AreNumbers (count + 1) new
numbers-new count num new t are sets = record {
  below = λ s n e. of s (n < count + 1) n e (λ f g. omega (arith, g)) (λ f g. let h = are.below s n g in omega (arith, h));
  apart = λ s u n e f. of s (s ≡ u) n e
      (λ a here. of u (s ≡ u) n f (λ b there. sym (exact_at s a) ∙ exact_at u b)
      (λ b there. let h = are.below u n there in absurd (omega (arith, here))))
      (λ a here. of u (s ≡ u) n f (λ b there. let h = are.below s n here in absurd (omega (arith, there)))
      (λ b there. are.apart s u n here there));
}
  where
    exact_at : (s : List ℕ) → is_at (slice_cmp nat_cmp t) s ≡ true → t ≡ s
    exact_at s e = exact_bytes t s (is_equal (slice_cmp nat_cmp t s) e)

    by : (C : Type 0) (b : Bool) (o : Option ℕ) (n : ℕ) → cond b (Some count) o ≡ Some n → (b ≡ true → count ≡ n → C)
        → (b ≡ false → o ≡ Some n → C) → C
    by C true o n e here there = here refl (cc)
    by C false o n e here there = there refl e

    of : (s : List ℕ) (C : Type 0) (n : ℕ) → new s ≡ Some n → (is_at (slice_cmp nat_cmp t) s ≡ true → count ≡ n → C)
        → (is_at (slice_cmp nat_cmp t) s ≡ false → num s ≡ Some n → C) → C
    of s C n e here there = by C (is_at (slice_cmp nat_cmp t) s) (num s) n (sym (sets s) ∙ e) here there

pub marked-more : (count : ℕ) (mk : Place → Option Mark) (ad : Place → Bool) (hd : Holding → Option ℕ) → AreMarked count mk ad hd
    → AreMarked (count + 1) mk ad hd
marked-more count mk ad hd are = record {
  term_below = λ p s. let h = are.term_below p s in omega (arith, h);
  key_fits = are.key_fits;
  id_fits = are.id_fits;
  is_added = are.is_added;
  is_held = are.is_held;
  is_marked = are.is_marked;
}

-- a holding by its own name
pub held_by : (old new : Holding → Option ℕ) (p : Place) (k : Holding) → k ≡ holding_of p
    → ((h : Holding) → new h ≡ cond (is_at (holding_cmp k) h) None (old h)) → SetsHolding old new p None
held_by old new p k e sets = λ h. sets h ∙ ap (λ (x : Holding). cond {A = Option ℕ} (is_at (holding_cmp x) h) None (old h)) e

pub none_of : (o : Option Mark) → (IsSome o → ⊥) → o ≡ None
none_of None no_mark = refl
none_of (Some mark) no_mark = absurd (no_mark refl)

-- a number that a new term has been given has no marks yet
pub number-stays : (count : ℕ) (marks : List (Place × Mark)) (num new : List ℕ → Option ℕ) (t : List ℕ)
    → ((p : Place) → IsSome (mark_at marks p) → p.term < count) → num t ≡ None
    → ((s : List ℕ) → new s ≡ cond (is_at (slice_cmp nat_cmp t) s) (Some count) (num s)) → (s : List ℕ) (key id : ℕ)
    → mark_by marks (new s) key id ≡ mark_by marks (num s) key id
number-stays count marks num new t below fresh sets s key id = by_bool _ (is_at (slice_cmp nat_cmp t) s)
    (λ e. let was : num s ≡ None = ap num (sym (exact_bytes t s (is_equal (slice_cmp nat_cmp t s) e))) ∙ fresh in
    let now : new s ≡ Some count = sets s ∙ ap (λ (b : Bool). cond b (Some count) (num s)) e in
    ap (λ (o : Option ℕ). mark_by marks o key id) now ∙ unmarked (fits key id) ∙ sym (ap (λ (o : Option ℕ). mark_by marks o key id) was))
    (λ e. ap (λ (o : Option ℕ). mark_by marks o key id) (sets s ∙ ap (λ (b : Bool). cond b (Some count) (num s)) e))
  where
    unmarked : (b : Bool) → cond b (mark_at marks (record { term = count; key = key; id = id })) None ≡ None
    unmarked true = none_of _ (λ some. let lt = below (record { term = count; key = key; id = id }) some in absurd (omega (arith, lt)))
    unmarked false = refl

pub mark-undone : (old mid new : Place → Option Mark) (p : Place) (m : Option Mark) → SetsMark old mid p m → SetsMark mid new p None
    → SetsMark old new p None
mark-undone old mid new p m set undone = λ q. twice (is_at (place_cmp p) q) None m (new q) (mid q) (old q) (undone q) (set q)

pub add-undone : (old mid new : Place → Bool) (p : Place) → ((q : Place) → is_at (place_cmp p) q ≡ false → mid q ≡ old q)
    → SetsAdd mid new p None → SetsAdd old new p None
add-undone old mid new p keep undone = λ q. gone (is_at (place_cmp p) q) false (new q) (mid q) (old q) (undone q) (keep q)

pub holding-undone : (old mid new : Holding → Option ℕ) (p : Place) → ((h : Holding) → mid h ≡ old h) → SetsHolding mid new p None
    → SetsHolding old new p None
holding-undone old mid new p keep undone =
    λ h. gone (is_at (holding_cmp (holding_of p)) h) None (new h) (mid h) (old h) (undone h) (λ e. keep h)

-- ---- the marks of other documents, and of one that has none

pub others-set : (old new : Lists) (p : Place) (w : Option Mark) → new.numbers ≡ old.numbers
    → SetsMark (mark_at old.marks) (mark_at new.marks) p w → KeepsOthers old new p.id
others-set old new p w numbers sets = λ term key other differ.
    ap (λ (ns : List (List ℕ × ℕ)). mark_by new.marks (number_of ns term) key other) numbers
    ∙ by (number_of old.numbers term) key other differ
  where
    by : (o : Option ℕ) (key other : ℕ) → (p.id == other) ≡ false → mark_by new.marks o key other ≡ mark_by old.marks o key other
    by None key other differ = refl
    by (Some n) key other differ = let r : Place = record { term = n; key = key; id = other } in
        by_bool _ (is_at (place_cmp p) r)
        (λ e. let same = ap (λ (x : Place). x.id) (same_place p r e) in let h = eq_true p.id other same in absurd (cc))
        (λ e. ap (λ (o : Option Mark). cond (fits key other) o None)
        (sets r ∙ ap (λ (b : Bool). cond b w (mark_at old.marks r)) e))

pub gone-all : (v : Lists) (id : ℕ) → ((p : Place) → p.id ≡ id → mark_at v.marks p ≡ None) → HasMarks v id (λ _ _. None)
gone-all v id none = λ term key. by (number_of v.numbers term) key
  where
    either_none : (b : Bool) (o : Option Mark) → o ≡ None → cond b o None ≡ None
    either_none true o e = e
    either_none false o e = refl

    by : (o : Option ℕ) (key : ℕ) → mark_by v.marks o key id ≡ None
    by None key = refl
    by (Some n) key = either_none (fits key id) _ (none (record { term = n; key = key; id = id }) refl)

in_range : (h : Holding) (count : ℕ) → h.term < count
    → IsInRange holding_cmp (Included (record { id = h.id; term = 0 })) (Included (record { id = h.id; term = count })) h
in_range h count lt =
    let low : is_gt (nat_cmp 0 h.term) ≡ false = grind (arith) in
    let high : is_gt (nat_cmp h.term count) ≡ false = grind (arith, lt) in
    (rw (self_equal h.id) low, rw (self_equal h.id) high)

pub none-held : (count : ℕ) (mk : Place → Option Mark) (ad : Place → Bool) (hd : Holding → Option ℕ) (id : ℕ) → AreMarked count mk ad hd
    → ((h : Holding) → IsInRange holding_cmp (Included (record { id = id; term = 0 })) (Included (record { id = id; term = count })) h
    → hd h ≡ None) → (p : Place) → p.id ≡ id → mk p ≡ None
none-held count mk ad hd id are none = λ p same. none_of (mk p) (λ some.
    let there = are.is_held p some in
    let gone = none (holding_of p) (subst (λ (x : ℕ). IsInRange holding_cmp (Included (record { id = x; term = 0 }))
    (Included (record { id = x; term = count })) (holding_of p)) same (in_range (holding_of p) count (are.term_below p some))) in
    absurd (cc))
