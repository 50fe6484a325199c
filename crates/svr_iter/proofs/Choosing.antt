-- Which of several lists have the greatest key, and what taking its group does to one of them.
use Rattle.std.proofs.Common.{◌≡◌, ℕ, ◌<◌, ◌^◌, ◌==◌, ◌||◌, Bool, true, false, List, [], ◌∷◌, map, filter, max, Option, Some, None, unwrap_or, refl, ap, sym, subst, ◌∙◌, arith}
use Rattle.std.specs.List.{AllByRecursion}
use Rattle.std.specs.Option.{option_eq}
use Rattle.std.proofs.lemmas.Bool.Decides.{nat_tests}
use Rattle.svr_postpage.specs.declared.page_ref.PageRef.{PageRef}
use Rattle.svr_listing.specs.Groups.{AreGroups, IsGroup}
use Rattle.svr_listing.specs.declared.group.Group.{Group}
use Rattle.svr_iter.specs.Keys.{greater, greatest}
use Rattle.svr_iter.specs.Layout.{IsUpTo, KeepsAt, TakesAt, is_next}
use Rattle.svr_iter.specs.Taking.{IsLess, KeepsGroup, TakesGroup}
use Rattle.svr_iter.specs.Truths.{eq_from, eq_self, or_left, or_right}

pub up_to_greater : (a b : Option ℕ) (key : ℕ) → IsUpTo key (greater a b) → IsUpTo key a × IsUpTo key b
up_to_greater None b key up = (tt, up)
up_to_greater (Some x) None key up = (up, tt)
up_to_greater (Some x) (Some y) key up = (omega arith, omega arith)

-- no next key is above the greatest
pub all_up_to : {P : Type 0} (next : P → Option ℕ) (key : ℕ) (ps : List P) → IsUpTo key (greatest (map next ps))
    → AllByRecursion (λ p. IsUpTo key (next p)) ps
all_up_to next key [] up = tt
all_up_to next key (p ∷ ps) up = let both = up_to_greater (next p) (greatest (map next ps)) key up in
    (both.0, all_up_to next key ps both.1)

pub up_to_own : (key : ℕ) (o : Option ℕ) → Some key ≡ o → IsUpTo key o
up_to_own key o e = subst (IsUpTo key) e (omega arith)

pub one_is : (a b : Option ℕ) (key : ℕ) (found : Bool) → greater a b ≡ Some key → (b ≡ Some key → found ≡ true)
    → (is_next key a || found) ≡ true
one_is None b key found e rest = rest e
one_is (Some x) None key found e rest = let same : x ≡ key = cc in rw same (or_left _ _ (eq_self key))
one_is (Some x) (Some y) key found e rest = by_most (x == key) refl
  where
    by_most : (t : Bool) → (x == key) ≡ t → ((x == key) || found) ≡ true
    by_most true f = or_left _ _ f
    by_most false f =
        let most : max x y ≡ key = cc in
        let same : y ≡ key = grind (arith, nat_tests) in
        or_right _ _ (rest (ap Some same))

pub below_key : (may : ℕ → ℕ → Bool) (next : Option ℕ) (key : ℕ) (gs : List Group) → AreGroups may next gs → IsLess next (Some key)
    → AllByRecursion (λ group. group.key < key) gs
below_key may next key [] are less = tt
below_key may next key (g ∷ gs) are less =
    let first : IsLess (Some g.key) (Some key) = subst (λ (o : Option ℕ). IsLess o (Some key)) (sym are.begin) less in
    (first, lower gs are.descend.0 first)
  where
    lower : (l : List Group) → AllByRecursion (λ later. later.key < g.key) l → g.key < key → AllByRecursion (λ group. group.key < key) l
    lower [] all lt = tt
    lower (h ∷ hs) all lt = (omega (arith, all.0), lower hs all.1 lt)

pub less_both : (a b : Option ℕ) (key : ℕ) → IsLess a (Some key) → IsLess b (Some key) → IsLess (greater a b) (Some key)
less_both None b key less other = other
less_both (Some x) None key less other = less
less_both (Some x) (Some y) key less other = omega arith

pub not_next : (key : ℕ) (o : Option ℕ) → is_next key o ≡ false → IsUpTo key o → IsLess o (Some key)
not_next key None e up = tt
not_next key (Some x) e up = less
  where
    less : x < key
    less = grind (arith, nat_tests)

pub is_next-eq : (key : ℕ) (o : Option ℕ) → option_eq (λ a b. a == b) o (Some key) ≡ is_next key o
is_next-eq key None = refl
is_next-eq key (Some x) = refl

pub is_next-some : (key : ℕ) (o : Option ℕ) → is_next key o ≡ true → o ≡ Some key
is_next-some key None e = absurd (cc)
is_next-some key (Some x) e = ap Some (eq_from x key e)

empty_at : (may : ℕ → ℕ → Bool) (key : ℕ) → key < 2 ^ 48 → IsGroup may (record { key = key; ids = [] })
empty_at may key lt = record {
  ordered = record { key_fits = lt; ascending = λ k h. absurd (omega arith); ids_fit = λ k d h. absurd (omega arith) };
  allowed = λ k d h. absurd (omega arith);
}

-- a list that has the key gives its group of it
pub took_at : {S : Type 0} (groups : S → List ℕ → List Group) (next : S → Option ℕ) (may : S → ℕ → ℕ → Bool)
    (pages : S → ℕ → List PageRef) (told : Option (List ℕ))
    (key : ℕ) (old new : S) (ids : List ℕ) → next old ≡ Some key → TakesGroup groups next may pages told old new ids
    → TakesAt groups next may pages told key old new ids
took_at {S} groups next may pages told key old new ids e takes = record {
  taken = λ bytes at. rw (took, ← same) (takes.first bytes at);
  none = λ f. (let no : true ≡ false = sym took ∙ f in absurd (cc));
  less = subst (λ (o : Option ℕ). IsLess (next new) o) e takes.next_less;
  allowed = subst (λ (k : ℕ). IsGroup (may old) (record { key = k; ids = ids })) same takes.lawful;
  same_may = takes.same_may;
  same_pages = λ k lt. takes.same_pages k (subst (λ (n : ℕ). k < n) (sym same) lt);
}
  where
    took : is_next key (next old) ≡ true
    took = ap (is_next key) e ∙ eq_self key

    same : unwrap_or (next old) 0 ≡ key
    same = ap (λ (o : Option ℕ). unwrap_or o 0) e

-- one that has it not stays
pub stays_at : {S : Type 0} (groups : S → List ℕ → List Group) (next : S → Option ℕ) (may : S → ℕ → ℕ → Bool)
    (pages : S → ℕ → List PageRef) (told : Option (List ℕ))
    (key : ℕ) (list : S) (ids : List ℕ) → is_next key (next list) ≡ false → IsUpTo key (next list) → key < 2 ^ 48 → ids ≡ []
    → TakesAt groups next may pages told key list list ids
stays_at groups next may pages told key list ids e up fits none = record {
  taken = λ bytes at. rw e refl;
  none = λ f. none;
  less = not_next key (next list) e up;
  allowed = rw none (empty_at (may list) key fits);
  same_may = refl;
  same_pages = λ k lt. refl;
}

pub kept_at : {S : Type 0} (groups : S → List ℕ → List Group) (next : S → Option ℕ) (may : S → ℕ → ℕ → Bool)
    (pages : S → ℕ → List PageRef) (told : Option (List ℕ))
    (key : ℕ) (old new : S) (before after : List ℕ) → next old ≡ Some key → KeepsGroup groups next may pages told old new before after
    → KeepsAt groups next may pages told key old new before after
kept_at groups next may pages told key old new before after e keeps =
    record { ids = keeps.ids; takes = took_at groups next may pages told key old new keeps.ids e keeps.takes; kept = keeps.kept }

none_kept : (ids : List ℕ) → filter (λ (id : ℕ). false) ids ≡ []
none_kept [] = refl
none_kept (x ∷ xs) = none_kept xs

-- and leaves none
pub none_at : {S : Type 0} (groups : S → List ℕ → List Group) (next : S → Option ℕ) (may : S → ℕ → ℕ → Bool)
    (pages : S → ℕ → List PageRef) (told : Option (List ℕ))
    (key : ℕ) (list : S) (before after : List ℕ) → is_next key (next list) ≡ false → IsUpTo key (next list) → key < 2 ^ 48 → after ≡ []
    → KeepsAt groups next may pages told key list list before after
none_at groups next may pages told key list before after e up fits none =
    record { ids = []; takes = stays_at groups next may pages told key list [] e up fits refl; kept = none ∙ sym (none_kept before) }
