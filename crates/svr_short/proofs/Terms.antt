-- The first term behind another that has an Add.
use Rattle.std.proofs.Common.{◌≡◌, ℕ, ◌&&◌, Bool, true, false, cond, List, [], ◌∷◌, find, filter, Option, Some, None, option_map, refl}
use Rattle.std.proofs.Common.{sym, ap, subst, ◌∙◌}
use Rattle.std.specs.BTreeMap.{is_at}
use Rattle.std.specs.Cmp.Lexicographic.{slice_cmp, nat_list_cmp_total}
use Rattle.std.specs.List.{AllByRecursion}
use Rattle.std.specs.List.Sorted.{IsStrictlySortedBy}
use Rattle.std.specs.Map.{keys_of}
use Rattle.std.specs.Option.{IfSome, IsSome}
use Rattle.std.specs.Ordering.{is_eq, is_lt, nat_cmp, ordering_reverse}
use Rattle.std.specs.declared.cmp.Ordering.{Ordering}
use Rattle.std.specs.declared.cmp.Ordering.TheVariants.{Less, Equal, Greater}
use Rattle.std.proofs.lemmas.Map.Lookups.{exact_bytes}
use Rattle.std.proofs.lemmas.Map.Text.{is_eq-slice_cmp}
use Rattle.std.proofs.lemmas.Slice.Eq.{bytes_eq-Decides}
use Rattle.svr_iter.specs.Truths.{and_left, and_right, both_true}
use Rattle.svr_iter.specs.declared.marks.Mark.{Mark}
use Rattle.svr_iter.specs.declared.marks.Mark.TheVariants as mark
use Rattle.svr_short.specs.Layout.{any_add, has_add}
use Rattle.svr_short.specs.Short.{HasAdd, IsAfter, IsNextTerm, Lists, fits, mark_at, mark_by, number_of}
use Rattle.svr_short.proofs.Adding.{any_add-some, any_add-there}
use Rattle.svr_short.proofs.Keeping.{by_bool, is_equal}
use Rattle.svr_short.proofs.Turning.{Known, fits_true, mark_under}

abbrev cmp : List ℕ → List ℕ → Ordering
cmp = slice_cmp nat_cmp

abbrev pub Entry : Type 0
Entry = List ℕ × ℕ

same_term : (s t : List ℕ) → is_at (cmp s) t ≡ true → s ≡ t
same_term s t e = exact_bytes s t (is_equal (cmp s t) e)

at_self : (t : List ℕ) → is_at (cmp t) t ≡ true
at_self t = is_eq-slice_cmp t t ∙ (bytes_eq-Decides t t).1 refl

behind : (s t : List ℕ) → cmp s t ≡ Less → cmp t s ≡ Greater
behind s t e = nat_list_cmp_total.antisymm t s ∙ ap ordering_reverse e

-- what holds of all terms holds of one that has a number
all_at : (P : List ℕ → Type 0) (ns : List Entry) (t : List ℕ) (n : ℕ) → AllByRecursion P (keys_of ns) → number_of ns t ≡ Some n → P t
all_at P [] t n all e = absurd (cc)
all_at P (x ∷ ns) t n all e = by_bool (P t) (is_at (cmp t) x.0) (λ f. subst P (sym (same_term t x.0 f)) all.0)
    (λ f. all_at P ns t n all.1 (sym (ap (λ (b : Bool). cond b (Some x.1) (number_of ns t)) f) ∙ e))

module _ (passes test : Entry → Bool) where
  -- the first of those that pass one test to pass a second is the first to pass both
  find-filter : (ns : List Entry) → find test (filter passes ns) ≡ find (λ e. passes e && test e) ns
  find-filter [] = refl
  find-filter (x ∷ ns) = one (passes x) (find-filter ns)
    where
      one : (a : Bool) → find test (filter passes ns) ≡ find (λ e. passes e && test e) ns
          → find test (cond a (x ∷ filter passes ns) (filter passes ns)) ≡ cond (a && test x) (Some x) (find (λ e. passes e && test e) ns)
      one true rest = ap (λ (o : Option Entry). cond (test x) (Some x) o) rest
      one false rest = rest

-- an entry is among others that stand by their terms, and is wanted
record IsFound (wanted : Entry → Bool) (ns : List Entry) (e : Entry) : Type 0 where
  number : number_of ns e.0 ≡ Some e.1
  is_wanted : wanted e ≡ true

module _ (wanted : Entry → Bool) where
  found : (ns : List Entry) (e : Entry) → IsStrictlySortedBy cmp (keys_of ns) → find wanted ns ≡ Some e → IsFound wanted ns e
  unfolding IsStrictlySortedBy
  found [] e sorted f = absurd (cc)
  found (x ∷ ns) e sorted f = by_bool (IsFound wanted (x ∷ ns) e) (wanted x)
      (λ g. let same : x ≡ e = some_same x e (sym (ap (λ (b : Bool). cond b (Some x) (find wanted ns)) g) ∙ f) in
      subst (λ (y : Entry). IsFound wanted (x ∷ ns) y) same
      (record { number = ap (λ (b : Bool). cond b (Some x.1) (number_of ns x.0)) (at_self x.0); is_wanted = g }))
      (λ g. let rest = found ns e sorted.1 (sym (ap (λ (b : Bool). cond b (Some x) (find wanted ns)) g) ∙ f) in
      record {
        number = ap (λ (o : Ordering). cond (is_eq o) (Some x.1) (number_of ns e.0))
            (behind x.0 e.0 (all_at (λ (t : List ℕ). cmp x.0 t ≡ Less) ns e.0 e.1 sorted.0 rest.number)) ∙ rest.number;
        is_wanted = rest.is_wanted;
      })
    where
      some_same : (a b : Entry) → Some a ≡ Some b → a ≡ b
      some_same a b h = cc

  -- there is one, and the term does not come before it
  abbrev IsNotAfter : List ℕ → Option Entry → Type 0
  IsNotAfter t o = IsSome o × IfSome o (λ e. cmp t e.0 ≡ Less → ⊥)

  not_less : (o : Ordering) → is_eq o ≡ true → o ≡ Less → ⊥
  not_less o e less = let no : is_eq o ≡ false = ap is_eq less in absurd (cc)

  not_both : (o : Ordering) → o ≡ Greater → o ≡ Less → ⊥
  not_both o a b = absurd (cc)

  first : (ns : List Entry) (t : List ℕ) (n : ℕ) → IsStrictlySortedBy cmp (keys_of ns) → number_of ns t ≡ Some n → wanted (t, n) ≡ true
      → IsNotAfter t (find wanted ns)
  unfolding IsStrictlySortedBy
  first [] t n sorted e is = absurd (cc)
  first (x ∷ ns) t n sorted e is = by_bool (IsNotAfter t (find wanted (x ∷ ns))) (is_at (cmp t) x.0)
      (λ f. let number : x.1 ≡ n = some_same x.1 n (sym (ap (λ (b : Bool). cond b (Some x.1) (number_of ns t)) f) ∙ e) in
      let here : wanted x ≡ true = ap (λ (m : ℕ). wanted (x.0, m)) number
      ∙ ap (λ (s : List ℕ). wanted (s, n)) (sym (same_term t x.0 f)) ∙ is in
      subst (λ (b : Bool). IsNotAfter t (cond b (Some x) (find wanted ns))) (sym here) (refl, not_less (cmp t x.0) f))
      (λ f. let there : number_of ns t ≡ Some n = sym (ap (λ (b : Bool). cond b (Some x.1) (number_of ns t)) f) ∙ e in
      let less : cmp x.0 t ≡ Less = all_at (λ (s : List ℕ). cmp x.0 s ≡ Less) ns t n sorted.0 there in
      by_bool (IsNotAfter t (find wanted (x ∷ ns))) (wanted x)
      (λ g. subst (λ (b : Bool). IsNotAfter t (cond b (Some x) (find wanted ns))) (sym g) (refl, not_both (cmp t x.0) (behind x.0 t less)))
      (λ g. subst (λ (b : Bool). IsNotAfter t (cond b (Some x) (find wanted ns))) (sym g) (first ns t n sorted.1 there is)))
    where
      some_same : (a b : ℕ) → Some a ≡ Some b → a ≡ b
      some_same a b h = cc

-- ---- among the numbers of terms

-- the terms behind another, or all
abbrev pub is_after : Option (List ℕ) → List ℕ → Bool
is_after None t = true
is_after (Some before) t = is_lt (cmp before t) && true

to_after : (after : Option (List ℕ)) (t : List ℕ) → is_after after t ≡ true → IsAfter after t
to_after None t e = tt
to_after (Some before) t e = less (cmp before t) (and_left (is_lt (cmp before t)) true e)
  where
    less : (o : Ordering) → is_lt o ≡ true → o ≡ Less
    less Less e = refl
    less Equal e = absurd (cc)
    less Greater e = absurd (cc)

from_after : (after : Option (List ℕ)) (t : List ℕ) → IsAfter after t → is_after after t ≡ true
from_after None t e = refl
from_after (Some before) t e = both_true (is_lt (cmp before t)) true (ap is_lt e) refl

pub is_add : (o : Option Mark) → has_add o ≡ true → o ≡ Some mark.Add
is_add None e = absurd (cc)
is_add (Some mark.Add) e = refl
is_add (Some mark.Rem) e = absurd (cc)

pub some_mark : (o : Option Mark) → has_add o ≡ true → IsSome o
some_mark None e = absurd (cc)
some_mark (Some mark) e = refl

-- a number with an Add is that of a term with an Add
to_term : (v : Lists) (t : List ℕ) (n : ℕ) → Known v → number_of v.numbers t ≡ Some n → any_add v.marks n ≡ true → HasAdd v t
to_term v t n known given some =
    let under = any_add-some v.marks n some in
    let there = some_mark (mark_at v.marks under.place) under.there in
    let fit = fits_true under.place.key under.place.id (known.key_fits under.place there) (known.id_fits under.place there) in
    record {
      key = under.place.key;
      id = under.place.id;
      there = mark_under v t under.place.term under.place.key under.place.id (given ∙ ap Some (sym under.term)) fit
          ∙ is_add (mark_at v.marks under.place) under.there;
    }

from_term : (v : Lists) (t : List ℕ) (C : Type 0) → HasAdd v t
    → ((n : ℕ) → number_of v.numbers t ≡ Some n → any_add v.marks n ≡ true → C) → C
from_term v t C has then_add = by_number (number_of v.numbers t) refl has.there
  where
    either : (b : Bool) (o : Option Mark) → cond b o None ≡ Some mark.Add → has_add o ≡ true
    either true o e = ap has_add e
    either false o e = absurd (cc)

    by_number : (o : Option ℕ) → number_of v.numbers t ≡ o → mark_by v.marks o has.key has.id ≡ Some mark.Add → C
    by_number None e there = absurd (cc)
    by_number (Some n) e there = then_add n e (any_add-there v.marks (record { term = n; key = has.key; id = has.id }) n refl
        (either (fits has.key has.id) (mark_at v.marks (record { term = n; key = has.key; id = has.id })) there))

next_term : (v : Lists) (after : Option (List ℕ)) → Known v → IsStrictlySortedBy cmp (keys_of v.numbers)
    → IsNextTerm v after (option_map (λ (e : Entry). e.0)
    (find (λ (e : Entry). any_add v.marks e.1) (filter (λ (e : Entry). is_after after e.0) v.numbers)))
next_term v after known sorted =
    subst (λ (o : Option Entry). IsNextTerm v after (option_map (λ (e : Entry). e.0) o)) (sym (find-filter passes test v.numbers))
    (by_found (find wanted v.numbers) refl)
  where
    passes : Entry → Bool
    passes e = is_after after e.0

    test : Entry → Bool
    test e = any_add v.marks e.1

    wanted : Entry → Bool
    wanted e = passes e && test e

    here : (o : Option Entry) → find wanted v.numbers ≡ o
        → IfSome (option_map (λ (e : Entry). e.0) o) (λ t. IsAfter after t × HasAdd v t)
    here None e = tt
    here (Some x) e = let is = found wanted v.numbers x sorted e in (
      to_after after x.0 (and_left (passes x) (test x) is.is_wanted),
      to_term v x.0 x.1 known is.number (and_right (passes x) (test x) is.is_wanted),
    )

    there : (t : List ℕ) → IsAfter after t → HasAdd v t → IsNotAfter wanted t (find wanted v.numbers)
    there t behind has = from_term v t (IsNotAfter wanted t (find wanted v.numbers)) has
        (λ n number some. first wanted v.numbers t n sorted number
        (both_true (passes (t, n)) (test (t, n)) (from_after after t behind) some))

    some_key : (o : Option Entry) → IsSome o → IsSome (option_map (λ (e : Entry). e.0) o)
    some_key None some = absurd (cc)
    some_key (Some x) some = refl

    first_key : (t : List ℕ) (o : Option Entry) → IfSome o (λ e. cmp t e.0 ≡ Less → ⊥)
        → IfSome (option_map (λ (e : Entry). e.0) o) (λ s. cmp t s ≡ Less → ⊥)
    first_key t None is = tt
    first_key t (Some x) is = is

    by_found : (o : Option Entry) → find wanted v.numbers ≡ o → IsNextTerm v after (option_map (λ (e : Entry). e.0) o)
    by_found o e = record {
      here = here o e;
      some = λ t behind has. some_key o (subst (λ (o : Option Entry). IsSome o) e (there t behind has).0);
      first = λ t behind has. first_key t o (subst (λ (o : Option Entry). IfSome o (λ e. cmp t e.0 ≡ Less → ⊥)) e (there t behind has).1);
    }

-- the same for a list of terms that is known to be those behind the other
pub next_by : (v : Lists) (after : Option (List ℕ)) (terms : List Entry) (o : Option (List ℕ)) → Known v
    → IsStrictlySortedBy cmp (keys_of v.numbers) → terms ≡ filter (λ (e : Entry). is_after after e.0) v.numbers
    → o ≡ option_map (λ (e : Entry). e.0) (find (λ (e : Entry). any_add v.marks e.1) terms) → IsNextTerm v after o
next_by v after terms o known sorted are is =
    subst (λ (o : Option (List ℕ)). IsNextTerm v after o) (sym (is ∙ ap (λ (ts : List Entry). option_map (λ (e : Entry). e.0)
    (find (λ (e : Entry). any_add v.marks e.1) ts)) are)) (next_term v after known sorted)
