-- The lesser of the next terms with pages and with Adds is the next live term.
use Rattle.std.proofs.Common.{◌≡◌, ◌⊎◌, inl, inr, ℕ, ◌<◌, ◌==◌, ◌||◌, Bool, true, false, cond, List, [], ◌∷◌, ◌++◌, length, map, filter}
use Rattle.std.proofs.Common.{Option, Some, None, unwrap_or, refl, ap, sym, subst, ◌∙◌, arith, Ordering, Less, Equal, Greater}
use Rattle.std.specs.Cmp.Lexicographic.{slice_cmp}
use Rattle.std.specs.List.{AllByRecursion, list_any, slice_get}
use Rattle.std.specs.List.Sorted.{IsStrictlySortedBy}
use Rattle.std.specs.Map.{keys_of}
use Rattle.std.specs.Option.{IsSome}
use Rattle.std.specs.Ordering.{is_lt, nat_cmp}
use Rattle.std.specs.Str.{bytes_eq}
use Rattle.std.proofs.lemmas.Bool.{or_left, or_right}
use Rattle.std.proofs.lemmas.Slice.Eq.{bytes_eq-Decides}
use Rattle.svr_iter.specs.Effective.{mark_by, mark_here}
use Rattle.svr_iter.specs.declared.marks.Mark.TheVariants as mark
use Rattle.svr_iter.proofs.Effecting.{any_found, found_any, up_documents}
use Rattle.svr_listing.specs.Kept.{AreInOrder, IsListing}
use Rattle.svr_listing.specs.Listing.{Listing, is_held, is_removed, pages_of, pairs_in, posted}
use Rattle.svr_listing.specs.Merges.{by_bytes, is_after, is_live, live_terms}
use Rattle.svr_listing.specs.declared.document.Listed.{Listed}
use Rattle.svr_listing.specs.declared.pages.Page.{Page}
use Rattle.svr_listing.proofs.Terms.{first-live, later_still, none-live, not_before_itself, one_first, same_term}
use Rattle.svr_long.specs.Lists.{Ascends, HavePages, pages_at, term_after}
use Rattle.svr_postpage.specs.declared.page_ref.PageRef.{PageRef}
use Rattle.svr_postpage.specs.declared.pair.Pair.{Pair}
use Rattle.svr_short.specs.Short.{HasAdd, IsAfter, IsNextTerm}
use Rattle.svr_index.specs.Index.{Indexed, StandsFor}
use Rattle.svr_index.specs.Terms.{lesser_term}
use Rattle.svr_index.proofs.Following.{at}

-- ---- which terms are live

abbrev HasPages : Indexed → List ℕ → Type 0
HasPages index t = IsSome (pages_at index.pages t)

no_pages : (ps : List Page) → [] ≡ map (λ (page : Page). page.head) ps → ps ≡ []
no_pages [] e = refl
no_pages (p ∷ ps) e = absurd (cc)

has_pages : (index : Indexed) (l : Listing) (t : List ℕ) → StandsFor index l → list_any (λ (_ : Pair). true) (posted l t) ≡ true
    → HasPages index t
has_pages index l t stood e = by (pages_at index.pages t) (stood.pages t)
  where
    by : (o : Option (List PageRef)) → unwrap_or o [] ≡ map (λ (page : Page). page.head) (pages_of l.lists t) → IsSome o
    by (Some refs) f = refl
    by None f =
        let none : pages_of l.lists t ≡ [] = no_pages (pages_of l.lists t) f in
        absurd (let no' : false ≡ true = ap (λ (ps : List Page). list_any (λ (_ : Pair). true) (pairs_in ps)) (sym none) ∙ e in cc)

some_pair : (ps : List Page) → AreInOrder ps → 0 < length (map (λ (page : Page). page.head) ps)
    → list_any (λ (_ : Pair). true) (pairs_in ps) ≡ true
some_pair [] order some = absurd (omega (arith, some))
some_pair (p ∷ []) order some = ap (λ (pairs : List Pair). list_any (λ (_ : Pair). true) (pairs ++ [])) order.1
some_pair (p ∷ q ∷ ps) order some =
    ap (λ (pairs : List Pair). list_any (λ (_ : Pair). true) (pairs ++ pairs_in (q ∷ ps))) order.0.1

live-pages : (index : Indexed) (l : Listing) (t : List ℕ) → ((term : List ℕ) → AreInOrder (pages_of l.lists term)) → StandsFor index l
    → HavePages index.pages → HasPages index t → is_live l t ≡ true
live-pages index l t order stood paged has =
    or_left _ _ (some_pair (pages_of l.lists t) (order t)
    (subst (λ (refs : List PageRef). 0 < length refs) (stood.pages t) (paged t has)))

held_from : (held removed : Bool) → cond held (Some mark.Add) (cond removed (Some mark.Rem) None) ≡ Some mark.Add → held ≡ true
held_from true removed e = refl
held_from false true e = absurd (cc)
held_from false false e = absurd (cc)

live-add : (index : Indexed) (l : Listing) (t : List ℕ) → StandsFor index l → HasAdd index.marks t → is_live l t ≡ true
live-add index l t stood add = or_right _ _ (by (at l add.id) refl (sym (stood.marks t add.key add.id) ∙ add.there))
  where
    at_key : (b : Bool) (d : Listed) → cond b (mark_by l t d) None ≡ Some mark.Add → is_held l t d ≡ true
    at_key true d e = held_from (is_held l t d) (is_removed l t d) e
    at_key false d e = absurd (cc)

    by : (o : Option Listed) → at l add.id ≡ o → mark_here l t add.key o ≡ Some mark.Add → list_any (is_held l t) l.documents ≡ true
    by None e m = absurd (cc)
    by (Some d) e m =
        found_any (λ (x : Listed). x.document.id == add.id) (is_held l t) l.documents d e (at_key (d.entry.key == add.key) d m)

has_add : (index : Indexed) (l : Listing) (t : List ℕ) → (tokens : List ℕ → List (List ℕ)) → IsListing tokens l → StandsFor index l
    → list_any (is_held l t) l.documents ≡ true → HasAdd index.marks t
has_add index l t tokens is stood e =
    let d = any_found (is_held l t) l.documents (up_documents l.documents is.documents.ascend) e in
    record {
      key = d.0.entry.key;
      id = d.0.document.id;
      there = stood.marks t d.0.entry.key d.0.document.id ∙ ap (mark_here l t d.0.entry.key) d.1
          ∙ by (d.0.entry.key == d.0.entry.key) d.0 (let same : (d.0.entry.key == d.0.entry.key) ≡ true = grind (arith) in same) d.2;
    }
  where
    by : (b : Bool) (d : Listed) → b ≡ true → is_held l t d ≡ true → cond b (mark_by l t d) None ≡ Some mark.Add
    by b d e held = rw (e, held) refl

pub live-is : (index : Indexed) (l : Listing) (t : List ℕ) (tokens : List ℕ → List (List ℕ)) → IsListing tokens l → StandsFor index l
    → is_live l t ≡ true → HasPages index t ⊎ HasAdd index.marks t
live-is index l t tokens is stood live = by (list_any (λ (_ : Pair). true) (posted l t)) refl live
  where
    by : (b : Bool) → list_any (λ (_ : Pair). true) (posted l t) ≡ b → (b || list_any (is_held l t) l.documents) ≡ true
        → HasPages index t ⊎ HasAdd index.marks t
    by true e live = inl (has_pages index l t stood e)
    by false e live = inr (has_add index l t tokens is stood live)

-- ---- the first term with pages

above : (lists : List (List ℕ × List PageRef)) (x t : List ℕ) → AllByRecursion (λ y. slice_cmp nat_cmp x y ≡ Less) (keys_of lists)
    → IsSome (pages_at lists t) → by_bytes x t ≡ true
above [] x t all has = absurd (cc)
above (list ∷ lists) x t all has = by (bytes_eq t list.0) refl has (above lists x t all.1)
  where
    by : (b : Bool) → bytes_eq t list.0 ≡ b → IsSome (cond b (Some list.1) (pages_at lists t))
        → (IsSome (pages_at lists t) → by_bytes x t ≡ true) → by_bytes x t ≡ true
    by true e has more = ap (by_bytes x) (same_term t list.0 e) ∙ ap is_lt all.0
    by false e has more = more has

not_back : (x t : List ℕ) → by_bytes x t ≡ true → by_bytes t x ≡ false
not_back x t e = by (by_bytes t x) refl
  where
    by : (b : Bool) → by_bytes t x ≡ b → b ≡ false
    by false f = refl
    by true f = absurd (let yes : true ≡ false = sym (later_still x t x e f) ∙ not_before_itself x in cc)

-- it is behind, has pages, and no other that does so is before it
pub record IsFirst (lists : List (List ℕ × List PageRef)) (after : Option (List ℕ)) (x : List ℕ) : Type 0 where
  pub past : is_after after x ≡ true
  pub has : IsSome (pages_at lists x)
  pub least : (t : List ℕ) → is_after after t ≡ true → IsSome (pages_at lists t) → by_bytes t x ≡ false

is_first : (lists : List (List ℕ × List PageRef)) (after : Option (List ℕ)) (x : List ℕ) → Ascends lists → term_after lists after ≡ Some x
    → IsFirst lists after x
unfolding IsStrictlySortedBy
is_first [] after x up e = absurd (cc)
is_first (list ∷ lists) after x up e = by (is_after after list.0) refl e (is_first lists after x up.1)
  where
    same : bytes_eq list.0 list.0 ≡ true
    same = (bytes_eq-Decides list.0 list.0).1 refl

    by : (b : Bool) → is_after after list.0 ≡ b → cond b (Some list.0) (term_after lists after) ≡ Some x
        → (term_after lists after ≡ Some x → IsFirst lists after x) → IsFirst (list ∷ lists) after x
    by true past e more =
        let here : list.0 ≡ x = cc in
        subst (IsFirst (list ∷ lists) after) here (record {
          past = past;
          has = rw (same) refl;
          least = λ t behind has. least t (bytes_eq t list.0) refl has;
        })
      where
        least : (t : List ℕ) (b : Bool) → bytes_eq t list.0 ≡ b → IsSome (cond b (Some list.1) (pages_at lists t)) → by_bytes t list.0 ≡ false
        least t true f has = ap (λ (y : List ℕ). by_bytes y list.0) (same_term t list.0 f) ∙ not_before_itself list.0
        least t false f has = not_back list.0 t (above lists list.0 t up.0 has)
    by false past e more =
        let rest = more e in
        record {
          past = rest.past;
          has = some (bytes_eq x list.0) rest.has;
          least = λ t behind has. other t behind (bytes_eq t list.0) refl has rest;
        }
      where
        some : (b : Bool) → IsSome (pages_at lists x) → IsSome (cond b (Some list.1) (pages_at lists x))
        some true has = refl
        some false has = has

        other : (t : List ℕ) → is_after after t ≡ true → (b : Bool) → bytes_eq t list.0 ≡ b → IsSome (cond b (Some list.1) (pages_at lists t))
            → IsFirst lists after x → by_bytes t x ≡ false
        other t behind true f has rest =
            absurd (let no' : true ≡ false = sym behind ∙ ap (is_after after) (same_term t list.0 f) ∙ past in cc)
        other t behind false f has rest = rest.least t behind has

none_first : (lists : List (List ℕ × List PageRef)) (after : Option (List ℕ)) → term_after lists after ≡ None → (t : List ℕ)
    → is_after after t ≡ true → IsSome (pages_at lists t) → ⊥
none_first [] after e t behind has = absurd (cc)
none_first (list ∷ lists) after e t behind has =
    by (is_after after list.0) refl e (bytes_eq t list.0) refl has (λ f. none_first lists after f t behind)
  where
    by : (b : Bool) → is_after after list.0 ≡ b → cond b (Some list.0) (term_after lists after) ≡ None
        → (c : Bool) → bytes_eq t list.0 ≡ c → IsSome (cond c (Some list.1) (pages_at lists t))
        → (term_after lists after ≡ None → IsSome (pages_at lists t) → ⊥) → ⊥
    by true past e c f has more = absurd (cc)
    by false past e true f has more =
        absurd (let no' : true ≡ false = sym behind ∙ ap (is_after after) (same_term t list.0 f) ∙ past in cc)
    by false past e false f has more = more e has

-- ---- the lesser of both is the first live one

is_past : (after : Option (List ℕ)) (t : List ℕ) → IsAfter after t → is_after after t ≡ true
is_past None t e = refl
is_past (Some before) t e = ap is_lt e

from_past : (after : Option (List ℕ)) (t : List ℕ) → is_after after t ≡ true → IsAfter after t
from_past None t e = tt
from_past (Some before) t e = by (slice_cmp nat_cmp before t) e
  where
    by : (o : Ordering) → is_lt o ≡ true → o ≡ Less
    by Less f = refl
    by Equal f = absurd (cc)
    by Greater f = absurd (cc)

no_less : (t y : List ℕ) → (slice_cmp nat_cmp t y ≡ Less → ⊥) → by_bytes t y ≡ false
no_less t y none = by (slice_cmp nat_cmp t y) refl
  where
    by : (o : Ordering) → slice_cmp nat_cmp t y ≡ o → is_lt o ≡ false
    by Less e = absurd (none e)
    by Equal e = refl
    by Greater e = refl

-- the first with an Add, as the first with pages
record IsFirstAdd (index : Indexed) (after : Option (List ℕ)) (y : List ℕ) : Type 0 where
  past : is_after after y ≡ true
  has : HasAdd index.marks y
  least : (t : List ℕ) → is_after after t ≡ true → HasAdd index.marks t → by_bytes t y ≡ false

first_add : (index : Indexed) (after : Option (List ℕ)) (y : List ℕ) → IsNextTerm index.marks after (Some y) → IsFirstAdd index after y
first_add index after y next = record {
  past = is_past after y next.here.0;
  has = next.here.1;
  least = λ t behind add. no_less t y (next.first t (from_past after t behind) add);
}

none_add : (index : Indexed) (after : Option (List ℕ)) → IsNextTerm index.marks after None → (t : List ℕ) → is_after after t ≡ true
    → HasAdd index.marks t → ⊥
none_add index after next t behind add =
    let some : IsSome {T = List ℕ} None = next.some t (from_past after t behind) add in absurd (cc)

-- what is not before one of two is not before the lesser
not_lesser : (t a b : List ℕ) → by_bytes t a ≡ false → by_bytes b a ≡ true → by_bytes t b ≡ false
not_lesser t a b e less = by (by_bytes t b) refl
  where
    by : (c : Bool) → by_bytes t b ≡ c → c ≡ false
    by false f = refl
    by true f = absurd (let yes : true ≡ false = sym (later_still t b a f less) ∙ e in cc)

not_lower : (t a b : List ℕ) → by_bytes t b ≡ false → by_bytes b a ≡ false → by_bytes t a ≡ false
not_lower t a b e low = by (by_bytes t a) refl
  where
    two : (c : Bool) → bytes_eq a b ≡ c → by_bytes t a ≡ true → true ≡ false
    two true same f = sym f ∙ ap (by_bytes t) (same_term a b same) ∙ e
    two false differ f = sym (later_still t a b f (one_first a b differ low)) ∙ e

    by : (c : Bool) → by_bytes t a ≡ c → c ≡ false
    by false f = refl
    by true f = two (bytes_eq a b) refl f

module _ (index : Indexed) (l : Listing) (after : Option (List ℕ)) (tokens : List ℕ → List (List ℕ)) (is : IsListing tokens l)
    (stood : StandsFor index l) (paged : HavePages index.pages) (up : Ascends index.pages) where
  with_pages : (x : List ℕ) → IsFirst index.pages after x → is_live l x ≡ true
  with_pages x first = live-pages index l x is.in_order stood paged first.has

  least_of : (z : List ℕ)
      → ((t : List ℕ) → is_after after t ≡ true → HasPages index t → by_bytes t z ≡ false)
      → ((t : List ℕ) → is_after after t ≡ true → HasAdd index.marks t → by_bytes t z ≡ false)
      → (t : List ℕ) → is_after after t ≡ true → is_live l t ≡ true → by_bytes t z ≡ false
  least_of z pages adds t behind live = by (live-is index l t tokens is stood live)
    where
      by : HasPages index t ⊎ HasAdd index.marks t → by_bytes t z ≡ false
      by (inl has) = pages t behind has
      by (inr add) = adds t behind add

  pub next-live : (a b : Option (List ℕ)) → a ≡ term_after index.pages after → IsNextTerm index.marks after b
      → lesser_term a b ≡ slice_get (filter (is_after after) (live_terms l)) 0
  next-live None None e next =
      sym (none-live l after (λ t behind live. by t behind (live-is index l t tokens is stood live)))
    where
      by : (t : List ℕ) → is_after after t ≡ true → HasPages index t ⊎ HasAdd index.marks t → ⊥
      by t behind (inl has) = none_first index.pages after (sym e) t behind has
      by t behind (inr add) = none_add index after next t behind add
  next-live None (Some y) e next =
      let add = first_add index after y next in
      sym (first-live l after y add.past (live-add index l y stood add.has)
      (least_of y (λ t behind has. absurd (none_first index.pages after (sym e) t behind has)) add.least))
  next-live (Some x) None e next =
      let first = is_first index.pages after x up (sym e) in
      sym (first-live l after x first.past (with_pages x first)
      (least_of x first.least (λ t behind add. absurd (none_add index after next t behind add))))
  next-live (Some x) (Some y) e next = by (by_bytes y x) refl
    where
      first : IsFirst index.pages after x
      first = is_first index.pages after x up (sym e)

      add : IsFirstAdd index after y
      add = first_add index after y next

      by : (c : Bool) → by_bytes y x ≡ c → cond c (Some y) (Some x) ≡ slice_get (filter (is_after after) (live_terms l)) 0
      by true less =
          sym (first-live l after y add.past (live-add index l y stood add.has)
          (least_of y (λ t behind has. not_lesser t x y (first.least t behind has) less) add.least))
      by false low =
          sym (first-live l after x first.past (with_pages x first)
          (least_of x first.least (λ t behind has. not_lower t x y (add.least t behind has) low)))
