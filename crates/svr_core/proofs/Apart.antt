-- Pages that lie one behind the other are at different addresses, and different terms have different pages.
use Rattle.std.proofs.Common.{◌≡◌, ◌≤◌, ◌<◌, ◌+◌, ℕ, Bool, true, false, cond, List, [], ◌∷◌, ◌++◌, map, nat_eq, nat_le, refl, sym, ap, ◌∙◌, arith}
use Rattle.std.specs.Cmp.Lexicographic.{slice_cmp}
use Rattle.std.specs.List.{AllByRecursion, IsDistinct, filter, flat_map, sum_by}
use Rattle.std.specs.List.Sorted.{IsStrictlySortedBy}
use Rattle.std.specs.Option.{option_map_or}
use Rattle.std.specs.Ordering.{eq_by_cmp, nat_cmp}
use Rattle.std.specs.Str.{bytes_eq}
use Rattle.std.proofs.lemmas.Bool.Decides.{nat_tests}
use Rattle.std.proofs.lemmas.List.Sums.{sum_by-append, sum_by-cons}
use Rattle.std.proofs.lemmas.Map.Keys.{IsDistinct-from_sorted, IsDistinct-head, IsDistinct-tail}
use Rattle.std.proofs.lemmas.Map.Text.{is_eq-slice_cmp}
use Rattle.std.proofs.lemmas.Slice.Eq.{bytes_eq-Decides}
use Rattle.svr_listing.specs.Listing.{Listing, documents_of, last_key, pages_of, refs_of, score_in}
use Rattle.svr_listing.specs.declared.pages.Page.{Page}
use Rattle.svr_listing.specs.declared.pages.TermPages.{TermPages}
use Rattle.svr_num.specs.declared.mode.Mode.{Mode}
use Rattle.svr_postpage.specs.declared.page_ref.PageRef.{PageRef}
use Rattle.svr_core.specs.Pages.{LieInTurn, PagesStand, places_in}
use Rattle.svr_core.specs.Run.{pages_needed}

-- 1 for that address
abbrev pub is_place : ℕ → ℕ → ℕ
is_place a at = cond (nat_eq a at) 1 0

-- ---- one behind the other

none_before : (a from : ℕ) (places : List ℕ) → a < from → LieInTurn from places → sum_by (is_place a) places ≡ 0
none_before a from [] before lie = refl
none_before a from (at ∷ places) before lie =
    let rest = none_before a (at + 4096) places (omega (arith, before, lie.0)) lie.1 in
    let other : is_place a at ≡ 0 = let differ : a < at = omega (arith, before, lie.0) in grind (arith, nat_tests, differ) in
    omega (arith, sum_by-cons (is_place a) at places, rest, other)

one_page : (a from : ℕ) (places : List ℕ) → LieInTurn from places → sum_by (is_place a) places ≤ 1
one_page a from [] lie = omega arith
one_page a from (at ∷ places) lie = by (nat_eq a at) refl (one_page a (at + 4096) places lie.1)
  where
    by : (b : Bool) → nat_eq a at ≡ b → sum_by (is_place a) places ≤ 1 → sum_by (is_place a) (at ∷ places) ≤ 1
    by true is rest =
        let before : a < at + 4096 = grind (arith, nat_tests, is) in
        omega (arith, sum_by-cons (is_place a) at places, ap {B = ℕ} (λ (b : Bool). cond b 1 0) is, none_before a (at + 4096) places before lie.1)
    by false is rest = omega (arith, sum_by-cons (is_place a) at places, ap {B = ℕ} (λ (b : Bool). cond b 1 0) is, rest)

-- ---- by their terms

abbrev same_term : List ℕ → List ℕ → Bool
same_term a b = eq_by_cmp (slice_cmp nat_cmp) a b

same_term-is : (a b : List ℕ) → a ≡ b → same_term a b ≡ true
same_term-is a b is = is_eq-slice_cmp a b ∙ (bytes_eq-Decides a b).1 is

abbrev ats : List Page → List ℕ
ats pages = map (λ (page : Page). page.head.at) pages

-- the addresses of the pages of terms
abbrev under : List TermPages → List (List ℕ) → List ℕ
under lists terms = flat_map (λ (term : List ℕ). ats (pages_of lists term)) terms

module _ (f : ℕ → ℕ) where
  ats_append : (xs ys : List Page) → sum_by f (ats (xs ++ ys)) ≡ sum_by f (ats xs) + sum_by f (ats ys)
  ats_append [] ys = omega arith
  ats_append (x ∷ xs) ys = omega (arith, sum_by-cons f x.head.at (ats (xs ++ ys)), sum_by-cons f x.head.at (ats xs), ats_append xs ys)

  -- what a list weighs under a term
  abbrev weighs : TermPages → List ℕ → ℕ
  weighs list term = cond (bytes_eq term list.term) (sum_by f (ats list.pages)) 0

  weighs_is : (list : TermPages) (term : List ℕ) → sum_by f (ats (cond (bytes_eq term list.term) list.pages [])) ≡ weighs list term
  weighs_is list term = by (bytes_eq term list.term)
    where
      by : (b : Bool) → sum_by f (ats (cond b list.pages [])) ≡ cond b (sum_by f (ats list.pages)) 0
      by true = refl
      by false = refl

  under_none : (terms : List (List ℕ)) → sum_by f (under [] terms) ≡ 0
  under_none [] = refl
  under_none (term ∷ terms) = under_none terms

  under_cons : (list : TermPages) (lists : List TermPages) (terms : List (List ℕ))
      → sum_by f (under (list ∷ lists) terms) ≡ sum_by (weighs list) terms + sum_by f (under lists terms)
  under_cons list lists [] = refl
  under_cons list lists (term ∷ terms) = omega (
    arith,
    sum_by-append f (ats (pages_of (list ∷ lists) term)) (under (list ∷ lists) terms),
    sum_by-append f (ats (pages_of lists term)) (under lists terms),
    ats_append (cond (bytes_eq term list.term) list.pages []) (pages_of lists term),
    weighs_is list term,
    sum_by-cons (weighs list) term terms,
    under_cons list lists terms,
  )

  unweighed : (list : TermPages) (term : List ℕ) → bytes_eq term list.term ≡ true → (terms : List (List ℕ))
      → AllByRecursion (λ (y : List ℕ). same_term term y ≡ false) terms → sum_by (weighs list) terms ≡ 0
  unweighed list term is [] others = refl
  unweighed list term is (other ∷ terms) others =
      omega (arith, sum_by-cons (weighs list) other terms, unweighed list term is terms others.1, by (bytes_eq other list.term) refl)
    where
      by : (b : Bool) → bytes_eq other list.term ≡ b → weighs list other ≡ 0
      by true same =
          let equal : term ≡ other = (bytes_eq-Decides term list.term).0 is ∙ sym ((bytes_eq-Decides other list.term).0 same) in
          absurd (let e : true ≡ false = sym (same_term-is term other equal) ∙ others.0 in cc)
      by false same = ap (λ (b : Bool). cond b (sum_by f (ats list.pages)) 0) same

  weighs_once : (list : TermPages) (terms : List (List ℕ)) → IsDistinct same_term terms
      → sum_by (weighs list) terms ≤ sum_by f (ats list.pages)
  weighs_once list [] apart = omega arith
  weighs_once list (term ∷ terms) apart =
      by (bytes_eq term list.term) refl (weighs_once list terms (IsDistinct-tail same_term term terms apart))
    where
      by : (b : Bool) → bytes_eq term list.term ≡ b → sum_by (weighs list) terms ≤ sum_by f (ats list.pages)
          → sum_by (weighs list) (term ∷ terms) ≤ sum_by f (ats list.pages)
      by true is rest = omega (
        arith,
        sum_by-cons (weighs list) term terms,
        ap (λ (b : Bool). cond b (sum_by f (ats list.pages)) 0) is,
        unweighed list term is terms (IsDistinct-head same_term term terms apart),
      )
      by false is rest =
          omega (arith, sum_by-cons (weighs list) term terms, ap (λ (b : Bool). cond b (sum_by f (ats list.pages)) 0) is, rest)

  under_most : (lists : List TermPages) (terms : List (List ℕ)) → IsDistinct same_term terms
      → sum_by f (under lists terms) ≤ sum_by f (places_in lists)
  under_most [] terms apart = omega (arith, under_none terms)
  under_most (list ∷ lists) terms apart = omega (
    arith,
    under_cons list lists terms,
    weighs_once list terms apart,
    under_most lists terms apart,
    sum_by-append f (ats list.pages) (places_in lists),
  )

  -- the needed ones among them
  refs_are : (l : Listing) (terms : List (List ℕ)) → sum_by (λ (page : PageRef). f page.at) (refs_of l terms) ≡ sum_by f (under l.lists terms)
  refs_are l [] = refl
  refs_are l (term ∷ terms) = omega (
    arith,
    sum_by-append (λ (page : PageRef). f page.at) (map (λ (page : Page). page.head) (pages_of l.lists term)) (refs_of l terms),
    sum_by-append f (ats (pages_of l.lists term)) (under l.lists terms),
    heads_are (pages_of l.lists term),
    refs_are l terms,
  )
    where
      heads_are : (pages : List Page) → sum_by (λ (page : PageRef). f page.at) (map (λ (page : Page). page.head) pages) ≡ sum_by f (ats pages)
      heads_are [] = refl
      heads_are (page ∷ pages) = omega (
        arith,
        sum_by-cons (λ (page : PageRef). f page.at) page.head (map (λ (page : Page). page.head) pages),
        sum_by-cons f page.head.at (ats pages),
        heads_are pages,
      )

  some_of : (p : PageRef → Bool) (pages : List PageRef)
      → sum_by f (map (λ (page : PageRef). page.at) (filter p pages)) ≤ sum_by (λ (page : PageRef). f page.at) pages
  some_of p [] = omega arith
  some_of p (page ∷ pages) = by (p page) (some_of p pages)
    where
      by : (b : Bool)
          → sum_by f (map (λ (page : PageRef). page.at) (filter p pages)) ≤ sum_by (λ (page : PageRef). f page.at) pages
          → sum_by f (map (λ (page : PageRef). page.at) (cond b (page ∷ filter p pages) (filter p pages)))
          ≤ sum_by (λ (page : PageRef). f page.at) (page ∷ pages)
      by true rest = omega (
        arith,
        rest,
        sum_by-cons f page.at (map (λ (page : PageRef). page.at) (filter p pages)),
        sum_by-cons (λ (page : PageRef). f page.at) page pages,
      )
      by false rest = omega (arith, rest, sum_by-cons (λ (page : PageRef). f page.at) page pages)

-- ---- none twice

none_there : (x : ℕ) (xs : List ℕ) → sum_by (is_place x) xs ≡ 0 → AllByRecursion (λ (y : ℕ). nat_eq x y ≡ false) xs
none_there x [] none = tt
none_there x (y ∷ xs) none =
    let parts : is_place x y + sum_by (is_place x) xs ≡ 0 = sym (sum_by-cons (is_place x) y xs) ∙ none in
    (by (nat_eq x y) (omega (arith, parts)), none_there x xs (omega (arith, parts)))
  where
    by : (b : Bool) → ◌≡◌ {A = ℕ} (cond b 1 0) 0 → b ≡ false
    by true h = absurd (let e : ◌≡◌ {A = ℕ} 1 0 = h in cc)
    by false h = refl

distinct-by_weights : (xs : List ℕ) → ((a : ℕ) → sum_by (is_place a) xs ≤ 1) → IsDistinct nat_eq xs
unfolding IsDistinct
distinct-by_weights [] once = tt
distinct-by_weights (x ∷ xs) once =
    let self : is_place x x ≡ 1 = grind (arith, nat_tests) in (
      none_there x xs (omega (arith, once x, sum_by-cons (is_place x) x xs, self)),
      distinct-by_weights xs (λ a. omega (arith, once a, sum_by-cons (is_place a) x xs)),
    )

-- addresses that weigh no more than those of the pages that a search needs are different ones
pub needed-once : (bodies : List (List ℕ)) (l : Listing) → PagesStand bodies l.lists → (terms : List (List ℕ))
    → IsStrictlySortedBy (slice_cmp nat_cmp) terms → (m : Mode) (k : ℕ) (reads : List ℕ)
    → ((weight : ℕ → ℕ) → sum_by weight reads ≤ sum_by weight (map (λ page. page.at) (pages_needed l terms m k))) → IsDistinct nat_eq reads
needed-once bodies l stand terms up m k reads few = distinct-by_weights reads (λ a. omega (
  arith,
  few (is_place a),
  some_of (is_place a) (λ ref. option_map_or (λ key. nat_le key ref.key) (last_key l terms m k (score_in (documents_of l))) false)
      (refs_of l terms),
  refs_are (is_place a) l terms,
  under_most (is_place a) l.lists terms (IsDistinct-from_sorted (slice_cmp nat_cmp) terms up),
  one_page a 0 (places_in l.lists) stand.in_turn,
))
