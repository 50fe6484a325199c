-- Where bytes hold the posted pairs, no posted page is damaged there.
use Rattle.std.proofs.Common.{◌≡◌, ◌≤◌, ℕ, Bool, true, false, cond, List, [], ◌∷◌, ◌++◌, map, filter, Option, Some, None, refl, ap, ◌∙◌, arith}
use Rattle.std.specs.List.{AllByRecursion, sum_by}
use Rattle.std.specs.Option.{is_some}
use Rattle.std.proofs.lemmas.List.Sums.{sum_by-append, sum_by-cons}
use Rattle.svr_listing.specs.Kept.{AreInOrder, BeginsRight, HoldsPosted, IsListing}
use Rattle.svr_listing.specs.declared.pages.Page.{Page}
use Rattle.svr_listing.specs.Listing.{Listing, pages_of, refs_of}
use Rattle.svr_postpage.specs.Pages.{bytes_at, page_in}
use Rattle.svr_postpage.specs.Pairs.{first_pair, ref_of}
use Rattle.svr_postpage.specs.Wanted.{damage_by_pairs, damage_in, has_head_of, pairs_told, pairs_with_head}
use Rattle.svr_postpage.specs.declared.page_ref.Damage.{Damage}
use Rattle.svr_postpage.specs.declared.page_ref.Damage.TheVariants as damage
use Rattle.svr_postpage.specs.declared.page_ref.PageRef.{PageRef}
use Rattle.svr_postpage.specs.declared.pair.Pair.{Pair}

-- ---- one page

none_from_pairs : (b : Bool) (why : Damage) (pairs : List Pair) (first : Pair) (rest : List Pair)
    → cond b pairs [] ≡ first ∷ rest → cond b None (Some why) ≡ None
none_from_pairs true why pairs first rest h = refl
none_from_pairs false why pairs first rest h = absurd (let e : [] ≡ first ∷ rest = h in cc)

by_pairs : (page : PageRef) (o : Option (List Pair)) (first : Pair) (rest : List Pair) → pairs_with_head page o ≡ first ∷ rest
    → damage_by_pairs page o ≡ None
by_pairs page None first rest h = absurd (let e : [] ≡ first ∷ rest = h in cc)
by_pairs page (Some pairs) first rest h =
    let found = ref_of page.at pairs in
    none_from_pairs (has_head_of page found) (damage.Head found.key found.id found.count) pairs first rest h

undamaged : (bytes : List ℕ) (page : Page) → BeginsRight page → pairs_told bytes page.head ≡ page.pairs
    → damage_in page.head (bytes_at bytes page.head.at) ≡ None
undamaged bytes page begins holds =
    by_pairs page.head (page_in (bytes_at bytes page.head.at)) (first_pair page.head) begins.0 (holds ∙ begins.1)

-- ---- all pages

abbrev one_if : Bool → ℕ
one_if true = 1
one_if false = 0

-- 1 for a page that is damaged in these bytes
abbrev pub damages : List ℕ → PageRef → ℕ
damages bytes page = one_if (is_some (damage_in page (bytes_at bytes page.at)))

none_of : (bytes : List ℕ) (page : PageRef) → damage_in page (bytes_at bytes page.at) ≡ None → damages bytes page ≡ 0
none_of bytes page none = ap (λ (o : Option Damage). one_if (is_some o)) none

some_of : (bytes : List ℕ) (page : PageRef) (why : Damage) → damage_in page (bytes_at bytes page.at) ≡ Some why → damages bytes page ≡ 1
some_of bytes page why some = ap (λ (o : Option Damage). one_if (is_some o)) some

none_in : (bytes : List ℕ) (pages : List Page) → AreInOrder pages
    → AllByRecursion (λ (page : Page). pairs_told bytes page.head ≡ page.pairs) pages
    → sum_by (damages bytes) (map (λ (page : Page). page.head) pages) ≡ 0
none_in bytes [] order all = refl
none_in bytes (page ∷ []) order all =
    omega (arith, sum_by-cons (damages bytes) page.head [], none_of bytes page.head (undamaged bytes page order all.0))
none_in bytes (page ∷ next ∷ pages) order all =
    omega (
      arith,
      sum_by-cons (damages bytes) page.head (map (λ (p : Page). p.head) (next ∷ pages)),
      none_of bytes page.head (undamaged bytes page order.0 all.0),
      none_in bytes (next ∷ pages) order.2 all.1,
    )

none_under : (tokens : List ℕ → List (List ℕ)) (bytes : List ℕ) (l : Listing) → IsListing tokens l → HoldsPosted (pairs_told bytes) l
    → (terms : List (List ℕ)) → sum_by (damages bytes) (refs_of l terms) ≡ 0
none_under tokens bytes l is holds [] = refl
none_under tokens bytes l is holds (term ∷ terms) =
    omega (
      arith,
      sum_by-append (damages bytes) (map (λ (page : Page). page.head) (pages_of l.lists term)) (refs_of l terms),
      none_in bytes (pages_of l.lists term) (is.in_order term) (holds term),
      none_under tokens bytes l is holds terms,
    )

filter_step : (f : PageRef → ℕ) (b : Bool) (page : PageRef) (some pages : List PageRef) → sum_by f some ≤ sum_by f pages
    → sum_by f (cond b (page ∷ some) some) ≤ sum_by f (page ∷ pages)
filter_step f true page some pages h = omega (arith, h, sum_by-cons f page some, sum_by-cons f page pages)
filter_step f false page some pages h = omega (arith, h, sum_by-cons f page pages)

fewer : (f : PageRef → ℕ) (p : PageRef → Bool) (pages : List PageRef) → sum_by f (filter p pages) ≤ sum_by f pages
fewer f p [] = omega arith
fewer f p (page ∷ pages) = filter_step f (p page) page (filter p pages) pages (fewer f p pages)

-- a page that was asked for among some posted ones isn't damaged
pub asked-undamaged : (tokens : List ℕ → List (List ℕ)) (bytes : List ℕ) (l : Listing) → IsListing tokens l → HoldsPosted (pairs_told bytes) l
    → (terms : List (List ℕ)) (p : PageRef → Bool) (given left others : List PageRef) (page : PageRef) (why : Damage)
    → sum_by (damages bytes) ((given ++ page ∷ left) ++ others) ≡ sum_by (damages bytes) (filter p (refs_of l terms))
    → damage_in page (bytes_at bytes page.at) ≡ Some why → ⊥
asked-undamaged tokens bytes l is holds terms p given left others page why same damaged =
    omega (
      arith,
      same,
      some_of bytes page why damaged,
      none_under tokens bytes l is holds terms,
      fewer (damages bytes) p (refs_of l terms),
      sum_by-append (damages bytes) (given ++ page ∷ left) others,
      sum_by-append (damages bytes) given (page ∷ left),
      sum_by-cons (damages bytes) page left,
    )

-- nor is one that was asked for among all posted ones of these terms
pub listed-undamaged : (tokens : List ℕ → List (List ℕ)) (bytes : List ℕ) (l : Listing) → IsListing tokens l → HoldsPosted (pairs_told bytes) l
    → (terms : List (List ℕ)) (given left others : List PageRef) (page : PageRef) (why : Damage)
    → (given ++ page ∷ left) ++ others ≡ refs_of l terms → damage_in page (bytes_at bytes page.at) ≡ Some why → ⊥
listed-undamaged tokens bytes l is holds terms given left others page why same damaged =
    omega (
      arith,
      ap (sum_by (damages bytes)) same,
      some_of bytes page why damaged,
      none_under tokens bytes l is holds terms,
      sum_by-append (damages bytes) (given ++ page ∷ left) others,
      sum_by-append (damages bytes) given (page ∷ left),
      sum_by-cons (damages bytes) page left,
    )
