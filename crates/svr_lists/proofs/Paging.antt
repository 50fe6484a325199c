-- Pages of one term in bytes, one behind the other.
use Rattle.std.proofs.Common.{◌≡◌, ℕ, zero, suc, ◌+◌, ◌-◌, ◌*◌, ◌<◌, ◌≤◌, ◌&&◌, Bool, true, false, cond, nat_le, List, [], ◌∷◌, ◌++◌}
use Rattle.std.proofs.Common.{length, take, drop, reverse}
use Rattle.std.proofs.Common.{Option, Some, None, option_map, slice_get, refl, ap, ap₂, sym, subst, ◌∙◌, arith, append_assoc, append-nil}
use Rattle.std.proofs.Common.{length-append, length-drop, take-append-drop}
use Rattle.std.specs.List.{list_all}
use Rattle.std.specs.Option.{option_and_then}
use Rattle.std.proofs.lemmas.Bool.{and_parts}
use Rattle.std.proofs.lemmas.List.{drop-append-le, drop_at, reverse-append, take-append-le, take_at}
use Rattle.svr_listing.specs.declared.pages.Page.{Page}
use Rattle.svr_listing.specs.Merges.{page_at}
use Rattle.svr_postpage.specs.declared.page_ref.PageRef.{PageRef}
use Rattle.svr_postpage.specs.declared.pair.Pair.{Pair}
use Rattle.svr_postpage.specs.Pages.{page_in, pairs_of, pairs_or_none}
use Rattle.svr_postpage.specs.Pairs.{are_in_order, fill_a_page, first_pair, is_before, is_in_range, ref_of}
use Rattle.svr_postpage.proofs.Spelling.{page_bytes-page_in}
use Rattle.svr_merge.proofs.Paged.{BeginInOrder, before_later, begin-more, begin-none}
use Rattle.svr_lists.specs.Layout.{all_before, first_of, heads_of, ref_before}
use Rattle.svr_lists.specs.Taken.{are_before, page_onto, pages_in}

-- ---- one page

-- where the last one of pairs in order stands before another one, all do
last-tells : (ps : List Pair) (i : ℕ) (last next : Pair) → are_in_order ps ≡ true → length ps ≡ suc i → slice_get ps i ≡ Some last
    → is_before last next ≡ list_all (λ p. is_before p next) ps
last-tells [] i last next order count at = absurd (omega (arith, count))
last-tells (p ∷ []) zero last next order count at = let same : p ≡ last = cc in by (is_before p next) refl same
  where
    by : (b : Bool) → is_before p next ≡ b → p ≡ last → is_before last next ≡ (is_before p next && true)
    by true e same = rw e (subst (λ (x : Pair). is_before x next ≡ true) same e)
    by false e same = rw e (subst (λ (x : Pair). is_before x next ≡ false) same e)
last-tells (p ∷ []) (suc i) last next order count at = absurd (omega (arith, count))
last-tells (p ∷ q ∷ ps) zero last next order count at = absurd (omega (arith, count))
last-tells (p ∷ q ∷ ps) (suc i) last next order count at =
    let parts = and_parts (is_before p q) (are_in_order (q ∷ ps)) order in
    let more = last-tells (q ∷ ps) i last next parts.1 (omega (arith, count)) at in
    more ∙ by (list_all (λ x. is_before x next) (q ∷ ps)) refl parts.0
  where
    by : (b : Bool) → list_all (λ x. is_before x next) (q ∷ ps) ≡ b → is_before p q ≡ true
        → list_all (λ x. is_before x next) (q ∷ ps) ≡ (is_before p next && list_all (λ x. is_before x next) (q ∷ ps))
    by false e first = rw e (sym (no (is_before p next)))
      where
        no : (c : Bool) → (c && false) ≡ false
        no true = refl
        no false = refl
    by true e first =
        let here : is_before q next ≡ true = (and_parts (is_before q next) (list_all (λ x. is_before x next) ps) e).0 in
        rw (before_later p q next first here) refl

-- of pairs in order those of a page stand before the first one behind
pub all-before : (n : ℕ) (ps : List Pair) (r : Pair) (rest : List Pair) → are_in_order ps ≡ true → drop n ps ≡ r ∷ rest
    → list_all (λ p. is_before p r) (take n ps) ≡ true
all-before zero ps r rest order e = refl
all-before (suc n) [] r rest order e = refl
all-before (suc n) (p ∷ []) r rest order e = absurd (omega (arith, length-drop {A = Pair} n [], ap (λ (l : List Pair). length l) e))
all-before (suc zero) (p ∷ q ∷ ps) r rest order e =
    let same : q ≡ r = cc in
    subst (λ (x : Pair). list_all (λ y. is_before y x) (p ∷ []) ≡ true) same (rw (and_parts (is_before p q) (are_in_order (q ∷ ps)) order).0 refl)
all-before (suc (suc n)) (p ∷ q ∷ ps) r rest order e =
    let parts = and_parts (is_before p q) (are_in_order (q ∷ ps)) order in
    let more : (is_before q r && list_all (λ x. is_before x r) (take n ps)) ≡ true = all-before (suc n) (q ∷ ps) r rest parts.1 e in
    let here = and_parts (is_before q r) (list_all (λ x. is_before x r) (take n ps)) more in
    rw (before_later p q r parts.0 here.0) more

order-page : (ps : List Pair) → fill_a_page ps ≡ true → are_in_order ps ≡ true
order-page ps fill =
    let more : (nat_le (length ps) 255 && (list_all is_in_range ps && are_in_order ps)) ≡ true = (and_parts _ _ fill).1 in
    let both : (list_all is_in_range ps && are_in_order ps) ≡ true = (and_parts _ _ more).1 in
    (and_parts _ _ both).1

range-page : (ps : List Pair) → fill_a_page ps ≡ true → list_all is_in_range ps ≡ true
range-page ps fill =
    let more : (nat_le (length ps) 255 && (list_all is_in_range ps && are_in_order ps)) ≡ true = (and_parts _ _ fill).1 in
    let both : (list_all is_in_range ps && are_in_order ps) ≡ true = (and_parts _ _ more).1 in
    (and_parts _ _ both).0

order-pairs_of : (bytes : List ℕ) → are_in_order (pairs_of bytes) ≡ true
order-pairs_of bytes = by (page_in bytes) refl
  where
    by : (o : Option (List Pair)) → page_in bytes ≡ o → are_in_order (pairs_or_none o) ≡ true
    by None e = refl
    by (Some ps) e = order-page ps (page_bytes-page_in bytes ps e).0

pub last-before : (bytes : List ℕ) (count i : ℕ) (last next : Pair) → count ≡ length (pairs_of bytes) → count ≡ suc i
    → slice_get (pairs_of bytes) i ≡ Some last → is_before last next ≡ all_before (pairs_of bytes) (Some next)
last-before bytes count i last next all one at =
    last-tells (pairs_of bytes) i last next (order-pairs_of bytes) (sym all ∙ one) at

-- a page that was read, by the test of its last pair
pub ref-read : (at : ℕ) (next : Option Pair) (o : Option (List Pair)) (ref : PageRef) (b : Bool) → option_map (ref_of at) o ≡ Some ref
    → b ≡ all_before (pairs_or_none o) next → ref_before at next o ≡ cond b (Some ref) None
ref-read at next None ref b read is = absurd (cc)
ref-read at next (Some ps) ref b read is =
    ap (λ (c : Bool). cond c (Some (ref_of at ps)) None) (sym is) ∙ ap (λ (o : Option PageRef). cond b o None) read

pub ref-none : (at : ℕ) (next : Option Pair) (o : Option (List Pair)) → o ≡ None → ref_before at next o ≡ None
ref-none at next o none = rw none refl

-- ---- one page in front of others

pub step-is : (at there n : ℕ) (page behind : List ℕ) → length page ≡ 4096 → at + 4096 ≡ there
    → pages_in at (suc n) (page ++ behind)
    ≡ option_and_then (λ pairs. option_and_then (page_onto at pairs) (pages_in there n behind)) (page_in page)
unfolding pages_in
step-is at there n page behind long is =
    ap₂ (λ (bs : List ℕ) (r : Option (List Page)). option_and_then (λ pairs. option_and_then (page_onto at pairs) r) (page_in bs))
    (take_at page behind 4096 long)
    (ap₂ (λ (a : ℕ) (bs : List ℕ). pages_in a n bs) is (drop_at page behind 4096 long))

before-same : (pairs : List Pair) (all : List Page) → all_before pairs (first_of all) ≡ are_before pairs all
before-same pairs [] = refl
before-same pairs (page ∷ pages) = refl

-- a page whose pairs stand before the first one behind them goes in front
pub record GoesInFront (at n : ℕ) (bytes : List ℕ) (all : List Page) (ref : PageRef) : Type 0 where
  pub page : Page
  pub head_is : page.head ≡ ref
  pub pages : pages_in at (suc n) bytes ≡ Some (page ∷ all)

goes-in_front : (at there n : ℕ) (page behind : List ℕ) (all : List Page) (next : Option Pair) (ref : PageRef) → length page ≡ 4096
    → at + 4096 ≡ there → pages_in there n behind ≡ Some all → next ≡ first_of all → ref_before at next (page_in page) ≡ Some ref
    → GoesInFront at n (page ++ behind) all ref
goes-in_front at there n page behind all next ref long is pages first read = by (page_in page) refl read
  where
    step : pages_in at (suc n) (page ++ behind) ≡ option_and_then (λ pairs. page_onto at pairs all) (page_in page)
    step =
        step-is at there n page behind long is
        ∙ ap (λ (r : Option (List Page)). option_and_then (λ pairs. option_and_then (page_onto at pairs) r) (page_in page)) pages

    there_is : (ps : List Pair) (b : Bool) → are_before ps all ≡ b → page_in page ≡ Some ps → cond b (Some (ref_of at ps)) None ≡ Some ref
        → GoesInFront at n (page ++ behind) all ref
    there_is ps true e o r = record {
      page = page_at at ps;
      head_is = (let same : ref_of at ps ≡ ref = cc in same);
      pages = step ∙ ap (option_and_then (λ pairs. page_onto at pairs all)) o ∙ ap (λ (c : Bool). cond c (Some (page_at at ps ∷ all)) None) e;
    }
    there_is ps false e o r = absurd (cc)

    by : (o : Option (List Pair)) → page_in page ≡ o → ref_before at next o ≡ Some ref → GoesInFront at n (page ++ behind) all ref
    by None o r = absurd (cc)
    by (Some ps) o r =
        there_is ps (are_before ps all) refl o
        (ap (λ (c : Bool). cond c (Some (ref_of at ps)) None) (sym (ap (all_before ps) first ∙ before-same ps all)) ∙ r)

none-in_front : (at there n : ℕ) (page behind : List ℕ) (all : List Page) (next : Option Pair) → length page ≡ 4096
    → at + 4096 ≡ there → pages_in there n behind ≡ Some all → next ≡ first_of all → ref_before at next (page_in page) ≡ None
    → pages_in at (suc n) (page ++ behind) ≡ None
none-in_front at there n page behind all next long is pages first read =
    step-is at there n page behind long is
    ∙ ap (λ (r : Option (List Page)). option_and_then (λ pairs. option_and_then (page_onto at pairs) r) (page_in page)) pages
    ∙ by (page_in page) read
  where
    there_is : (ps : List Pair) (b : Bool) → are_before ps all ≡ b → cond b (Some (ref_of at ps)) None ≡ None
        → cond b (Some (page_at at ps ∷ all)) None ≡ None
    there_is ps true e r = absurd (cc)
    there_is ps false e r = refl

    by : (o : Option (List Pair)) → ref_before at next o ≡ None → option_and_then (λ pairs. page_onto at pairs all) o ≡ None
    by None r = refl
    by (Some ps) r =
        there_is ps (are_before ps all) refl
        (ap (λ (c : Bool). cond c (Some (ref_of at ps)) None) (sym (ap (all_before ps) first ∙ before-same ps all)) ∙ r)

-- where the last ones are no pages, all are none
none-behind : (k n m at there : ℕ) (front behind : List ℕ) → length front ≡ 4096 * k → m ≡ k + n → at + length front ≡ there
    → pages_in there n behind ≡ None → pages_in at m (front ++ behind) ≡ None
unfolding pages_in
none-behind zero n m at there [] behind long is place none =
    let count : n ≡ m = omega (arith, is) in
    let same : there ≡ at = omega (arith, place) in
    subst (λ (x : ℕ). pages_in x m behind ≡ None) same (subst (λ (x : ℕ). pages_in there x behind ≡ None) count none)
none-behind zero n m at there (b ∷ front) behind long is place none = absurd (omega (arith, long))
none-behind (suc k) n zero at there front behind long is place none = absurd (omega (arith, is))
none-behind (suc k) n (suc m) at there front behind long is place none =
    let enough : 4096 ≤ length front = omega (arith, long) in
    let short : length (drop 4096 front) ≡ 4096 * k = omega (arith, long, length-drop 4096 front) in
    let here : at + 4096 + length (drop 4096 front) ≡ there = omega (arith, long, place, length-drop 4096 front) in
    let rest : pages_in (at + 4096) m (drop 4096 (front ++ behind)) ≡ None =
    ap (pages_in (at + 4096) m) (drop-append-le 4096 front behind enough)
    ∙ none-behind k n m (at + 4096) there (drop 4096 front) behind short (omega (arith, is)) here none in
    ap (λ (r : Option (List Page)). option_and_then (λ pairs. option_and_then (page_onto at pairs) r) (page_in (take 4096 (front ++ behind)))) rest
    ∙ nothing (page_in (take 4096 (front ++ behind)))
  where
    nothing : (o : Option (List Pair)) → option_and_then (λ pairs. option_and_then (page_onto at pairs) None) o ≡ None
    nothing None = refl
    nothing (Some ps) = refl

-- pages are those of the bytes that they have
pub pages_in-front : (n at : ℕ) (front behind : List ℕ) → length front ≡ 4096 * n → pages_in at n (front ++ behind) ≡ pages_in at n front
unfolding pages_in
pages_in-front zero at front behind long = refl
pages_in-front (suc n) at front behind long =
    let enough : 4096 ≤ length front = omega (arith, long) in
    let short : length (drop 4096 front) ≡ 4096 * n = omega (arith, long, length-drop 4096 front) in
    ap₂ (λ (bs : List ℕ) (r : Option (List Page)). option_and_then (λ pairs. option_and_then (page_onto at pairs) r) (page_in bs))
    (take-append-le 4096 front behind enough)
    (ap (pages_in (at + 4096) n) (drop-append-le 4096 front behind enough) ∙ pages_in-front n (at + 4096) (drop 4096 front) behind short)

-- ---- from the last page to the first one

pub split-last : (rest front page : List ℕ) → front ≡ take (length rest - 4096) rest → page ≡ drop (length rest - 4096) rest
    → length front + 4096 ≡ length rest → (front ++ page ≡ rest) × (length page ≡ 4096)
split-last rest front page first last long = (
  ap₂ (λ (a b : List ℕ). a ++ b) first last ∙ take-append-drop (length rest - 4096) rest,
  omega (arith, ap (λ (bs : List ℕ). length bs) last, length-drop (length rest - 4096) rest, long),
)

-- the last pages were read, and the bytes in front of them are left
pub record AreReadBehind (at : ℕ) (bytes rest : List ℕ) (next : Option Pair) (refs : List PageRef) : Type 0 where
  pub behind : List ℕ
  pub all : List Page
  pub joined : rest ++ behind ≡ bytes
  pub long : length rest + 4096 * length refs ≡ length bytes
  pub pages : pages_in (at + length rest) (length refs) behind ≡ Some all
  pub first : next ≡ first_of all
  pub refs_are : heads_of all ≡ reverse refs

pub read-none : (at : ℕ) (bytes : List ℕ) → AreReadBehind at bytes bytes None []
unfolding pages_in
read-none at bytes = record {
  behind = [];
  all = [];
  joined = append-nil bytes;
  long = omega arith;
  pages = refl;
  first = refl;
  refs_are = refl;
}

-- the first pair of a page in front
first-head : (page : Page) (ref : PageRef) (all : List Page) → page.head ≡ ref
    → Some (record { key = ref.key; id = ref.id }) ≡ first_of (page ∷ all)
first-head page ref all is = ap (λ (r : PageRef). Some (record { key = r.key; id = r.id })) (sym is)

pub read-more : (at : ℕ) (bytes rest front page : List ℕ) (next : Option Pair) (refs : List PageRef) (ref : PageRef)
    → AreReadBehind at bytes rest next refs → front ++ page ≡ rest → length page ≡ 4096
    → ref_before (at + length front) next (page_in page) ≡ Some ref
    → AreReadBehind at bytes front (Some (record { key = ref.key; id = ref.id })) (refs ++ ref ∷ [])
read-more at bytes rest front page next refs ref was parts one read =
    let size : length front + 4096 ≡ length rest =
    omega (arith, length-append front page, ap (λ (bs : List ℕ). length bs) parts, one) in
    let place : at + length front + 4096 ≡ at + length rest = omega (arith, size) in
    let goes = goes-in_front (at + length front) (at + length rest) (length refs) page was.behind was.all next ref one place was.pages
    was.first read in
    let count : suc (length refs) ≡ length (refs ++ ref ∷ []) = omega (arith, length-append refs (ref ∷ [])) in
    record {
      behind = page ++ was.behind;
      all = goes.page ∷ was.all;
      joined = sym (append_assoc front page was.behind) ∙ ap (λ (bs : List ℕ). bs ++ was.behind) parts ∙ was.joined;
      long = omega (arith, was.long, size, count);
      pages = ap (λ (n : ℕ). pages_in (at + length front) n (page ++ was.behind)) (sym count) ∙ goes.pages;
      first = first-head goes.page ref was.all goes.head_is;
      refs_are = ap₂ (λ (r : PageRef) (rs : List PageRef). r ∷ rs) goes.head_is was.refs_are ∙ sym (reverse-append refs (ref ∷ []));
    }

pub read-bad : (at count : ℕ) (bytes rest front page : List ℕ) (next : Option Pair) (refs : List PageRef)
    → AreReadBehind at bytes rest next refs → front ++ page ≡ rest → length page ≡ 4096 → length bytes ≡ 4096 * count
    → ref_before (at + length front) next (page_in page) ≡ None → pages_in at count bytes ≡ None
read-bad at count bytes rest front page next refs was parts one whole read =
    let size : length front + 4096 ≡ length rest =
    omega (arith, length-append front page, ap (λ (bs : List ℕ). length bs) parts, one) in
    let place : at + length front + 4096 ≡ at + length rest = omega (arith, size) in
    let none = none-in_front (at + length front) (at + length rest) (length refs) page was.behind was.all next one place was.pages
    was.first read in
    let left : length front ≡ 4096 * (count - suc (length refs)) = omega (arith, was.long, size, whole) in
    let number : count ≡ (count - suc (length refs)) + suc (length refs) = omega (arith, was.long, size, whole) in
    subst (λ (bs : List ℕ). pages_in at count bs ≡ None)
    (sym (append_assoc front page was.behind) ∙ ap (λ (bs : List ℕ). bs ++ was.behind) parts ∙ was.joined)
    (none-behind (count - suc (length refs)) (suc (length refs)) count at (at + length front) front (page ++ was.behind) left number refl none)

pub read-all : (at count : ℕ) (bytes rest : List ℕ) (next : Option Pair) (refs : List PageRef) → AreReadBehind at bytes rest next refs
    → length rest < 4096 → length bytes ≡ 4096 * count → option_map heads_of (pages_in at count bytes) ≡ Some (reverse refs)
read-all at count bytes [] next refs was few whole =
    let number : length refs ≡ count = omega (arith, was.long, whole) in
    let place : at + length {A = ℕ} [] ≡ at = omega arith in
    let pages : pages_in at count bytes ≡ Some was.all =
    subst (λ (bs : List ℕ). pages_in at count bs ≡ Some was.all) was.joined
    (subst (λ (n : ℕ). pages_in at n was.behind ≡ Some was.all) number
    (subst (λ (a : ℕ). pages_in a (length refs) was.behind ≡ Some was.all) place was.pages)) in
    ap (option_map heads_of) pages ∙ ap (λ (l : List PageRef). Some l) was.refs_are
read-all at count bytes (b ∷ rest) next refs was few whole = absurd (omega (arith, was.long, whole, few))

-- ---- their heads

fits-read : (at : ℕ) (pairs : List Pair) (bytes : List ℕ) → page_in bytes ≡ Some pairs
    → (is_in_range (first_pair (ref_of at pairs)) ≡ true) × ((next : Pair) → list_all (λ p. is_before p next) pairs ≡ true
    → is_before (first_pair (ref_of at pairs)) next ≡ true)
fits-read at [] bytes is = absurd (let fill = (page_bytes-page_in bytes [] is).0 in cc)
fits-read at (p ∷ ps) bytes is =
    let all : list_all is_in_range (p ∷ ps) ≡ true = range-page (p ∷ ps) (page_bytes-page_in bytes (p ∷ ps) is).0 in (
      (and_parts (is_in_range p) (list_all is_in_range ps) all).0,
      λ next before. (and_parts (is_before p next) (list_all (λ x. is_before x next) ps) before).0,
    )

begin-onto : (at : ℕ) (bytes : List ℕ) (pairs : List Pair) (rest all : List Page) (b : Bool) → are_before pairs rest ≡ b
    → page_in bytes ≡ Some pairs → BeginInOrder (heads_of rest) → cond b (Some (page_at at pairs ∷ rest)) None ≡ Some all
    → BeginInOrder (heads_of all)
begin-onto at bytes pairs rest all false e read more is = absurd (cc)
begin-onto at bytes pairs rest all true e read more is =
    let fits = fits-read at pairs bytes read in
    let same : page_at at pairs ∷ rest ≡ all = cc in
    subst (λ (l : List Page). BeginInOrder (heads_of l)) same
    (begin-more (ref_of at pairs) (heads_of rest) fits.0 (λ next refs is. before rest next refs fits.1 e is) more)
  where
    before : (pages : List Page) (next : PageRef) (refs : List PageRef)
        → ((q : Pair) → list_all (λ p. is_before p q) pairs ≡ true → is_before (first_pair (ref_of at pairs)) q ≡ true)
        → are_before pairs pages ≡ true → heads_of pages ≡ next ∷ refs → is_before (first_pair (ref_of at pairs)) (first_pair next) ≡ true
    before [] next refs tells e is = absurd (cc)
    before (page ∷ pages) next refs tells e is =
        let same : page.head ≡ next = cc in
        subst (λ (r : PageRef). is_before (first_pair (ref_of at pairs)) (first_pair r) ≡ true) same (tells (first_pair page.head) e)

-- the pages of bytes begin as those of one term do
pub begin-pages_in : (n at : ℕ) (bytes : List ℕ) (all : List Page) → pages_in at n bytes ≡ Some all → BeginInOrder (heads_of all)
unfolding pages_in
begin-pages_in zero at bytes all is = let none : [] ≡ all = cc in subst (λ (l : List Page). BeginInOrder (heads_of l)) none begin-none
begin-pages_in (suc n) at bytes all is =
    by (page_in (take 4096 bytes)) (pages_in (at + 4096) n (drop 4096 bytes)) refl
    (λ rest p. begin-pages_in n (at + 4096) (drop 4096 bytes) rest p) is
  where
    by : (o : Option (List Pair)) (r : Option (List Page)) → page_in (take 4096 bytes) ≡ o
        → ((rest : List Page) → r ≡ Some rest → BeginInOrder (heads_of rest))
        → option_and_then (λ pairs. option_and_then (page_onto at pairs) r) o ≡ Some all → BeginInOrder (heads_of all)
    by None r o more is = absurd (cc)
    by (Some pairs) None o more is = absurd (cc)
    by (Some pairs) (Some rest) o more is =
        begin-onto at (take 4096 bytes) pairs rest all (are_before pairs rest) refl o (more rest refl) is

-- pages by what they are known by
pub known-pages : (refs : List PageRef) (o : Option (List Page)) → option_map heads_of o ≡ Some refs
    → (all : List Page) × (o ≡ Some all) × (heads_of all ≡ refs)
known-pages refs None is = absurd (cc)
known-pages refs (Some all) is = (all, refl, (let same : heads_of all ≡ refs = cc in same))
