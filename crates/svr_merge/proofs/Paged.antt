-- Pairs in page order, page by page.
use Rattle.std.proofs.Common.{◌≡◌, ◌<◌, ◌≤◌, ◌+◌, ◌++◌, ℕ, zero, suc, true, cond, List, [], ◌∷◌, length, map, take, drop}
use Rattle.std.proofs.Common.{nat_cmp, nat_le, nat_lt, refl, sym, ap, subst, ◌∙◌, arith, length-take, length-drop, min, ap₂, append_assoc, append-nil}
use Rattle.std.specs.Cmp.{IsTotalOrder, back_total, nat_cmp_total, on_total, then_total}
use Rattle.std.specs.List.{AllByRecursion, flat_map, list_all}
use Rattle.std.specs.List.Sorted.{IsPermutation, IsSorted}
use Rattle.std.proofs.lemmas.Bool.{and_from, and_parts}
use Rattle.std.proofs.lemmas.Bool.Decides.{nat_tests}
use Rattle.std.proofs.lemmas.List.{drop_min, take_min}
use Rattle.std.proofs.lemmas.Map.Lookups.{CmpEqualImpliesEq, exact_pairs, exact_unsigned}
use Rattle.svr_listing.specs.declared.pages.Page.{Page}
use Rattle.svr_listing.specs.Merges.{cut, in_page_order, pages_from, pages_with, with_pair}
use Rattle.svr_long.specs.Heads.{are_heads, heads, is_before_all}
use Rattle.svr_postpage.specs.declared.pair.Pair.{Pair}
use Rattle.svr_postpage.specs.Pages.{page_bytes}
use Rattle.svr_postpage.specs.declared.page_ref.PageRef.{PageRef}
use Rattle.svr_postpage.specs.Pairs.{are_in_order, fill_a_page, first_pair, is_before, is_in_range}
use Rattle.svr_merge.specs.Images.{MayFillPages, pages_bytes}
use Rattle.svr_merge.specs.Layout.{page_rank}
use Rattle.svr_merge.proofs.Sorting.{Tells, in_order, in_order-is, put}

-- ---- sorting

page_exact : CmpEqualImpliesEq page_rank
page_exact a b h =
    ap (λ (p : ℕ × ℕ). record { key = p.0; id = p.1 })
    (exact_pairs (λ x y. nat_cmp y x) nat_cmp (λ x y e. sym (exact_unsigned y x e)) exact_unsigned (a.key, a.id) (b.key, b.id) h)

pub page_total : IsTotalOrder page_rank
page_total = then_total (back_total (on_total (λ p. p.key) nat_cmp_total)) (on_total (λ p. p.id) nat_cmp_total)

by_page : Tells page_rank is_before
by_page = record {
  total = page_total;
  exact = page_exact;
  first = λ a b e. grind (arith, nat_tests);
  later = λ a b e. grind (arith, nat_tests);
}

with_pair-is : (p : Pair) (ps : List Pair) → with_pair p ps ≡ put is_before p ps
with_pair-is p [] = refl
with_pair-is p (q ∷ qs) = ap (λ (l : List Pair). cond (is_before p q) (p ∷ q ∷ qs) (q ∷ l)) (with_pair-is p qs)

in_page_order-is : (ps : List Pair) → in_page_order ps ≡ in_order is_before ps
in_page_order-is [] = refl
in_page_order-is (p ∷ ps) = with_pair-is p (in_page_order ps) ∙ ap (put is_before p) (in_page_order-is ps)

pub sorted-pairs : (xs ys : List Pair) → IsPermutation xs ys → IsSorted page_rank ys → ys ≡ in_page_order xs
sorted-pairs xs ys moved up = in_order-is page_rank is_before by_page xs ys moved up ∙ sym (in_page_order-is xs)

-- ---- the first page, and the others

all-take : (n : ℕ) (ps : List Pair) → list_all is_in_range ps ≡ true → list_all is_in_range (take n ps) ≡ true
all-take zero ps all = refl
all-take (suc n) [] all = refl
all-take (suc n) (p ∷ ps) all = let parts = and_parts (is_in_range p) (list_all is_in_range ps) all in rw parts.0 (all-take n ps parts.1)

all-drop : (n : ℕ) (ps : List Pair) → list_all is_in_range ps ≡ true → list_all is_in_range (drop n ps) ≡ true
all-drop zero ps all = all
all-drop (suc n) [] all = refl
all-drop (suc n) (p ∷ ps) all = all-drop n ps (and_parts (is_in_range p) (list_all is_in_range ps) all).1

order-take : (n : ℕ) (ps : List Pair) → are_in_order ps ≡ true → are_in_order (take n ps) ≡ true
order-take zero ps order = refl
order-take (suc n) [] order = refl
order-take (suc n) (p ∷ []) order = by n
  where
    by : (n : ℕ) → are_in_order (p ∷ take n []) ≡ true
    by zero = refl
    by (suc n) = refl
order-take (suc zero) (p ∷ q ∷ ps) order = refl
order-take (suc (suc n)) (p ∷ q ∷ ps) order =
    let parts = and_parts (is_before p q) (are_in_order (q ∷ ps)) order in rw parts.0 (order-take (suc n) (q ∷ ps) parts.1)

order-drop : (n : ℕ) (ps : List Pair) → are_in_order ps ≡ true → are_in_order (drop n ps) ≡ true
order-drop zero ps order = order
order-drop (suc n) [] order = refl
order-drop (suc n) (p ∷ []) order = by n
  where
    by : (n : ℕ) → are_in_order (drop n []) ≡ true
    by zero = refl
    by (suc n) = refl
order-drop (suc n) (p ∷ q ∷ ps) order = order-drop n (q ∷ ps) (and_parts (is_before p q) (are_in_order (q ∷ ps)) order).1

pub fill-first : (ps : List Pair) → 0 < length ps → MayFillPages ps → fill_a_page (take 255 ps) ≡ true
fill-first ps some may =
    let count : length (take 255 ps) ≡ min 255 (length ps) = length-take 255 ps in
    let one : nat_lt 0 (length (take 255 ps)) ≡ true = grind (arith, nat_tests, count, some) in
    let few : nat_le (length (take 255 ps)) 255 ≡ true = grind (arith, nat_tests, count) in
    rw (one, few, all-take 255 ps may.within, order-take 255 ps may.ordered) refl

pub may-rest : (n : ℕ) (ps : List Pair) → MayFillPages ps → MayFillPages (drop n ps)
may-rest n ps may = record { within = all-drop n ps may.within; ordered = order-drop n ps may.ordered }

-- any limit that is enough gives the same pages
cut-limits : (many a b : ℕ) (ps : List Pair) → length ps ≤ a → length ps ≤ b → cut (suc many) a ps ≡ cut (suc many) b ps
unfolding cut
cut-limits many zero zero [] le more = refl
cut-limits many zero (suc b) [] le more = refl
cut-limits many (suc a) zero [] le more = refl
cut-limits many (suc a) (suc b) [] le more = refl
cut-limits many zero b (p ∷ ps) le more = absurd (omega (arith, le))
cut-limits many (suc a) zero (p ∷ ps) le more = absurd (omega (arith, more))
cut-limits many (suc a) (suc b) (p ∷ ps) le more =
    ap (λ (l : List (List Pair)). (p ∷ take many ps) ∷ l)
    (cut-limits many a b (drop many ps) (omega (arith, length-drop many ps, le)) (omega (arith, length-drop many ps, more)))

one_more : (limit : ℕ) (p : Pair) (ps : List Pair) → cut 255 (suc limit) (p ∷ ps) ≡ take 255 (p ∷ ps) ∷ cut 255 limit (drop 255 (p ∷ ps))
unfolding cut
one_more limit p ps = refl

pub pages_bytes-step : (ps : List Pair) → 0 < length ps → pages_bytes ps ≡ page_bytes (take 255 ps) ++ pages_bytes (drop 255 ps)
pages_bytes-step [] some = absurd (omega (arith, some))
pages_bytes-step (p ∷ ps) some =
    ap (flat_map page_bytes) (
    cut-limits 254 (length (p ∷ ps)) (suc (length ps)) (p ∷ ps) (omega arith) (omega arith)
    ∙ one_more (length ps) p ps
    ∙ ap (λ (l : List (List Pair)). take 255 (p ∷ ps) ∷ l)
    (cut-limits 254 (length ps) (length (drop 255 (p ∷ ps))) (drop 255 (p ∷ ps)) (omega (arith, length-drop 254 ps)) (omega arith))
    )

pub no_pages : (ps : List Pair) → length ps ≡ 0 → pages_bytes ps ≡ []
unfolding cut
no_pages [] none = refl
no_pages (p ∷ ps) none = absurd (omega (arith, none))

-- ---- the loop

pub taken : (n : ℕ) (ps xs : List Pair) → n ≡ min (length ps) 255 → xs ≡ take n ps → xs ≡ take 255 ps
taken n ps xs least is =
    let same : n ≡ min 255 (length ps) = omega (arith, least) in is ∙ ap (λ (k : ℕ). take k ps) same ∙ take_min 255 ps

pub left : (n : ℕ) (ps xs : List Pair) → n ≡ min (length ps) 255 → xs ≡ drop n ps → xs ≡ drop 255 ps
left n ps xs least is =
    let same : n ≡ min 255 (length ps) = omega (arith, least) in is ∙ ap (λ (k : ℕ). drop k ps) same ∙ drop_min 255 ps

pub written : (before after all : List ℕ) (rest page others : List Pair) → 0 < length rest → after ≡ before ++ page_bytes page
    → page ≡ take 255 rest → others ≡ drop 255 rest → before ++ pages_bytes rest ≡ all → after ++ pages_bytes others ≡ all
written before after all rest page others some more first later is =
    ap₂ (λ (bs : List ℕ) (ps : List Pair). bs ++ pages_bytes ps) more later
    ∙ ap (λ (ps : List Pair). before ++ page_bytes ps ++ pages_bytes (drop 255 rest)) first
    ∙ append_assoc before (page_bytes (take 255 rest)) (pages_bytes (drop 255 rest))
    ∙ ap (λ (bs : List ℕ). before ++ bs) (sym (pages_bytes-step rest some)) ∙ is

pub all-written : (bytes all : List ℕ) (rest : List Pair) → length rest ≡ 0 → bytes ++ pages_bytes rest ≡ all → bytes ≡ all
all-written bytes all rest none is =
    sym (append-nil bytes) ∙ ap (λ (bs : List ℕ). bytes ++ bs) (sym (no_pages rest none)) ∙ is

-- ---- laws for callers

-- each part is one that a page may hold
pub fill-parts : (limit : ℕ) (ps : List Pair) → MayFillPages ps → AllByRecursion (λ part. fill_a_page part ≡ true) (cut 255 limit ps)
unfolding cut
fill-parts zero ps may = tt
fill-parts (suc limit) [] may = tt
fill-parts (suc limit) (p ∷ ps) may =
    (fill-first (p ∷ ps) (omega arith) may, fill-parts limit (drop 255 (p ∷ ps)) (may-rest 255 (p ∷ ps) may))

pub before_later : (a b c : Pair) → is_before a b ≡ true → is_before b c ≡ true → is_before a c ≡ true
before_later a b c e f = grind (arith, nat_tests)

first_before : (n : ℕ) (p : Pair) (ps : List Pair) (r : Pair) (rs : List Pair) → are_in_order (p ∷ ps) ≡ true → drop n ps ≡ r ∷ rs
    → is_before p r ≡ true
first_before zero p [] r rs order e = absurd (cc)
first_before zero p (q ∷ ps) r rs order e =
    let same : q ≡ r = cc in
    subst (λ (x : Pair). is_before p x ≡ true) same (and_parts (is_before p q) (are_in_order (q ∷ ps)) order).0
first_before (suc n) p [] r rs order e = absurd (cc)
first_before (suc n) p (q ∷ qs) r rs order e =
    let parts = and_parts (is_before p q) (are_in_order (q ∷ qs)) order in
    before_later p q r parts.0 (first_before n q qs r rs parts.1 e)

next_head : (place : ℕ → ℕ) (n limit : ℕ) (p : Pair) (rest : List Pair)
    → ((r : Pair) (rs : List Pair) → rest ≡ r ∷ rs → is_before p r ≡ true)
    → is_before_all p (heads (map (λ (page : Page). page.head) (pages_from place n (cut 255 limit rest)))) ≡ true
unfolding cut
next_head place n zero p rest first = refl
next_head place n (suc limit) p [] first = refl
next_head place n (suc limit) p (r ∷ rs) first = first r rs refl

heads-cut : (place : ℕ → ℕ) (n limit : ℕ) (ps : List Pair) → MayFillPages ps
    → are_heads (map (λ (page : Page). page.head) (pages_from place n (cut 255 limit ps))) ≡ true
unfolding cut
heads-cut place n zero ps may = refl
heads-cut place n (suc limit) [] may = refl
heads-cut place n (suc limit) (p ∷ ps) may =
    let here : is_in_range p ≡ true = (and_parts (is_in_range p) (list_all is_in_range ps) may.within).0 in
    and_from _ _ here (and_from _ _
    (next_head place (n + 1) limit p (drop 254 ps) (λ r rs e. first_before 254 p ps r rs may.ordered e))
    (heads-cut place (n + 1) limit (drop 255 (p ∷ ps)) (may-rest 255 (p ∷ ps) may)))

-- the pages of pairs begin as pages of one term do
pub heads-pages_with : (place : ℕ → ℕ) (n : ℕ) (ps : List Pair) → MayFillPages ps
    → are_heads (map (λ page. page.head) (pages_with place n ps)) ≡ true
unfolding pages_with
heads-pages_with place n ps may = heads-cut place n (length ps) ps may

-- ---- pages that begin as those of one term do

-- the first pairs of pages are within their ranges and in page order
abbrev pub BeginInOrder : List PageRef → Type 0
BeginInOrder pages = are_heads pages ≡ true

pub begin-none : BeginInOrder []
begin-none = refl

-- one more in front, whose first pair stands before the next one
pub begin-more : (ref : PageRef) (refs : List PageRef) → is_in_range (first_pair ref) ≡ true
    → ((next : PageRef) (rest : List PageRef) → refs ≡ next ∷ rest → is_before (first_pair ref) (first_pair next) ≡ true)
    → BeginInOrder refs → BeginInOrder (ref ∷ refs)
begin-more ref [] within before more = rw within refl
begin-more ref (next ∷ refs) within before more = rw within (rw (before next refs refl) more)
