-- A slice is made, term by term.
use Rattle.std.proofs.Common.{◌≡◌, ◌+◌, ◌*◌, ◌/◌, ◌<◌, ◌≤◌, ℕ, zero, suc, true, false, nat_le, List, [], ◌∷◌, ◌++◌, length, map, take, filter, Option}
use Rattle.std.proofs.Common.{Some, None, refl, ap, ap₂, sym, subst, ◌∙◌, arith, slice_get, append-nil, append_assoc, length-append}
use Rattle.std.specs.List.{AllByRecursion, flat_map}
use Rattle.std.proofs.lemmas.Bool.Decides.{nat_tests}
use Rattle.svr_tokens.specs.Tokens.{tokens_of}
use Rattle.svr_postpage.specs.declared.pair.Pair.{Pair}
use Rattle.svr_postpage.specs.Pages.{page_bytes}
use Rattle.svr_postpage.specs.Pairs.{fill_a_page}
use Rattle.svr_postpage.proofs.Spelling.{length-page_bytes}
use Rattle.svr_listing.specs.Listing.{documents_of, stands_by}
use Rattle.svr_listing.specs.Merges.{by_bytes, is_after, live_terms, terms_left}
use Rattle.svr_listing.proofs.Terms.{left-more}
use Rattle.svr_postpage.specs.Wanted.{pairs_told}
use Rattle.svr_index.specs.Index.{Indexed}
use Rattle.svr_index.specs.Terms.{IsNextLive}
use Rattle.svr_merge.specs.Images.{MayFillPages, page_parts, pages_bytes}
use Rattle.svr_merge.specs.Runs.{Run}
use Rattle.svr_merge.proofs.Paged.{fill-parts}
use Rattle.svr_lists.specs.Layout.{IsFrontOf, PutsBehind, PutsTerm, Slices, SlicesOn}
use Rattle.svr_lists.specs.Lists.{IsMergeOf, IsRunOf, ListsValue}
use Rattle.svr_lists.specs.Slices.{IsSliceBy, Slice, TermPages, pairs_under, slice_of, slice_with, sliced_term, taken_from}

-- ---- the pages of one term

length-parts : (parts : List (List Pair)) → AllByRecursion (λ part. fill_a_page part ≡ true) parts
    → length (flat_map page_bytes parts) ≡ 4096 * length parts
length-parts [] fill = refl
length-parts (part ∷ parts) fill =
    let more : length (flat_map page_bytes parts) ≡ 4096 * length parts = length-parts parts fill.1 in
    let few : length part ≤ 255 = few_in part fill.0 in
    let one : length (page_bytes part) ≡ 4096 = length-page_bytes part few in
    length-append (page_bytes part) (flat_map page_bytes parts) ∙ sum (length (page_bytes part)) (length (flat_map page_bytes parts)) (length parts) one more
  where
    few_in : (ps : List Pair) → fill_a_page ps ≡ true → length ps ≤ 255
    few_in ps e = grind (arith, nat_tests)

    sum : (a b n : ℕ) → a ≡ 4096 → b ≡ 4096 * n → a + b ≡ 4096 * suc n
    sum a b n e f = omega (arith, e, f)

pub length-pages : (ps : List Pair) → MayFillPages ps → length (pages_bytes ps) ≡ 4096 * length (page_parts ps)
length-pages ps may = length-parts (page_parts ps) (fill-parts (length ps) ps may)

pub puts : (pairs keyed : List Pair) (term made : List ℕ) (old new : List TermPages) (before after : List ℕ) → MayFillPages keyed
    → made ≡ pages_bytes keyed → keyed ≡ pairs → new ≡ old ++ (record { term = term; pages = length made / 4096 } ∷ [])
    → after ≡ before ++ made → PutsBehind term pairs old new before after
puts pairs keyed term made old new before after may is same terms pages =
    subst (λ (ps : List Pair). PutsBehind term ps old new before after) same (record {
      terms_are = terms ∙ ap (λ (n : ℕ). old ++ (record { term = term; pages = n } ∷ [])) count;
      pages_are = pages ∙ ap (λ (bs : List ℕ). before ++ bs) is;
      whole = long;
    })
  where
    long : length (pages_bytes keyed) ≡ 4096 * length (page_parts keyed)
    long = length-pages keyed may

    whole_pages : (n m : ℕ) → n ≡ 4096 * m → n / 4096 ≡ m
    whole_pages n m e = grind (arith)

    count : length made / 4096 ≡ length (page_parts keyed)
    count = whole_pages (length made) (length (page_parts keyed)) (ap (λ (bs : List ℕ). length bs) is ∙ long)

-- ---- one term after the other

front-none : (pairs : List ℕ → List Pair) (left : List (List ℕ)) → IsFrontOf pairs (slice_with pairs (taken_from pairs 0 left)) [] [] left
front-none pairs left = record { count = 0; whole = refl; terms_are = refl; pages_are = refl }

-- where a slice isn't full the next term is taken
pub front-goes : (pairs : List ℕ → List Pair) (all : Slice) (terms : List TermPages) (pages term : List ℕ) (left : List (List ℕ))
    → (front : IsFrontOf pairs all terms pages (term ∷ left)) → length pages < 4194304
    → taken_from pairs front.count (term ∷ left) ≡ term ∷ taken_from pairs (front.count + length (page_parts (pairs term))) left
front-goes pairs all terms pages term left front few = rw (not_full (length pages) front.count front.whole few) refl
  where
    not_full : (a n : ℕ) → a ≡ 4096 * n → a < 4194304 → nat_le 1024 n ≡ false
    not_full a n e lt = grind (arith, nat_tests)

front-more : (pairs : List ℕ → List Pair) (all : Slice) (terms new : List TermPages) (pages after term : List ℕ) (left : List (List ℕ))
    → IsFrontOf pairs all terms pages (term ∷ left) → length pages < 4194304 → PutsBehind term (pairs term) terms new pages after
    → IsFrontOf pairs all new after left
front-more pairs all terms new pages after term left front few puts = record {
  count = front.count + length (page_parts (pairs term));
  whole = ap (λ (bs : List ℕ). length bs) puts.pages_are ∙ length-append pages (pages_bytes (pairs term))
      ∙ sum (length pages) (length (pages_bytes (pairs term))) front.count (length (page_parts (pairs term))) front.whole puts.whole;
  terms_are = front.terms_are ∙ ap (λ (ts : List (List ℕ)). terms ++ map (λ t. sliced_term t (pairs t)) ts) goes_on
      ∙ sym (append_assoc terms (sliced_term term (pairs term) ∷ []) (map (λ t. sliced_term t (pairs t)) rest))
      ∙ ap (λ (ts : List TermPages). ts ++ map (λ t. sliced_term t (pairs t)) rest) (sym puts.terms_are);
  pages_are = front.pages_are ∙ ap (λ (ts : List (List ℕ)). pages ++ flat_map (λ t. pages_bytes (pairs t)) ts) goes_on
      ∙ sym (append_assoc pages (pages_bytes (pairs term)) (flat_map (λ t. pages_bytes (pairs t)) rest))
      ∙ ap (λ (bs : List ℕ). bs ++ flat_map (λ t. pages_bytes (pairs t)) rest) (sym puts.pages_are);
}
  where
    rest : List (List ℕ)
    rest = taken_from pairs (front.count + length (page_parts (pairs term))) left

    sum : (a b n m : ℕ) → a ≡ 4096 * n → b ≡ 4096 * m → a + b ≡ 4096 * (n + m)
    sum a b n m e f = omega (arith, e, f)

    goes_on : taken_from pairs front.count (term ∷ left) ≡ term ∷ rest
    goes_on = front-goes pairs all terms pages term left front few

-- where no more is taken, a slice is whole
front-all : (pairs : List ℕ → List Pair) (all made : Slice) (terms : List TermPages) (pages : List ℕ) (left : List (List ℕ))
    → (front : IsFrontOf pairs all terms pages left) → taken_from pairs front.count left ≡ [] → made.terms ≡ terms → made.pages ≡ pages
    → made ≡ all
front-all pairs all made terms pages left front none same_terms same_pages =
    ap₂ (λ (ts : List TermPages) (bs : List ℕ). record { terms = ts; pages = bs })
    (same_terms ∙ sym (front.terms_are ∙ ap (λ (ts : List (List ℕ)). terms ++ map (λ t. sliced_term t (pairs t)) ts) none ∙ append-nil terms))
    (same_pages ∙ sym (front.pages_are ∙ ap (λ (ts : List (List ℕ)). pages ++ flat_map (λ t. pages_bytes (pairs t)) ts) none ∙ append-nil pages))

taken-full : (pairs : List ℕ → List Pair) (n : ℕ) (left : List (List ℕ)) → 1024 ≤ n → taken_from pairs n left ≡ []
taken-full pairs n [] le = refl
taken-full pairs n (term ∷ left) le = let full : nat_le 1024 n ≡ true = grind (arith, nat_tests) in rw full refl

take-none : {A : Type 0} (n : ℕ) → ◌≡◌ {A = List A} (take n []) []
take-none zero = refl
take-none (suc n) = refl

-- ---- for each listing and merge

pub slices-none : (index : Indexed) (run : Run) (most still : ℕ) (bytes : List ℕ) (last : Option (List ℕ)) (terms : List TermPages)
    (pages : List ℕ) → last ≡ run.last → still ≡ most → terms ≡ [] → pages ≡ [] → SlicesOn index run most still bytes last terms pages
slices-none index run most still bytes last terms pages is_last all no_terms no_pages tokens l m is stood stands =
    subst (λ (ts : List TermPages). IsFrontOf pairs slice ts pages left) (sym no_terms)
    (subst (λ (bs : List ℕ). IsFrontOf pairs slice [] bs left) (sym no_pages)
    (subst (λ (n : ℕ). IsFrontOf pairs slice [] [] (take n (filter (is_after last) (live_terms l)))) (sym all)
    (subst (λ (x : Option (List ℕ)). IsFrontOf pairs slice [] [] (take most (filter (is_after x) (live_terms l)))) (sym (is_last ∙ stands.last))
    (front-none pairs (take most (terms_left l m))))))
  where
    pairs : List ℕ → List Pair
    pairs = pairs_under (stands_by (pairs_told bytes) l) l m

    slice : Slice
    slice = slice_of (stands_by (pairs_told bytes) l) l m most

    left : List (List ℕ)
    left = take still (filter (is_after last) (live_terms l))

pub slices-more : (index : Indexed) (run : Run) (most still less : ℕ) (bytes : List ℕ) (after : Option (List ℕ)) (term : List ℕ)
    (terms new : List TermPages) (pages behind : List ℕ) → still ≡ suc less → SlicesOn index run most still bytes after terms pages
    → IsNextLive index after (Some term) → length pages < 4194304 → PutsTerm index run term bytes terms new pages behind
    → SlicesOn index run most less bytes (Some term) new behind
slices-more index run most still less bytes after term terms new pages behind one on next few puts tokens l m is stood stands =
    by (filter (is_after after) (live_terms l)) refl (next tokens l is stood)
    (subst (λ (n : ℕ). IsFrontOf pairs all terms pages (take n (filter (is_after after) (live_terms l)))) one (on tokens l m is stood stands))
  where
    pairs : List ℕ → List Pair
    pairs = pairs_under (stands_by (pairs_told bytes) l) l m

    all : Slice
    all = slice_of (stands_by (pairs_told bytes) l) l m most

    by : (ts : List (List ℕ)) → filter (is_after after) (live_terms l) ≡ ts → Some term ≡ slice_get ts 0
        → IsFrontOf pairs all terms pages (take (suc less) ts)
        → IsFrontOf pairs all new behind (take less (filter (is_after (Some term)) (live_terms l)))
    by [] e n front = absurd (cc)
    by (t ∷ ts) e n front =
        let same : t ≡ term = cc in
        let rest : filter (by_bytes term) (live_terms l) ≡ ts =
        subst (λ (x : List ℕ). filter (by_bytes x) (live_terms l) ≡ ts) same
        (left-more l (record { rules = l.rules; keys = []; last = after; lists = [] }) t ts e) in
        subst (λ (x : List (List ℕ)). IsFrontOf pairs all new behind (take less x)) (sym rest)
        (front-more pairs all terms new pages behind term (take less ts)
        (subst (λ (x : List ℕ). IsFrontOf pairs all terms pages (x ∷ take less ts)) same front) few
        (puts l m is.documents.ascend stood stands))

-- a slice ends where it is full, where no term is left, or where so many were taken
pub slices-full : (index : Indexed) (run : Run) (most still : ℕ) (bytes : List ℕ) (after : Option (List ℕ)) (terms : List TermPages)
    (pages : List ℕ) (made : Slice) → SlicesOn index run most still bytes after terms pages → 4194304 ≤ length pages → made.terms ≡ terms
    → made.pages ≡ pages → Slices index run most bytes made
slices-full index run most still bytes after terms pages made on many same_terms same_pages tokens l m is stood stands =
    let front = on tokens l m is stood stands in
    front-all _ _ made terms pages _ front (taken-full _ front.count _ (full (length pages) front.count front.whole many)) same_terms same_pages
  where
    full : (a n : ℕ) → a ≡ 4096 * n → 4194304 ≤ a → 1024 ≤ n
    full a n e le = omega (arith, e, le)

pub slices-left : (index : Indexed) (run : Run) (most still : ℕ) (bytes : List ℕ) (after : Option (List ℕ)) (terms : List TermPages)
    (pages : List ℕ) (made : Slice) → SlicesOn index run most still bytes after terms pages → IsNextLive index after None
    → made.terms ≡ terms → made.pages ≡ pages → Slices index run most bytes made
slices-left index run most still bytes after terms pages made on next same_terms same_pages tokens l m is stood stands =
    by (filter (is_after after) (live_terms l)) (next tokens l is stood) (on tokens l m is stood stands)
  where
    by : (ts : List (List ℕ)) → None ≡ slice_get ts 0
        → IsFrontOf (pairs_under (stands_by (pairs_told bytes) l) l m) (slice_of (stands_by (pairs_told bytes) l) l m most) terms pages (take still ts)
        → made ≡ slice_of (stands_by (pairs_told bytes) l) l m most
    by [] n front =
        front-all _ _ made terms pages _ front
        (ap (λ (ts : List (List ℕ)). taken_from (pairs_under (stands_by (pairs_told bytes) l) l m) front.count ts) (take-none still))
        same_terms same_pages
    by (t ∷ ts) n front = absurd (cc)

pub slices-taken : (index : Indexed) (run : Run) (most still : ℕ) (bytes : List ℕ) (after : Option (List ℕ)) (terms : List TermPages)
    (pages : List ℕ) (made : Slice) → SlicesOn index run most still bytes after terms pages → still ≡ 0 → made.terms ≡ terms
    → made.pages ≡ pages → Slices index run most bytes made
slices-taken index run most still bytes after terms pages made on none same_terms same_pages tokens l m is stood stands =
    let front = on tokens l m is stood stands in
    front-all _ _ made terms pages _ front
    (ap (λ (n : ℕ). taken_from (pairs_under (stands_by (pairs_told bytes) l) l m) front.count (take n (filter (is_after after) (live_terms l)))) none)
    same_terms same_pages

-- lists make the slice that their run makes
pub slice-by : (v : ListsValue) (run : Run) (most : ℕ) (bytes : List ℕ) (slice : Slice) → v.merge ≡ Some run
    → Slices v.index run most bytes slice → IsSliceBy v most bytes slice
slice-by v run most bytes slice begun slices s m is stands merge =
    let is_run : IsRunOf (documents_of s.listing) run m =
    subst (IsMergeOf (documents_of s.listing) (Some run)) merge
    (subst (λ (o : Option Run). IsMergeOf (documents_of s.listing) o s.merge) begun stands.merge) in
    slices tokens_of s.listing m is.listing stands.index is_run.stands
