-- A slice is taken, term by term.
use Rattle.std.proofs.Common.{◌≡◌, ℕ, zero, suc, ◌+◌, ◌*◌, ◌<◌, ◌≤◌, ◌&&◌, Bool, true, false, cond, nat_le, List, [], ◌∷◌, ◌++◌, length}
use Rattle.std.proofs.Common.{map, take, drop, filter}
use Rattle.std.proofs.Common.{get_or, Option, Some, None, option_map, refl, ap, ap₂, sym, subst, ◌∙◌, arith, append_assoc, append-nil}
use Rattle.std.proofs.Common.{length-append, length-take}
use Rattle.std.proofs.Common.{IsSome}
use Rattle.std.proofs.Math.Numerals.{add-one}
use Rattle.std.specs.List.{AllByRecursion, flat_map}
use Rattle.std.specs.Option.{option_and_then}
use Rattle.std.proofs.Math.Seq.{drop-cons}
use Rattle.std.proofs.lemmas.Bool.{and_parts}
use Rattle.std.proofs.lemmas.List.{drop_all, drop_at}
use Rattle.std.proofs.lemmas.List.Sums.{sum_by-cons}
use Rattle.svr_tokens.specs.Tokens.{tokens_of}
use Rattle.svr_listing.specs.declared.document.Document.{Document}
use Rattle.svr_listing.specs.declared.document.Listed.{Listed}
use Rattle.svr_listing.specs.declared.pages.Page.{Page}
use Rattle.svr_listing.specs.declared.pages.TermPages as listing
use Rattle.svr_listing.specs.Bounds.{Rises}
use Rattle.svr_listing.specs.Kept.{Ascends}
use Rattle.svr_listing.specs.Listing.{Listing, documents_of, is_effective}
use Rattle.svr_listing.specs.Merges.{Merge, cut, ids_under, is_after, new_pairs, page_at, pages_from, pages_with, sliced, terms_left, with_term}
use Rattle.svr_listing.specs.Merges.{with_terms as merge_with}
use Rattle.svr_listing.specs.Served.{IsServed, Served, after, merge_slice}
use Rattle.svr_postpage.specs.declared.page_ref.PageRef.{PageRef}
use Rattle.svr_postpage.specs.declared.pair.Pair.{Pair}
use Rattle.svr_postpage.specs.Pages.{page_bytes}
use Rattle.svr_postpage.specs.Pairs.{fill_a_page}
use Rattle.svr_postpage.proofs.Spelling.{length-page_bytes, page_in-page_bytes}
use Rattle.svr_record.specs.declared.record.TermPages.{TermPages}
use Rattle.svr_record.specs.Limits.{page_count}
use Rattle.svr_index.specs.Index.{Indexed}
use Rattle.svr_merge.specs.Images.{MayFillPages, page_parts, pages_bytes}
use Rattle.svr_merge.specs.Runs.{HaveKeys, Run, StandsForMerge}
use Rattle.svr_merge.proofs.Imaged.{may_fill-rising, pairs-stand}
use Rattle.svr_merge.proofs.Paged.{fill-first, may-rest}
use Rattle.svr_merge.proofs.Slicing.{Slices, stands-sliced}
use Rattle.svr_lists.specs.Layout.{TakesInto, TakesPages, TakesTerm, TakesTerms, heads_of, taken_into}
use Rattle.svr_lists.specs.Lists.{IsMergeOf, ListsValue}
use Rattle.svr_lists.specs.Slices.{Slice, pairs_under, slice_of, slice_with, sliced_term, taken_from}
use Rattle.svr_lists.specs.Taken.{TakesSlice, are_before, ascend_behind, last_of, page_onto, pages_in, taken_by, taken_of, terms_in}
use Rattle.svr_lists.specs.Taken.{with_taken, with_terms}
use Rattle.svr_lists.proofs.Paging.{all-before, pages_in-front, step-is}
use Rattle.svr_lists.proofs.Sliced.{length-pages}

-- ---- one element of a list

pub drop-item : {A : Type 0} (xs : List A) (i : ℕ) (x : A) → i < length xs → x ≡ get_or xs i x → drop i xs ≡ x ∷ drop (i + 1) xs
drop-item {A} xs i x lt is =
    drop-cons xs i x lt ∙ ap₂ (λ (y : A) (n : ℕ). y ∷ drop n xs) (sym is) (sym (add-one i))

-- ---- terms ascend

pub ascend-step : (last : Option (List ℕ)) (left behind : List TermPages) (t : TermPages) → left ≡ t ∷ behind
    → ascend_behind last left ≡ (is_after last t.term && ascend_behind (Some t.term) behind)
unfolding ascend_behind
ascend-step last left behind t is = ap (ascend_behind last) is

pub ascend-end : (last : Option (List ℕ)) (left : List TermPages) → left ≡ [] → ascend_behind last left ≡ true
unfolding ascend_behind
ascend-end last left none = ap (ascend_behind last) none

pub ascend-goes : (first last : Option (List ℕ)) (all : List TermPages) (i : ℕ) (t : TermPages) → i < length all → t ≡ get_or all i t
    → is_after last t.term ≡ true → ascend_behind last (drop i all) ≡ ascend_behind first all
    → ascend_behind (Some t.term) (drop (i + 1) all) ≡ ascend_behind first all
ascend-goes first last all i t lt is after before =
    sym (ap (λ (b : Bool). b && ascend_behind (Some t.term) (drop (i + 1) all)) after)
    ∙ sym (ascend-step last (drop i all) (drop (i + 1) all) t (drop-item all i t lt is)) ∙ before

pub ascend-stops : (first last : Option (List ℕ)) (all : List TermPages) (i : ℕ) (t : TermPages) → i < length all → t ≡ get_or all i t
    → is_after last t.term ≡ false → ascend_behind last (drop i all) ≡ ascend_behind first all → false ≡ ascend_behind first all
ascend-stops first last all i t lt is after before =
    sym (ap (λ (b : Bool). b && ascend_behind (Some t.term) (drop (i + 1) all)) after)
    ∙ sym (ascend-step last (drop i all) (drop (i + 1) all) t (drop-item all i t lt is)) ∙ before

-- ---- terms of a merge

with-none : (m : Merge) → with_taken m [] ≡ m
unfolding last_of
with-none m = ap (λ (l : List listing.TermPages). record { rules = m.rules; keys = m.keys; last = m.last; lists = l }) (append-nil m.lists)

last-more : (last : Option (List ℕ)) (xs ys : List listing.TermPages) → last_of (last_of last xs) ys ≡ last_of last (xs ++ ys)
unfolding last_of
last-more last [] ys = refl
last-more last (x ∷ xs) ys = last-more (Some x.term) xs ys

with-more : (m : Merge) (xs ys : List listing.TermPages) → with_taken (with_taken m xs) ys ≡ with_taken m (xs ++ ys)
with-more m xs ys =
    ap₂ (λ (last : Option (List ℕ)) (l : List listing.TermPages). record { rules = m.rules; keys = m.keys; last = last; lists = l })
    (last-more m.last xs ys) (append_assoc m.lists xs ys)

last-one : (last : Option (List ℕ)) (term : List ℕ) (pages : List Page)
    → last_of last (record { term = term; pages = pages } ∷ []) ≡ Some term
unfolding last_of
last-one last term pages = refl

pub takes-none : (run : Run) → TakesPages run run []
unfolding last_of
takes-none run = record {
  stands = λ m stands. subst (StandsForMerge run) (sym (with-none m)) stands;
  last = refl;
  kept = refl;
}

pub takes-more : (a b c : Run) (xs ys : List listing.TermPages) → TakesPages a b xs → TakesPages b c ys → TakesPages a c (xs ++ ys)
takes-more a b c xs ys first second = record {
  stands = λ m stands. subst (StandsForMerge c) (with-more m xs ys) (second.stands (with_taken m xs) (first.stands m stands));
  last = second.last ∙ ap (λ (l : Option (List ℕ)). last_of l ys) first.last ∙ last-more a.last xs ys;
  kept = second.kept ∙ ap (λ (r : Run). record r { last = c.last; lists = c.lists }) first.kept;
}

pub takes-term : (old new : Run) (term : List ℕ) (pages : List Page) (refs : List PageRef) → Slices old new term refs → refs ≡ heads_of pages
    → TakesPages old new (record { term = term; pages = pages } ∷ [])
unfolding last_of
takes-term old new term pages refs slices are = record {
  stands = λ m stands. stands-sliced m (record { term = term; pages = pages }) old new refs stands slices are;
  last = slices.last;
  kept = slices.kept;
}

-- ---- one term after the other

-- a term in front of others
abbrev pub term_onto : List ℕ → Option (List listing.TermPages) → List Page → Option (List listing.TermPages)
term_onto term others pages = option_map (λ terms. record { term = term; pages = pages } ∷ terms) others

terms-step : (here there : ℕ) (t : TermPages) (left : List TermPages) (front behind : List ℕ) → length front ≡ 4096 * t.pages
    → here + length front ≡ there
    → terms_in here (t ∷ left) (front ++ behind) ≡ option_and_then (term_onto t.term (terms_in there left behind)) (pages_in here t.pages front)
unfolding terms_in
terms-step here there t left front behind long is =
    let place : here + 4096 * t.pages ≡ there = omega (arith, long, is) in
    ap₂ (λ (o : Option (List Page)) (rest : Option (List listing.TermPages)). option_and_then (term_onto t.term rest) o)
    (pages_in-front t.pages here front behind long)
    (ap₂ (λ (a : ℕ) (bs : List ℕ). terms_in a left bs) place (drop_at front behind (4096 * t.pages) long))

terms-none : (here : ℕ) (bytes : List ℕ) → terms_in here [] bytes ≡ Some []
unfolding terms_in
terms-none here bytes = refl

-- the first terms were taken, and these are left with the bytes of their pages
pub record IsTaking (old now : Run) (all left : List TermPages) (bytes rest : List ℕ) (at here : ℕ) : Type 0 where
  pub front : List listing.TermPages
  pub gives : terms_in at all bytes ≡ option_map (λ terms. front ++ terms) (terms_in here left rest)
  pub whole : length rest ≡ 4096 * page_count left
  pub room : here + length rest ≡ at + length bytes
  pub ascend : ascend_behind now.last left ≡ true
  pub takes : TakesPages old now front

pub taking-none : (run : Run) (all : List TermPages) (bytes : List ℕ) (at : ℕ) → ascend_behind run.last all ≡ true
    → length bytes ≡ 4096 * page_count all → IsTaking run run all all bytes bytes at at
taking-none run all bytes at ascend whole = record {
  front = [];
  gives = by (terms_in at all bytes);
  whole = whole;
  room = refl;
  ascend = ascend;
  takes = takes-none run;
}
  where
    by : (o : Option (List listing.TermPages)) → o ≡ option_map (λ terms. [] ++ terms) o
    by None = refl
    by (Some terms) = refl

-- what is known of the next term
pub record IsNextTerm (now : Run) (t : TermPages) (behind : List TermPages) (rest : List ℕ) : Type 0 where
  pub after : is_after now.last t.term ≡ true
  pub ascend : ascend_behind (Some t.term) behind ≡ true
  pub enough : 4096 * t.pages ≤ length rest
  pub others : length rest ≡ 4096 * t.pages + 4096 * page_count behind

pub taking-next : (old now : Run) (all : List TermPages) (i : ℕ) (t : TermPages) (bytes rest : List ℕ) (at here : ℕ)
    → IsTaking old now all (drop i all) bytes rest at here → i < length all → t ≡ get_or all i t
    → IsNextTerm now t (drop (i + 1) all) rest
taking-next old now all i t bytes rest at here taking lt is =
    let left : drop i all ≡ t ∷ drop (i + 1) all = drop-item all i t lt is in
    let both : (is_after now.last t.term && ascend_behind (Some t.term) (drop (i + 1) all)) ≡ true =
    sym (ascend-step now.last (drop i all) (drop (i + 1) all) t left) ∙ taking.ascend in
    let count : page_count (drop i all) ≡ t.pages + page_count (drop (i + 1) all) =
    ap page_count left ∙ sum_by-cons (λ (x : TermPages). x.pages) t (drop (i + 1) all) in
    record {
      after = (and_parts _ _ both).0;
      ascend = (and_parts _ _ both).1;
      enough = omega (arith, count, taking.whole);
      others = omega (arith, count, taking.whole);
    }

pub taking-more : (old now new : Run) (all : List TermPages) (i : ℕ) (t : TermPages) (bytes rest front back : List ℕ) (at here there : ℕ)
    → IsTaking old now all (drop i all) bytes rest at here → i < length all → t ≡ get_or all i t → front ++ back ≡ rest
    → length front ≡ 4096 * t.pages → here + length front ≡ there → TakesTerm now new t front here
    → IsTaking old new all (drop (i + 1) all) bytes back at there
taking-more old now new all i t bytes rest front back at here there taking lt is parts long place takes =
    let next = taking-next old now all i t bytes rest at here taking lt is in
    let size : length front + length back ≡ length rest = sym (length-append front back) ∙ ap (λ (bs : List ℕ). length bs) parts in
    record {
      front = taking.front ++ (record { term = t.term; pages = takes.pages } ∷ []);
      gives = taking.gives
          ∙ ap (option_map (λ (terms : List listing.TermPages). taking.front ++ terms))
          (ap₂ (λ (ts : List TermPages) (bs : List ℕ). terms_in here ts bs) (drop-item all i t lt is) (sym parts)
          ∙ terms-step here there t (drop (i + 1) all) front back long place
          ∙ ap (option_and_then (term_onto t.term (terms_in there (drop (i + 1) all) back))) takes.gives)
          ∙ joined (terms_in there (drop (i + 1) all) back);
      whole = omega (arith, size, long, next.others);
      room = omega (arith, size, place, taking.room);
      ascend = ap (λ (last : Option (List ℕ)). ascend_behind last (drop (i + 1) all)) (takes.takes.last ∙ last-one now.last t.term takes.pages) ∙ next.ascend;
      takes = takes-more old now new taking.front (record { term = t.term; pages = takes.pages } ∷ []) taking.takes takes.takes;
    }
  where
    joined : (o : Option (List listing.TermPages))
        → option_map (λ (terms : List listing.TermPages). taking.front ++ terms) (term_onto t.term o takes.pages)
        ≡ option_map (λ (terms : List listing.TermPages). (taking.front ++ (record { term = t.term; pages = takes.pages } ∷ [])) ++ terms) o
    joined None = refl
    joined (Some terms) =
        ap (λ (ts : List listing.TermPages). Some ts) (sym (append_assoc taking.front (record { term = t.term; pages = takes.pages } ∷ []) terms))

pub taking-bad : (old now : Run) (all : List TermPages) (i : ℕ) (t : TermPages) (bytes rest front back : List ℕ) (at here : ℕ)
    → IsTaking old now all (drop i all) bytes rest at here → i < length all → t ≡ get_or all i t → front ++ back ≡ rest
    → length front ≡ 4096 * t.pages → pages_in here t.pages front ≡ None → terms_in at all bytes ≡ None
taking-bad old now all i t bytes rest front back at here taking lt is parts long none =
    taking.gives
    ∙ ap (option_map (λ (terms : List listing.TermPages). taking.front ++ terms))
    (ap₂ (λ (ts : List TermPages) (bs : List ℕ). terms_in here ts bs) (drop-item all i t lt is) (sym parts)
    ∙ terms-step here (here + length front) t (drop (i + 1) all) front back long refl
    ∙ ap (option_and_then (term_onto t.term (terms_in (here + length front) (drop (i + 1) all) back))) none)

pub taking-all : (old now : Run) (all : List TermPages) (i : ℕ) (bytes rest : List ℕ) (at here : ℕ)
    → IsTaking old now all (drop i all) bytes rest at here → length all ≤ i → TakesTerms old now all bytes at
taking-all old now all i bytes rest at here taking le = record {
  taken = taking.front;
  gives = taking.gives
      ∙ ap (option_map (λ (terms : List listing.TermPages). taking.front ++ terms))
      (ap (λ (ts : List TermPages). terms_in here ts rest) (drop_all i all le) ∙ terms-none here rest)
      ∙ ap (λ (ts : List listing.TermPages). Some ts) (append-nil taking.front);
  takes = taking.takes;
}

-- ---- the next slice of a merge

-- the pages of terms, one behind the other, counted on from n
abbrev placed : (ℕ → ℕ) → ℕ → List (List ℕ × List Pair) → List listing.TermPages
placed place n [] = []
placed place n (x ∷ xs) = record { term = x.0; pages = pages_with place n x.1 } ∷ placed place (n + length (page_parts x.1)) xs

-- terms with their pairs
abbrev with_pairs : (List ℕ → List Pair) → List (List ℕ) → List (List ℕ × List Pair)
with_pairs pairs terms = map (λ term. (term, pairs term)) terms

-- terms with their pairs as a record has them, and the bytes of their pages
abbrev pub kept_terms : List (List ℕ × List Pair) → List TermPages
kept_terms made = map (λ x. sliced_term x.0 x.1) made

abbrev pub kept_pages : List (List ℕ × List Pair) → List ℕ
kept_pages made = flat_map (λ x. pages_bytes x.1) made

kept-with : (pairs : List ℕ → List Pair) (terms : List (List ℕ)) → slice_with pairs terms
    ≡ record { terms = kept_terms (with_pairs pairs terms); pages = kept_pages (with_pairs pairs terms) }
kept-with pairs [] = refl
kept-with pairs (term ∷ terms) =
    ap (λ (x : Slice). record { terms = sliced_term term (pairs term) ∷ x.terms; pages = pages_bytes (pairs term) ++ x.pages }) (kept-with pairs terms)

may-all : (pairs : List ℕ → List Pair) (terms : List (List ℕ)) → ((term : List ℕ) → MayFillPages (pairs term))
    → AllByRecursion (λ (x : List ℕ × List Pair). MayFillPages x.1) (with_pairs pairs terms)
may-all pairs [] may = tt
may-all pairs (term ∷ terms) may = (may term, may-all pairs terms may)

length-pages_from : (place : ℕ → ℕ) (n : ℕ) (parts : List (List Pair)) → length (pages_from place n parts) ≡ length parts
length-pages_from place n [] = refl
length-pages_from place n (part ∷ parts) = ap suc (length-pages_from place (n + 1) parts)

length-pages_with : (place : ℕ → ℕ) (n : ℕ) (ps : List Pair) → length (pages_with place n ps) ≡ length (page_parts ps)
unfolding pages_with
length-pages_with place n ps = length-pages_from place n (page_parts ps)

-- what a merge has after a slice
with-terms : (place : ℕ → ℕ) (stands : List ℕ → Listed → Bool) (l : Listing) (m : Merge) (n : ℕ) (terms : List (List ℕ))
    → merge_with place stands l m n terms
    ≡ with_taken m (placed place n (with_pairs (pairs_under stands l m) (taken_from (pairs_under stands l m) n terms)))
unfolding merge_with last_of
with-terms place stands l m n [] = sym (with-none m)
with-terms place stands l m n (term ∷ terms) =
    by (nat_le 1024 n)
    (with-terms place stands l (with_term place stands l m n term) (n + length (pages_with place n (new_pairs (stands term) l m))) terms)
    (length-pages_with place n (new_pairs (stands term) l m))
  where
    pairs : List ℕ → List Pair
    pairs = pairs_under stands l m

    first : listing.TermPages
    first = record { term = term; pages = pages_with place n (pairs term) }

    by : (b : Bool)
        → merge_with place stands l (with_term place stands l m n term) (n + length (pages_with place n (pairs term))) terms
        ≡ with_taken (with_term place stands l m n term)
        (placed place (n + length (pages_with place n (pairs term))) (with_pairs pairs (taken_from pairs (n + length (pages_with place n (pairs term))) terms)))
        → length (pages_with place n (pairs term)) ≡ length (page_parts (pairs term))
        → cond b m (merge_with place stands l (with_term place stands l m n term) (n + length (pages_with place n (pairs term))) terms)
        ≡ with_taken m (placed place n (with_pairs pairs (cond b [] (term ∷ taken_from pairs (n + length (page_parts (pairs term))) terms))))
    by true more count = sym (with-none m)
    by false more count =
        more
        ∙ with-more m (first ∷ [])
        (placed place (n + length (pages_with place n (pairs term))) (with_pairs pairs (taken_from pairs (n + length (pages_with place n (pairs term))) terms)))
        ∙ ap (λ (k : ℕ). with_taken m (first ∷ placed place (n + k) (with_pairs pairs (taken_from pairs (n + k) terms)))) count

before-parts : (at : ℕ) (n limit : ℕ) (p : Pair) (ps : List Pair) → MayFillPages (p ∷ ps)
    → are_before (take 255 (p ∷ ps)) (pages_from (λ k. at + 4096 * k) n (cut 255 limit (drop 255 (p ∷ ps)))) ≡ true
unfolding cut
before-parts at n zero p ps may = refl
before-parts at n (suc limit) p ps may = by (drop 255 (p ∷ ps)) refl
  where
    by : (rest : List Pair) → drop 255 (p ∷ ps) ≡ rest
        → are_before (take 255 (p ∷ ps)) (pages_from (λ k. at + 4096 * k) n (cut 255 (suc limit) rest)) ≡ true
    by [] e = refl
    by (r ∷ rest) e = all-before 255 (p ∷ ps) r rest may.ordered e

-- the bytes of pages are read as these pages
parts-read : (at n limit : ℕ) (ps : List Pair) (behind : List ℕ) → MayFillPages ps
    → pages_in (at + 4096 * n) (length (cut 255 limit ps)) (flat_map page_bytes (cut 255 limit ps) ++ behind)
    ≡ Some (pages_from (λ k. at + 4096 * k) n (cut 255 limit ps))
unfolding cut pages_in
parts-read at n zero ps behind may = refl
parts-read at n (suc limit) [] behind may = refl
parts-read at n (suc limit) (p ∷ ps) behind may =
    let fill : fill_a_page (take 255 (p ∷ ps)) ≡ true = fill-first (p ∷ ps) (omega arith) may in
    let few : length (take 255 (p ∷ ps)) ≤ 255 = omega (arith, length-take 255 (p ∷ ps)) in
    let rest = flat_map page_bytes (cut 255 limit (drop 255 (p ∷ ps))) in
    let place : at + 4096 * n + 4096 ≡ at + 4096 * (n + 1) = omega arith in
    ap (pages_in (at + 4096 * n) (suc (length (cut 255 limit (drop 255 (p ∷ ps)))))) (append_assoc (page_bytes (take 255 (p ∷ ps))) rest behind)
    ∙ step-is (at + 4096 * n) (at + 4096 * (n + 1)) (length (cut 255 limit (drop 255 (p ∷ ps)))) (page_bytes (take 255 (p ∷ ps)))
    (rest ++ behind) (length-page_bytes (take 255 (p ∷ ps)) few) place
    ∙ ap₂ (λ (o : Option (List Page)) (q : Option (List Pair)). option_and_then (λ pairs. option_and_then (page_onto (at + 4096 * n) pairs) o) q)
    (parts-read at (n + 1) limit (drop 255 (p ∷ ps)) behind (may-rest 255 (p ∷ ps) may))
    (page_in-page_bytes (take 255 (p ∷ ps)) fill)
    ∙ ap (λ (b : Bool). cond b (Some (page_at (at + 4096 * n) (take 255 (p ∷ ps))
    ∷ pages_from (λ k. at + 4096 * k) (n + 1) (cut 255 limit (drop 255 (p ∷ ps))))) None)
    (before-parts at (n + 1) limit p ps may)

pages-read : (at n : ℕ) (ps : List Pair) (behind : List ℕ) → MayFillPages ps
    → pages_in (at + 4096 * n) (length (page_parts ps)) (pages_bytes ps ++ behind) ≡ Some (pages_with (λ k. at + 4096 * k) n ps)
unfolding pages_with
pages-read at n ps behind may = parts-read at n (length ps) ps behind may

-- the bytes of a slice are read as its terms with their pages
slice-read : (at n : ℕ) (made : List (List ℕ × List Pair)) → AllByRecursion (λ (x : List ℕ × List Pair). MayFillPages x.1) made
    → terms_in (at + 4096 * n) (kept_terms made) (kept_pages made) ≡ Some (placed (λ k. at + 4096 * k) n made)
unfolding terms_in
slice-read at n [] may = refl
slice-read at n (x ∷ made) may =
    let count = length (page_parts x.1) in
    let place : at + 4096 * n + 4096 * count ≡ at + 4096 * (n + count) = omega arith in
    ap₂ (λ (o : Option (List Page)) (others : Option (List listing.TermPages)). option_and_then (term_onto x.0 others) o)
    (pages-read at n x.1 (kept_pages made) may.0)
    (ap₂ (λ (a : ℕ) (bs : List ℕ). terms_in a (kept_terms made) bs) place
    (drop_at (pages_bytes x.1) (kept_pages made) (4096 * count) (length-pages x.1 may.0))
    ∙ slice-read at (n + count) made may.1)

-- so they are read from any address on
pub made-read : (at : ℕ) (made : List (List ℕ × List Pair)) → AllByRecursion (λ (x : List ℕ × List Pair). MayFillPages x.1) made
    → IsSome (terms_in at (kept_terms made) (kept_pages made))
made-read at made may =
    let place : at + 4096 * 0 ≡ at = omega arith in
    subst (λ (a : ℕ). IsSome (terms_in a (kept_terms made) (kept_pages made))) place
    (subst (λ (o : Option (List listing.TermPages)). IsSome o) (sym (slice-read at 0 made may)) (there (placed (λ k. at + 4096 * k) 0 made)))
  where
    there : (ts : List listing.TermPages) → IsSome (Some ts)
    there ts = cc

-- ---- ids that rise

above-under : (stands : Listed → Bool) (id : ℕ) (ls : List Listed)
    → AllByRecursion (λ (later : Document). id < later.id) (map (λ (d : Listed). d.document) ls)
    → AllByRecursion (λ (n : ℕ). id < n) (map (λ (d : Listed). d.document.id) (filter stands ls))
above-under stands id [] above = tt
above-under stands id (d ∷ ds) above = by (stands d) (above-under stands id ds above.1)
  where
    by : (b : Bool) → AllByRecursion (λ (n : ℕ). id < n) (map (λ (x : Listed). x.document.id) (filter stands ds))
        → AllByRecursion (λ (n : ℕ). id < n) (map (λ (x : Listed). x.document.id) (cond b (d ∷ filter stands ds) (filter stands ds)))
    by true more = (above.0, more)
    by false more = more

rise-under : (stands : Listed → Bool) (ls : List Listed) → Ascends (map (λ (d : Listed). d.document) ls)
    → Rises (map (λ (d : Listed). d.document.id) (filter stands ls))
rise-under stands [] up = tt
rise-under stands (d ∷ ds) up = by (stands d) (rise-under stands ds up.1) (above-under stands d.document.id ds up.0)
  where
    by : (b : Bool) → Rises (map (λ (x : Listed). x.document.id) (filter stands ds))
        → AllByRecursion (λ (n : ℕ). d.document.id < n) (map (λ (x : Listed). x.document.id) (filter stands ds))
        → Rises (map (λ (x : Listed). x.document.id) (cond b (d ∷ filter stands ds) (filter stands ds)))
    by true more above = (above, more)
    by false more above = more

-- the new pairs of a term may fill pages
may-new : (run : Run) (l : Listing) (m : Merge) (stands : Listed → Bool) → StandsForMerge run m → HaveKeys run.keys
    → Ascends (documents_of l) → MayFillPages (new_pairs stands l m)
may-new run l m stands is within up =
    subst MayFillPages (pairs-stand run m is (ids_under stands l))
    (may_fill-rising run.keys (ids_under stands l) within (rise-under stands l.documents up))

next-taken : (s : Served) (m : Merge) (most : ℕ) (old : Option Run) (slice : Slice) (at : ℕ) (taken : List listing.TermPages)
    → IsServed tokens_of s → IsMergeOf (documents_of s.listing) old s.merge → s.merge ≡ Some m
    → ((run : Run) → old ≡ Some run → HaveKeys run.keys) → taken_into old slice at ≡ Some taken
    → slice ≡ slice_of (is_effective s.listing) s.listing m most
    → with_terms s taken ≡ after s (merge_slice (λ n. at + 4096 * n) most)
next-taken s m most old slice at taken is merge begun within gives same =
    ap (λ (o : Option Merge). record { listing = s.listing; merge = o })
    (ap (option_map (λ x. with_taken x taken)) begun
    ∙ ap (λ (x : Merge). Some x) (by old (subst (IsMergeOf (documents_of s.listing) old) begun merge) within gives)
    ∙ sym (ap (option_map (λ x. sliced (λ n. at + 4096 * n) s.listing x most)) begun))
  where
    pairs : List ℕ → List Pair
    pairs = pairs_under (is_effective s.listing) s.listing m

    terms : List (List ℕ)
    terms = taken_from pairs 0 (take most (terms_left s.listing m))

    made : List (List ℕ × List Pair)
    made = with_pairs pairs terms

    read : ((term : List ℕ) → MayFillPages (pairs term)) → terms_in at slice.terms slice.pages ≡ Some (placed (λ n. at + 4096 * n) 0 made)
    read may =
        let place : at + 4096 * 0 ≡ at = omega arith in
        ap (λ (x : Slice). terms_in at x.terms x.pages) (same ∙ kept-with pairs terms)
        ∙ subst (λ (a : ℕ). terms_in a (kept_terms made) (kept_pages made) ≡ Some (placed (λ n. at + 4096 * n) 0 made)) place
        (slice-read at 0 made (may-all pairs terms may))

    only : (b : Bool) (o : Option (List listing.TermPages)) (x : List listing.TermPages) → cond b o None ≡ Some taken → o ≡ Some x → taken ≡ x
    only true o x e f = cc
    only false o x e f = absurd (cc)

    by : (o : Option Run) → IsMergeOf (documents_of s.listing) o (Some m) → ((run : Run) → o ≡ Some run → HaveKeys run.keys)
        → taken_into o slice at ≡ Some taken → with_taken m taken ≡ sliced (λ n. at + 4096 * n) s.listing m most
    by None merge keys gives = absurd merge
    by (Some run) merge keys gives =
        ap (with_taken m) (only (ascend_behind run.last slice.terms) (terms_in at slice.terms slice.pages) (placed (λ n. at + 4096 * n) 0 made)
        gives (read (λ term. may-new run s.listing m (is_effective s.listing term) merge.stands (keys run refl) is.listing.documents.ascend)))
        ∙ sym (with-terms (λ n. at + 4096 * n) (is_effective s.listing) s.listing m 0 (take most (terms_left s.listing m)))

-- ---- in lists

-- the merge that is begun, by its last term alone
into-by : (v : ListsValue) (slice : Slice) (at : ℕ) → taken_by v slice at ≡ taken_into v.merge slice at
into-by v slice at = by v.merge
  where
    by : (o : Option Run) → option_and_then (λ (last : Option (List ℕ)). taken_of last slice at) (option_map (λ (r : Run). r.last) o)
        ≡ taken_into o slice at
    by None = refl
    by (Some run) = refl

some_same : (x y : List listing.TermPages) → Some x ≡ Some y → x ≡ y
some_same x y e = cc

merge-taken : (documents : List Document) (old new : Option Run) (slice : Slice) (at : ℕ) (o : Option Merge) (taken : List listing.TermPages)
    → taken_into old slice at ≡ Some taken → TakesInto old new slice at → IsMergeOf documents old o
    → IsMergeOf documents new (option_map (λ m. with_taken m taken) o)
merge-taken documents None new slice at o taken gives takes is = absurd takes
merge-taken documents (Some a) None slice at o taken gives takes is = absurd takes
merge-taken documents (Some a) (Some b) slice at None taken gives takes is = is
merge-taken documents (Some a) (Some b) slice at (Some m) taken gives takes is =
    let same : takes.taken ≡ taken = some_same takes.taken taken (sym takes.gives ∙ gives) in record {
      stands = subst (λ (ts : List listing.TermPages). StandsForMerge b (with_taken m ts)) same (takes.takes.stands m is.stands);
      have = is.have;
    }

last-taken : (old new : Option Run) (slice : Slice) (at : ℕ) (taken : List listing.TermPages) → taken_into old slice at ≡ Some taken
    → TakesInto old new slice at
    → option_map (λ (r : Run). r.last) new ≡ option_map (λ (last : Option (List ℕ)). last_of last taken) (option_map (λ (r : Run). r.last) old)
last-taken None new slice at taken gives takes = absurd takes
last-taken (Some a) None slice at taken gives takes = absurd takes
last-taken (Some a) (Some b) slice at taken gives takes =
    let same : takes.taken ≡ taken = some_same takes.taken taken (sym takes.gives ∙ gives) in
    ap (λ (l : Option (List ℕ)). Some l) (takes.takes.last ∙ ap (last_of a.last) same)

given : (old new : Option Run) (slice : Slice) (at : ℕ) → TakesInto old new slice at
    → (taken : List listing.TermPages) × (taken_into old slice at ≡ Some taken)
given None new slice at takes = absurd takes
given (Some a) None slice at takes = absurd takes
given (Some a) (Some b) slice at takes = (takes.taken, takes.gives)

keys-taken : (old new : Option Run) (slice : Slice) (at : ℕ) → TakesInto old new slice at → (run : Run) → old ≡ Some run → HaveKeys run.keys
keys-taken None new slice at takes run is = absurd takes
keys-taken (Some a) None slice at takes run is = absurd takes
keys-taken (Some a) (Some b) slice at takes run is = subst (λ (r : Run). HaveKeys r.keys) (let same : a ≡ run = cc in same) takes.within

-- lists take what their merge takes
pub takes-slice : (index : Indexed) (old new : Option Run) (slice : Slice) (at : ℕ) → TakesInto old new slice at
    → TakesSlice (record { index = index; merge = old }) (record { index = index; merge = new }) slice at
takes-slice index old new slice at takes =
    let it = given old new slice at takes in
    let gives : taken_by (record { index = index; merge = old }) slice at ≡ Some it.0 =
    into-by (record { index = index; merge = old }) slice at ∙ it.1 in
    record {
      terms = it.0;
      gives = gives;
      stands = λ s stands. record {
        index = stands.index;
        merge = merge-taken (documents_of s.listing) old new slice at s.merge it.0 it.1 takes stands.merge;
      };
      last = last-taken old new slice at it.0 it.1 takes;
      next = λ s m most is stands begun same.
          next-taken s m most old slice at it.0 is stands.merge begun (keys-taken old new slice at takes) it.1 same;
    }
