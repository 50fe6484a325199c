-- What a slice has that was made, whatever the reader told.
use Rattle.std.proofs.Common.{◌≡◌, ℕ, ◌+◌, ◌*◌, ◌≤◌, Bool, true, false, cond, nat_le, List, [], ◌∷◌, ◌++◌, length}
use Rattle.std.proofs.Common.{Option, Some, None, IsSome, refl, ap, ap₂, sym, subst, ◌∙◌, arith, append-nil, length-append}
use Rattle.std.specs.List.{AllByRecursion}
use Rattle.std.proofs.lemmas.Bool.{and_from, and_parts}
use Rattle.std.proofs.lemmas.Bool.Decides.{nat_tests}
use Rattle.std.proofs.lemmas.List.{map-append}
use Rattle.std.proofs.lemmas.List.Concat.{flat_map-append}
use Rattle.std.proofs.lemmas.List.Sums.{sum_by-cons}
use Rattle.svr_listing.specs.Merges.{is_after}
use Rattle.svr_postpage.specs.declared.pair.Pair.{Pair}
use Rattle.svr_record.specs.declared.record.TermPages.{TermPages}
use Rattle.svr_record.specs.Limits.{TermFits, page_count}
use Rattle.svr_merge.specs.Images.{MayFillPages, page_parts, pages_bytes}
use Rattle.svr_lists.specs.Layout.{AddsTerm, IsMade, has_term_length}
use Rattle.svr_lists.specs.Slices.{Slice, sliced_term}
use Rattle.svr_lists.specs.Taken.{ascend_behind, terms_in}
use Rattle.svr_lists.proofs.Sliced.{length-pages}
use Rattle.svr_lists.proofs.Taking.{kept_pages, kept_terms, made-read}

-- the last one of terms, or where there is none the one before
abbrev pub last_kept : Option (List ℕ) → List TermPages → Option (List ℕ)
last_kept last [] = last
last_kept last (t ∷ ts) = last_kept (Some t.term) ts

-- a slice is made so far, of so many terms at most, and the last one is this
pub record IsMadeSoFar (last now : Option (List ℕ)) (count : ℕ) (terms : List TermPages) (pages : List ℕ) : Type 0 where
  pub made : List (List ℕ × List Pair)
  pub terms_are : terms ≡ kept_terms made
  pub pages_are : pages ≡ kept_pages made
  pub may : AllByRecursion (λ (x : List ℕ × List Pair). MayFillPages x.1) made
  pub fit : AllByRecursion TermFits terms
  pub ascend : ascend_behind last terms ≡ true
  pub now_is : last_kept last terms ≡ now
  pub few : length terms ≤ count

made-nothing : (last : Option (List ℕ)) → IsMadeSoFar last last 0 [] []
unfolding ascend_behind
made-nothing last = record {
  made = [];
  terms_are = refl;
  pages_are = refl;
  may = tt;
  fit = tt;
  ascend = refl;
  now_is = refl;
  few = omega arith;
}

pub made-none : (last now : Option (List ℕ)) (terms : List TermPages) (pages : List ℕ) → now ≡ last → terms ≡ [] → pages ≡ []
    → IsMadeSoFar last now 0 terms pages
made-none last now terms pages same no_terms no_pages =
    subst (λ (x : Option (List ℕ)). IsMadeSoFar last x 0 terms pages) (sym same)
    (subst (λ (ts : List TermPages). IsMadeSoFar last last 0 ts pages) (sym no_terms)
    (subst (IsMadeSoFar last last 0 []) (sym no_pages) (made-nothing last)))

all-append : {A : Type 0} (P : A → Type 0) (xs : List A) (y : A) → AllByRecursion P xs → P y → AllByRecursion P (xs ++ y ∷ [])
all-append P [] y all one = (one, tt)
all-append P (x ∷ xs) y all one = (all.0, all-append P xs y all.1 one)

ascend-append : (last : Option (List ℕ)) (ts : List TermPages) (t : TermPages) → ascend_behind last ts ≡ true
    → is_after (last_kept last ts) t.term ≡ true → ascend_behind last (ts ++ t ∷ []) ≡ true
unfolding ascend_behind
ascend-append last [] t all after = rw after refl
ascend-append last (x ∷ ts) t all after =
    let parts = and_parts (is_after last x.term) (ascend_behind (Some x.term) ts) all in
    and_from (is_after last x.term) (ascend_behind (Some x.term) (ts ++ t ∷ [])) parts.0 (ascend-append (Some x.term) ts t parts.1 after)

last-append : (last : Option (List ℕ)) (ts : List TermPages) (t : TermPages) → last_kept last (ts ++ t ∷ []) ≡ Some t.term
last-append last [] t = refl
last-append last (x ∷ ts) t = last-append (Some x.term) ts t

term-fits : (term : List ℕ) (pairs : List Pair) → has_term_length term ≡ true → TermFits (sliced_term term pairs)
term-fits term pairs fits =
    let parts = and_parts (nat_le 1 (length term)) (nat_le (length term) 255) fits in
    record { some = at_least (length term) parts.0; few = at_most (length term) parts.1 }
  where
    at_least : (n : ℕ) → nat_le 1 n ≡ true → 1 ≤ n
    at_least n e = grind (arith, nat_tests)

    at_most : (n : ℕ) → nat_le n 255 ≡ true → n ≤ 255
    at_most n e = grind (arith, nat_tests)

pub made-more : (last now : Option (List ℕ)) (count : ℕ) (term : List ℕ) (terms new : List TermPages) (pages behind : List ℕ)
    → IsMadeSoFar last now count terms pages → AddsTerm now term terms new pages behind
    → IsMadeSoFar last (Some term) (count + 1) new behind
made-more last now count term terms new pages behind was adds = record {
  made = was.made ++ ((term, adds.pairs) ∷ []);
  terms_are = adds.puts.terms_are ∙ ap (λ (ts : List TermPages). ts ++ (sliced_term term adds.pairs ∷ [])) was.terms_are
      ∙ sym (map-append (λ (x : List ℕ × List Pair). sliced_term x.0 x.1) was.made ((term, adds.pairs) ∷ []));
  pages_are = adds.puts.pages_are ∙ ap (λ (bs : List ℕ). bs ++ pages_bytes adds.pairs) was.pages_are
      ∙ ap (λ (bs : List ℕ). kept_pages was.made ++ bs) (sym (append-nil (pages_bytes adds.pairs)))
      ∙ sym (flat_map-append (λ (x : List ℕ × List Pair). pages_bytes x.1) was.made ((term, adds.pairs) ∷ []));
  may = all-append (λ (x : List ℕ × List Pair). MayFillPages x.1) was.made (term, adds.pairs) was.may adds.may;
  fit = subst (AllByRecursion TermFits) (sym adds.puts.terms_are)
      (all-append TermFits terms (sliced_term term adds.pairs) was.fit (term-fits term adds.pairs adds.fits));
  ascend = subst (λ (ts : List TermPages). ascend_behind last ts ≡ true) (sym adds.puts.terms_are)
      (ascend-append last terms (sliced_term term adds.pairs) was.ascend
      (ap (λ (o : Option (List ℕ)). is_after o term) was.now_is ∙ adds.comes));
  now_is = ap (last_kept last) adds.puts.terms_are ∙ last-append last terms (sliced_term term adds.pairs);
  few = omega (
    arith,
    was.few,
    ap (λ (ts : List TermPages). length ts) adds.puts.terms_are,
    length-append terms (sliced_term term adds.pairs ∷ []),
  );
}

whole-made : (made : List (List ℕ × List Pair)) → AllByRecursion (λ (x : List ℕ × List Pair). MayFillPages x.1) made
    → length (kept_pages made) ≡ 4096 * page_count (kept_terms made)
whole-made [] may = refl
whole-made (x ∷ made) may =
    let more = whole-made made may.1 in
    let count : page_count (kept_terms (x ∷ made)) ≡ length (page_parts x.1) + page_count (kept_terms made) =
    sum_by-cons (λ (t : TermPages). t.pages) (sliced_term x.0 x.1) (kept_terms made) in
    omega (arith, more, count, length-append (pages_bytes x.1) (kept_pages made), length-pages x.1 may.0)

-- a slice that was made may come
pub made-all : (last now : Option (List ℕ)) (count most : ℕ) (terms : List TermPages) (pages : List ℕ) (slice : Slice)
    → IsMadeSoFar last now count terms pages → count ≤ most → slice.terms ≡ terms → slice.pages ≡ pages → IsMade last most slice
made-all last now count most terms pages slice was le same_terms same_pages =
    subst (IsMade last most) (sym (ap₂ (λ (ts : List TermPages) (bs : List ℕ). record { terms = ts; pages = bs }) same_terms same_pages)) (record {
      few = omega (arith, was.few, le);
      fit = was.fit;
      whole = ap (λ (bs : List ℕ). length bs) was.pages_are ∙ whole-made was.made was.may
          ∙ ap (λ (ts : List TermPages). 4096 * page_count ts) (sym was.terms_are);
      may_come = λ at. there at (ascend_behind last terms) was.ascend
          (subst (λ (ts : List TermPages). IsSome (terms_in at ts pages)) (sym was.terms_are)
          (subst (λ (bs : List ℕ). IsSome (terms_in at (kept_terms was.made) bs)) (sym was.pages_are) (made-read at was.made was.may)));
    })
  where
    there : (at : ℕ) (b : Bool) → b ≡ true → IsSome (terms_in at terms pages) → IsSome (cond b (terms_in at terms pages) None)
    there at true e some = some
    there at false e some = absurd (cc)
