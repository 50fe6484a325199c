-- Which pages a slice asks for.
use Rattle.std.proofs.Common.{◌≡◌, ℕ, suc, ◌+◌, ◌<◌, List, [], ◌∷◌, ◌++◌, length, map, take, filter, Option, Some, Result, Ok, Err, IfOk}
use Rattle.std.proofs.Common.{slice_get, refl, ap, sym, subst, ◌∙◌, append-nil, append_assoc}
use Rattle.std.specs.List.{flat_map}
use Rattle.std.specs.Option.{ForSome}
use Rattle.std.specs.Result.{IsErrAnd}
use Rattle.std.proofs.lemmas.List.{map-append}
use Rattle.std.proofs.lemmas.List.Concat.{flat_map-append}
use Rattle.svr_tokens.specs.Tokens.{tokens_of}
use Rattle.svr_postpage.specs.declared.page_ref.PageFault.{PageFault}
use Rattle.svr_postpage.specs.declared.page_ref.PageRef.{PageRef}
use Rattle.svr_postpage.specs.declared.pair.Pair.{Pair}
use Rattle.svr_postpage.specs.Reading.{InTurn}
use Rattle.svr_postpage.specs.Wanted.{pairs_told}
use Rattle.svr_listing.specs.Listing.{documents_of, stands_by}
use Rattle.svr_listing.specs.Merges.{is_after, live_terms, terms_left}
use Rattle.svr_iter.specs.Asked.{Asks}
use Rattle.svr_iter.specs.declared.fault.ScanFault.{ScanFault}
use Rattle.svr_iter.proofs.Asking.{InTurn-append, asks_all, asks_err, asks_fault}
use Rattle.svr_index.specs.Docs.{refs_at}
use Rattle.svr_index.specs.Index.{Indexed}
use Rattle.svr_index.specs.Terms.{IsNextLive}
use Rattle.svr_merge.specs.Images.{page_parts}
use Rattle.svr_merge.specs.Runs.{Run}
use Rattle.svr_lists.specs.Layout.{AreFirstOf, AsksOn, IsFrontOf, Slices, SlicesOn}
use Rattle.svr_lists.specs.Lists.{IsMergeOf, IsRunOf, ListsValue}
use Rattle.svr_lists.specs.Slices.{AreFirst, AsksSlice, Slice, TermPages, pairs_under, slice_of, sliced_term, taken_from}
use Rattle.svr_lists.proofs.Sliced.{front-goes}

-- the terms alone
abbrev pub terms_of : List TermPages → List (List ℕ)
terms_of terms = map (λ t. t.term) terms

-- the pages of terms in an index
abbrev pub asked_pages : Indexed → List TermPages → List PageRef
asked_pages index terms = flat_map (refs_at index) (terms_of terms)

terms-sliced : (pairs : List ℕ → List Pair) (terms : List (List ℕ)) → terms_of (map (λ term. sliced_term term (pairs term)) terms) ≡ terms
terms-sliced pairs [] = refl
terms-sliced pairs (term ∷ terms) = ap (λ (ts : List (List ℕ)). term ∷ ts) (terms-sliced pairs terms)

pages-one : (index : Indexed) (terms : List (List ℕ)) (term : List ℕ)
    → flat_map (refs_at index) terms ++ refs_at index term ≡ flat_map (refs_at index) (terms ++ term ∷ [])
pages-one index terms term =
    ap (λ (l : List PageRef). flat_map (refs_at index) terms ++ l) (sym (append-nil (refs_at index term)))
    ∙ sym (flat_map-append (refs_at index) terms (term ∷ []))

pub given-none : {R : Type 0} (gives : R → PageRef → R → Type 0) (index : Indexed) (terms : List TermPages) (reader : R) → terms ≡ []
    → InTurn gives (asked_pages index terms) reader reader
given-none gives index terms reader none =
    subst (λ (ts : List TermPages). InTurn gives (asked_pages index ts) reader reader) (sym none) refl

-- the pages of one more term were given
pub given-more : {R : Type 0} (gives : R → PageRef → R → Type 0) (index : Indexed) (term : List ℕ) (pairs : List Pair)
    (terms new : List TermPages) (old mid now : R) → new ≡ terms ++ (sliced_term term pairs ∷ [])
    → InTurn gives (asked_pages index terms) old mid → InTurn gives (refs_at index term) mid now
    → InTurn gives (asked_pages index new) old now
given-more gives index term pairs terms new old mid now is first second =
    subst (λ (l : List PageRef). InTurn gives l old now)
    (pages-one index (terms_of terms) term
    ∙ ap (flat_map (refs_at index)) (sym (map-append (λ (t : TermPages). t.term) terms (sliced_term term pairs ∷ [])))
    ∙ ap (asked_pages index) (sym is))
    (InTurn-append gives (asked_pages index terms) (refs_at index term) old mid now first second)

-- a slice was made: all pages of its terms were given
pub asks-made : {R : Type 0} (gives : R → PageRef → R → Type 0) (fails : R → PageRef → PageFault → R → Type 0) (told : Option (List ℕ))
    (index : Indexed) (run : Run) (most : ℕ) (terms : List TermPages) (old new : R) (slice : Slice)
    → InTurn gives (asked_pages index terms) old new → slice.terms ≡ terms → ForSome told (λ bytes. Slices index run most bytes slice)
    → AsksOn told gives fails index run most old new (Ok slice)
asks-made {R} gives fails told index run most terms old new slice given same slices = record {
  terms = terms_of slice.terms;
  asks = asks_all gives fails (asked_pages index slice.terms) old new slice
      (subst (λ (l : List TermPages). InTurn gives (asked_pages index l) old new) (sym same) given);
  of_slice = refl;
  first = λ bytes at tokens l m is stood stands.
      let pairs = pairs_under (stands_by (pairs_told bytes) l) l m in (
        [],
        append-nil (terms_of slice.terms)
            ∙ ap (λ (x : Slice). terms_of x.terms) (slices bytes at tokens l m is stood stands)
            ∙ terms-sliced pairs (taken_from pairs 0 (take most (terms_left l m))),
      );
}

-- the terms taken and the next one are the first ones
pub first-stopped : (index : Indexed) (run : Run) (most still less : ℕ) (bytes : List ℕ) (after : Option (List ℕ)) (term : List ℕ)
    (terms : List TermPages) (pages : List ℕ) → still ≡ suc less → SlicesOn index run most still bytes after terms pages
    → IsNextLive index after (Some term) → length pages < 4194304 → AreFirstOf index run most bytes (terms_of terms ++ term ∷ [])
first-stopped index run most still less bytes after term terms pages one on next few tokens l m is stood stands =
    by (filter (is_after after) (live_terms l)) (next tokens l is stood)
    (subst (λ (n : ℕ). IsFrontOf pairs all terms pages (take n (filter (is_after after) (live_terms l)))) one (on tokens l m is stood stands))
  where
    pairs : List ℕ → List Pair
    pairs = pairs_under (stands_by (pairs_told bytes) l) l m

    all : Slice
    all = slice_of (stands_by (pairs_told bytes) l) l m most

    whole : List (List ℕ)
    whole = taken_from pairs 0 (take most (terms_left l m))

    here : (left : List (List ℕ)) → IsFrontOf pairs all terms pages (term ∷ left) → AreFirst (terms_of terms ++ term ∷ []) whole
    here left front =
        let rest = taken_from pairs (front.count + length (page_parts (pairs term))) left in (
          rest,
          append_assoc (terms_of terms) (term ∷ []) rest
              ∙ sym (ap (λ (ts : List (List ℕ)). terms_of terms ++ ts)
              (ap (λ (ts : List (List ℕ)). terms_of (map (λ t. sliced_term t (pairs t)) ts)) (front-goes pairs all terms pages term left front few)
              ∙ terms-sliced pairs (term ∷ rest)))
              ∙ sym (map-append (λ (t : TermPages). t.term) terms (map (λ t. sliced_term t (pairs t)) (taken_from pairs front.count (term ∷ left))))
              ∙ ap terms_of (sym front.terms_are)
              ∙ terms-sliced pairs whole,
        )

    by : (ts : List (List ℕ)) → Some term ≡ slice_get ts 0 → IsFrontOf pairs all terms pages (take (suc less) ts)
        → AreFirst (terms_of terms ++ term ∷ []) whole
    by [] n front = absurd (cc)
    by (t ∷ ts) n front =
        let same : t ≡ term = cc in
        here (take less ts) (subst (λ (x : List ℕ). IsFrontOf pairs all terms pages (x ∷ take less ts)) same front)

-- it stopped while pages of the next term were asked for, or behind them
pub asks-stopped : {R T : Type 0} (gives : R → PageRef → R → Type 0) (fails : R → PageRef → PageFault → R → Type 0) (told : Option (List ℕ))
    (index : Indexed) (run : Run) (most : ℕ) (term : List ℕ) (terms : List TermPages) (old mid new : R) (f : ScanFault)
    (result : Result Slice ScanFault) → InTurn gives (asked_pages index terms) old mid
    → Asks {R = R} {T = T} gives fails (refs_at index term) mid new (Err f) → IsErrAnd result (λ e. e ≡ f)
    → ForSome told (λ bytes. AreFirstOf index run most bytes (terms_of terms ++ term ∷ []))
    → AsksOn told gives fails index run most old new result
asks-stopped {R} {T} gives fails told index run most term terms old mid new f result given asks is first = record {
  terms = terms_of terms ++ term ∷ [];
  asks = asks_err gives fails (flat_map (refs_at index) (terms_of terms ++ term ∷ [])) old new f result is
      (asks_fault {R = R} gives fails {T = T} {V = Slice} (asked_pages index terms) (refs_at index term) []
      (flat_map (refs_at index) (terms_of terms ++ term ∷ [])) old mid new f given asks
      (ap (λ (l : List PageRef). asked_pages index terms ++ l) (append-nil (refs_at index term)) ∙ pages-one index (terms_of terms) term));
  of_slice = none result is;
  first = first;
}
  where
    none : (r : Result Slice ScanFault) → IsErrAnd r (λ e. e ≡ f)
        → IfOk r (λ slice. terms_of terms ++ term ∷ [] ≡ map (λ (t : TermPages). t.term) slice.terms)
    none (Ok slice) e = absurd e
    none (Err why) e = tt

-- lists ask for what their index and their run do
pub asks-slice : {R : Type 0} (gives : R → PageRef → R → Type 0) (fails : R → PageRef → PageFault → R → Type 0) (told : Option (List ℕ))
    (v : ListsValue) (run : Run) (most : ℕ) (old new : R) (result : Result Slice ScanFault) → v.merge ≡ Some run
    → AsksOn told gives fails v.index run most old new result → AsksSlice told gives fails v most old new result
asks-slice gives fails told v run most old new result begun asks = record {
  terms = asks.terms;
  asks = asks.asks;
  of_slice = asks.of_slice;
  first = λ bytes at s m is stands merge.
      let is_run : IsRunOf (documents_of s.listing) run m =
      subst (IsMergeOf (documents_of s.listing) (Some run)) merge
      (subst (λ (o : Option Run). IsMergeOf (documents_of s.listing) o s.merge) begun stands.merge) in
      asks.first bytes at tokens_of s.listing m is.listing stands.index is_run.stands;
}
