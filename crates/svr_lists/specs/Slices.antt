-- The slices of a merge: its next terms with their pages.
use Rattle.std.specs.Prelude.{◌≡◌, ℕ, ◌+◌, Bool, nat_le, List, [], ◌∷◌, ◌++◌, length, map, take, Option, Some, Result, IfOk, if◌then◌else◌}
use Rattle.std.specs.List.{flat_map}
use Rattle.std.specs.Option.{ForSome}
use Rattle.svr_index.specs.Docs.{refs_at}
use Rattle.svr_iter.specs.Asked.{Asks}
use Rattle.svr_iter.specs.declared.fault.ScanFault.{ScanFault}
use Rattle.svr_postpage.specs.declared.page_ref.PageFault.{PageFault}
use Rattle.svr_postpage.specs.declared.page_ref.PageRef.{PageRef}
use Rattle.svr_postpage.specs.declared.pair.Pair.{Pair}
use Rattle.svr_tokens.specs.Tokens.{tokens_of}
use Rattle.svr_listing.specs.declared.document.Listed.{Listed}
use Rattle.svr_listing.specs.Listing.{Listing, stands_by}
use Rattle.svr_listing.specs.Merges.{Merge, new_pairs, terms_left}
use Rattle.svr_listing.specs.Served.{IsServed, Served}
use Rattle.svr_postpage.specs.Wanted.{pairs_told}
use Rattle.svr_merge.specs.Images.{page_parts, pages_bytes}
pub use Rattle.svr_lists.specs.declared.slice.Slice.{Slice}
pub use Rattle.svr_record.specs.declared.record.TermPages.{TermPages}
use Rattle.svr_lists.specs.Lists.{ListsValue, StandsForServed}

-- the terms that a slice takes of those left, until it has 1,024 pages or more, counted on from n
abbrev pub taken_from : (List ℕ → List Pair) → ℕ → List (List ℕ) → List (List ℕ)
taken_from pairs n [] = []
taken_from pairs n (term ∷ terms) =
    if nat_le 1024 n then [] else term ∷ taken_from pairs (n + length (page_parts (pairs term))) terms

-- a term of a slice, with the number of the pages of its pairs
abbrev pub sliced_term : List ℕ → List Pair → TermPages
sliced_term term pairs = record { term = term; pages = length (page_parts pairs) }

-- the slice of terms with these pairs
abbrev pub slice_with : (List ℕ → List Pair) → List (List ℕ) → Slice
slice_with pairs terms = record {
  terms = map (λ term. sliced_term term (pairs term)) terms;
  pages = flat_map (λ term. pages_bytes (pairs term)) terms;
}

-- the new pairs of each term, by what stands under it
abbrev pub pairs_under : (List ℕ → Listed → Bool) → Listing → Merge → List ℕ → List Pair
pairs_under stands l m term = new_pairs (stands term) l m

-- the slice that a merge makes of so many terms at most, by what stands under a term
abbrev pub slice_of : (List ℕ → Listed → Bool) → Listing → Merge → ℕ → Slice
slice_of stands l m most = slice_with (pairs_under stands l m) (taken_from (pairs_under stands l m) 0 (take most (terms_left l m)))

-- a slice is that of the merge that lists stand for, by bytes told
abbrev pub IsSliceBy : ListsValue → ℕ → List ℕ → Slice → Type 0
IsSliceBy v most bytes slice =
    (s : Served) (m : Merge) → IsServed tokens_of s → StandsForServed v s → s.merge ≡ Some m
    → slice ≡ slice_of (stands_by (pairs_told bytes) s.listing) s.listing m most

-- the first ones of terms
abbrev pub AreFirst : List (List ℕ) → List (List ℕ) → Type 0
AreFirst terms all = (rest : List (List ℕ)) × (terms ++ rest ≡ all)

-- the pages of terms were asked for in turn, each once: those of the terms of the slice, or where it stopped of the first ones of those
-- that the merge takes by bytes told
pub record AsksSlice {R : Type 0} (told : Option (List ℕ)) (gives : R → PageRef → R → Type 0) (fails : R → PageRef → PageFault → R → Type 0)
    (v : ListsValue) (most : ℕ) (old new : R) (result : Result Slice ScanFault) : Type 0 where
  pub terms : List (List ℕ)
  pub asks : Asks gives fails (flat_map (refs_at v.index) terms) old new result
  pub of_slice : IfOk result (λ slice. terms ≡ map (λ t. t.term) slice.terms)
  pub first : ForSome told (λ bytes. (s : Served) (m : Merge) → IsServed tokens_of s → StandsForServed v s → s.merge ≡ Some m
      → AreFirst terms (taken_from (pairs_under (stands_by (pairs_told bytes) s.listing) s.listing m) 0 (take most (terms_left s.listing m))))
