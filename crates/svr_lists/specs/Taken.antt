-- Slices as their records have them: terms, with the pages that stand behind them.
use Rattle.std.specs.Prelude.{◌≡◌, ℕ, zero, suc, ◌+◌, ◌*◌, ◌&&◌, Bool, true, List, [], ◌∷◌, ◌++◌, drop, take, Option, None, Some, option_map}
use Rattle.std.specs.Prelude.{if◌then◌else◌}
use Rattle.std.specs.List.{list_all}
use Rattle.std.specs.Option.{option_and_then}
use Rattle.svr_listing.specs.declared.pages.Page.{Page}
use Rattle.svr_listing.specs.declared.pages.TermPages.{TermPages}
use Rattle.svr_listing.specs.Listing.{is_effective}
use Rattle.svr_listing.specs.Merges.{Merge, is_after, page_at}
use Rattle.svr_listing.specs.Served.{IsServed, Served, after, merge_slice}
use Rattle.svr_postpage.specs.declared.pair.Pair.{Pair}
use Rattle.svr_postpage.specs.Pages.{page_in}
use Rattle.svr_postpage.specs.Pairs.{first_pair, is_before}
use Rattle.svr_record.specs.declared.record.TermPages as kept
use Rattle.svr_tokens.specs.Tokens.{tokens_of}
use Rattle.svr_lists.specs.Lists.{ListsValue, StandsForServed, last_in}
use Rattle.svr_lists.specs.Slices.{Slice, slice_of}

-- each of these pairs stands before the first one of the pages behind
abbrev pub are_before : List Pair → List Page → Bool
are_before pairs [] = true
are_before pairs (page ∷ pages) = list_all (λ pair. is_before pair (first_pair page.head)) pairs

-- a page of these pairs at an address, in front of others, if they are in page order
abbrev pub page_onto : ℕ → List Pair → List Page → Option (List Page)
page_onto at pairs pages = if are_before pairs pages then Some (page_at at pairs ∷ pages) else None

-- so many pages, one behind the other from an address on, if the bytes are pages in page order
unfoldable pub pages_in : ℕ → ℕ → List ℕ → Option (List Page)
pages_in at zero bytes = Some []
pages_in at (suc count) bytes =
    option_and_then (λ pairs. option_and_then (page_onto at pairs) (pages_in (at + 4096) count (drop 4096 bytes))) (page_in (take 4096 bytes))

-- terms with their pages, from an address on, if those of each are pages in page order
unfoldable pub terms_in : ℕ → List kept.TermPages → List ℕ → Option (List TermPages)
terms_in at [] bytes = Some []
terms_in at (t ∷ ts) bytes =
    option_and_then (λ pages. option_map (λ terms. record { term = t.term; pages = pages } ∷ terms)
    (terms_in (at + 4096 * t.pages) ts (drop (4096 * t.pages) bytes))) (pages_in at t.pages bytes)

-- terms ascend by their bytes behind the last one
unfoldable pub ascend_behind : Option (List ℕ) → List kept.TermPages → Bool
ascend_behind last [] = true
ascend_behind last (t ∷ ts) = is_after last t.term && ascend_behind (Some t.term) ts

-- the terms of a slice with their pages, whose first lies at an address, if it may come behind the last term
abbrev pub taken_of : Option (List ℕ) → Slice → ℕ → Option (List TermPages)
taken_of last slice at = if ascend_behind last slice.terms then terms_in at slice.terms slice.pages else None

-- the last one of terms, or where there is none the one before
unfoldable pub last_of : Option (List ℕ) → List TermPages → Option (List ℕ)
last_of last [] = last
last_of last (t ∷ ts) = last_of (Some t.term) ts

-- a merge with these terms more
abbrev pub with_taken : Merge → List TermPages → Merge
with_taken m terms = record { rules = m.rules; keys = m.keys; last = last_of m.last terms; lists = m.lists ++ terms }

-- a listing with its merge, if one is begun, with these terms more
abbrev pub with_terms : Served → List TermPages → Served
with_terms s terms = record { listing = s.listing; merge = option_map (λ m. with_taken m terms) s.merge }

-- the terms of a slice with their pages, if a merge is begun in which it may come next
abbrev pub taken_by : ListsValue → Slice → ℕ → Option (List TermPages)
taken_by v slice at = option_and_then (λ last. taken_of last slice at) (last_in v)

-- lists took a slice: where they stood for a listing with its merge, they stand for it with these terms more
pub record TakesSlice (old new : ListsValue) (slice : Slice) (at : ℕ) : Type 0 where
  pub terms : List TermPages
  pub gives : taken_by old slice at ≡ Some terms
  pub stands : (s : Served) → StandsForServed old s → StandsForServed new (with_terms s terms)
  pub last : last_in new ≡ option_map (λ last. last_of last terms) (last_in old)
  -- where the slice is the next one of the merge, it is what the merge has then
  pub next : (s : Served) (m : Merge) (most : ℕ) → IsServed tokens_of s → StandsForServed old s → s.merge ≡ Some m
      → slice ≡ slice_of (is_effective s.listing) s.listing m most
      → with_terms s terms ≡ after s (merge_slice (λ n. at + 4096 * n) most)
