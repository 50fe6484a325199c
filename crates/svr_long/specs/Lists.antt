-- The pages of terms.
use Rattle.std.specs.Prelude.{◌≡◌, ◌<◌, ℕ, zero, ◌+◌, List, [], ◌∷◌, length, find, IsSome, Option, Some, unwrap_or, if◌then◌else◌}
use Rattle.std.specs.Cmp.Lexicographic.{slice_cmp}
use Rattle.std.specs.List.Sorted.{IsStrictlySortedBy}
use Rattle.std.specs.Map.{keys_of, lookup}
use Rattle.std.specs.Ordering.{nat_cmp}
use Rattle.std.specs.Str.{bytes_eq}
use Rattle.svr_listing.specs.Merges.{is_after}
use Rattle.svr_postpage.specs.declared.page_ref.PageRef.{PageRef}

-- the pages of a term, if it is there
abbrev pub pages_at : List (List ℕ × List PageRef) → List ℕ → Option (List PageRef)
pages_at lists term = lookup (bytes_eq term) lists

-- each term that is there has a page
abbrev pub HavePages : List (List ℕ × List PageRef) → Type 0
HavePages lists = (term : List ℕ) → IsSome (pages_at lists term) → 0 < length (unwrap_or (pages_at lists term) [])

-- a term has these pages now, and every other its own
abbrev pub SetsPages : List (List ℕ × List PageRef) → List (List ℕ × List PageRef) → List ℕ → List PageRef → Type 0
SetsPages old new term pages = (t : List ℕ) → pages_at new t ≡ (if bytes_eq term t then Some pages else pages_at old t)

-- how many pages all terms have
abbrev pub page_count : List (List ℕ × List PageRef) → ℕ
page_count [] = zero
page_count (list ∷ lists) = length list.1 + page_count lists

-- the first term behind one, or of all
abbrev pub term_after : List (List ℕ × List PageRef) → Option (List ℕ) → Option (List ℕ)
term_after lists after = find (is_after after) (keys_of lists)

-- terms ascend by their bytes, each once
abbrev pub Ascends : List (List ℕ × List PageRef) → Type 0
Ascends lists = IsStrictlySortedBy (slice_cmp nat_cmp) (keys_of lists)
