-- Terms in their order.
use Rattle.std.specs.Prelude.{◌≡◌, ℕ, List, Option, None, Some, filter, if◌then◌else◌}
use Rattle.std.specs.List.{slice_get}
use Rattle.svr_listing.specs.Kept.{IsListing}
use Rattle.svr_listing.specs.Listing.{Listing}
use Rattle.svr_listing.specs.Merges.{by_bytes, is_after, live_terms}
use Rattle.svr_index.specs.Index.{Indexed, StandsFor}

-- the lesser of two terms, or the one that is there
abbrev pub lesser_term : Option (List ℕ) → Option (List ℕ) → Option (List ℕ)
lesser_term None second = second
lesser_term (Some a) None = Some a
lesser_term (Some a) (Some b) = if by_bytes b a then Some b else Some a

-- the first live term behind one, or of all, in each listing that the index stands for
abbrev pub IsNextLive : Indexed → Option (List ℕ) → Option (List ℕ) → Type 0
IsNextLive index after next =
    (tokens : List ℕ → List (List ℕ)) (l : Listing) → IsListing tokens l → StandsFor index l
    → next ≡ slice_get (filter (is_after after) (live_terms l)) 0
