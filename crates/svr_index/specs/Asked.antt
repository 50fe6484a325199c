-- Which pages a search asks for.
use Rattle.std.specs.Prelude.{◌≡◌, ℕ, List, ◌++◌, Option, Result, Ok, Err}
use Rattle.std.specs.List.{sum_by}
use Rattle.std.specs.Option.{ForSome}
use Rattle.svr_iter.specs.Asked.{Stops}
use Rattle.svr_iter.specs.declared.fault.ScanFault.{ScanFault}
use Rattle.svr_listing.specs.Kept.{Ascends, HoldsPosted, IsListing}
use Rattle.svr_listing.specs.Listing.{Listing, documents_of, groups_by_bytes, needed, pages_at}
use Rattle.svr_listing.specs.Visits.{pages_visited}
use Rattle.svr_long.specs.Cursor.{page_pairs}
use Rattle.svr_num.specs.declared.mode.Mode.{Mode}
use Rattle.svr_postpage.specs.Reading.{InTurn}
use Rattle.svr_postpage.specs.Wanted.{pairs_told}
use Rattle.svr_postpage.specs.declared.page_ref.PageFault.{PageFault}
use Rattle.svr_postpage.specs.declared.page_ref.PageRef.{PageRef}
use Rattle.svr_index.specs.Index.{Indexed, StandsFor}

-- each page stands as often in one list as in the other
abbrev pub AreSame : List PageRef → List PageRef → Type 0
AreSame some others = (f : PageRef → ℕ) → sum_by f some ≡ sum_by f others

-- after Ok these are all pages, else some of them
abbrev pub ArePages : {T : Type 0} → Result T ScanFault → List PageRef → List PageRef → Type 0
ArePages (Ok value) asked pages = AreSame asked pages
ArePages (Err fault) asked pages = (others : List PageRef) × AreSame (asked ++ others) pages

-- pages were asked for in turn, each once: the first ones were given, and after the fault of a page the first of those that are left
-- came to it. They are pages of the groups that are visited by bytes told, and where these hold the posted pairs, needed pages of the
-- query; after Ok all of them
pub record AsksFor {R T : Type 0} (told : Option (List ℕ)) (gives : R → PageRef → R → Type 0) (fails : R → PageRef → PageFault → R → Type 0)
    (index : Indexed) (terms : List (List ℕ)) (m : Mode) (k : ℕ) (score : ℕ → Option ℕ) (old new : R) (result : Result T ScanFault)
    : Type 0 where
  pub given : List PageRef
  pub left : List PageRef
  pub between : R
  pub in_turn : InTurn gives given old between
  pub stops : Stops fails left between new result
  pub visited : ForSome told (λ bytes. (l : Listing) → Ascends (documents_of l) → StandsFor index l
      → ArePages result (given ++ left)
      (pages_visited k l.rules.bound score (pages_at l terms) (groups_by_bytes (page_pairs bytes) l terms m)))
  pub are_needed : ForSome told (λ bytes. (tokens : List ℕ → List (List ℕ)) (l : Listing) → IsListing tokens l → StandsFor index l
      → HoldsPosted (pairs_told bytes) l → ArePages result (given ++ left) (needed l terms m k score))
