-- Which pages a search asks for.
use Rattle.std.specs.Prelude.{◌≡◌, true, List, ℕ, ◌++◌, Option, Result}
use Rattle.std.specs.Option.{ForSome}
use Rattle.svr_index.specs.Asked.{ArePages}
use Rattle.svr_iter.specs.Asked.{Stops}
use Rattle.svr_iter.specs.declared.fault.ScanFault.{ScanFault}
use Rattle.svr_listing.specs.Kept.{HoldsPosted}
use Rattle.svr_postpage.specs.Reading.{InTurn}
use Rattle.svr_postpage.specs.Wanted.{pairs_told}
use Rattle.svr_postpage.specs.declared.page_ref.PageFault.{PageFault}
use Rattle.svr_postpage.specs.declared.page_ref.PageRef.{PageRef}
use Rattle.svr_core.specs.declared.queries.Query.{Query}
use Rattle.svr_core.specs.Kept.{CoreValue, ServesAs}
use Rattle.svr_core.specs.Run.{pages_needed}
use Rattle.svr_core.specs.State.{Served}

-- pages were asked for in turn, each once: the first ones were given, and after the fault of a page the first of those that are left
-- came to it; where bytes told hold the posted pairs of what is served, they are needed pages, and after Ok all of them
pub record AsksNeeded {R T : Type 0} (told : Option (List ℕ)) (gives : R → PageRef → R → Type 0) (fails : R → PageRef → PageFault → R → Type 0)
    (core : CoreValue) (q : Query) (old new : R) (result : Result T ScanFault) : Type 0 where
  pub given : List PageRef
  pub left : List PageRef
  pub between : R
  pub in_turn : InTurn gives given old between
  pub stops : Stops fails left between new result
  pub are_needed : ForSome told (λ bytes. (s : Served) → ServesAs core s → s.lawful ≡ true → HoldsPosted (pairs_told bytes) s.listed.listing
      → ArePages result (given ++ left) (pages_needed s.listed.listing q.terms q.mode q.k))
