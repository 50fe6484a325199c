-- Which pages a call asked a reader for, and what became of each.
use Rattle.std.specs.Prelude.{◌≡◌, ℕ, List, [], ◌∷◌, ◌++◌, Option, Result, Ok, Err}
use Rattle.std.specs.Option.{ForSome}
use Rattle.svr_postpage.specs.declared.page_ref.PageFault.{PageFault}
use Rattle.svr_postpage.specs.declared.page_ref.PageRef.{PageRef}
use Rattle.svr_postpage.specs.Reading.{InTurn}
use Rattle.svr_iter.specs.declared.fault.ScanFault.{ScanFault}
use Rattle.svr_iter.specs.declared.fault.ScanFault.TheVariants as scan

-- asking for the first of these pages came to a fault; there is one
abbrev pub FailsFirst : {R : Type 0} → (R → PageRef → PageFault → R → Type 0) → List PageRef → R → R → PageFault → Type 0
FailsFirst fails [] old new why = ⊥
FailsFirst fails (page ∷ pages) old new why = fails old page why new

-- when these pages are left: none after Ok, any where memory was wanting; after a page's fault the first of them came to it
abbrev pub Stops : {R T : Type 0} → (R → PageRef → PageFault → R → Type 0) → List PageRef → R → R → Result T ScanFault → Type 0
Stops fails left old new (Ok value) = (left ≡ []) × (new ≡ old)
Stops fails left old new (Err scan.Memory) = new ≡ old
Stops fails left old new (Err (scan.Page why)) = FailsFirst fails left old new why

-- pages were asked for in turn, each once: the first ones were given, and those are left where the call stopped
pub record Asks {R T : Type 0} (gives : R → PageRef → R → Type 0) (fails : R → PageRef → PageFault → R → Type 0)
    (pages : List PageRef) (old new : R) (result : Result T ScanFault) : Type 0 where
  pub given : List PageRef
  pub left : List PageRef
  pub between : R
  pub are_these : given ++ left ≡ pages
  pub in_turn : InTurn gives given old between
  pub stops : Stops fails left between new result

-- the same where the bytes that the reader tells say which pages these are
pub record AsksByBytes {R T : Type 0} (told : Option (List ℕ)) (gives : R → PageRef → R → Type 0)
    (fails : R → PageRef → PageFault → R → Type 0)
    (pages : List ℕ → List PageRef) (old new : R) (result : Result T ScanFault) : Type 0 where
  pub given : List PageRef
  pub left : List PageRef
  pub between : R
  pub are_these : ForSome told (λ bytes. given ++ left ≡ pages bytes)
  pub in_turn : InTurn gives given old between
  pub stops : Stops fails left between new result
