-- Words of private clauses.
use Rattle.std.specs.Prelude.{◌≡◌, List, [], ◌∷◌, ◌++◌, ℕ, Option, Some, None, true}
use Rattle.std.specs.Option.{ForSome}
use Rattle.svr_postpage.specs.declared.page_ref.PageFault.{PageFault}
use Rattle.svr_postpage.specs.declared.page_ref.PageRef.{PageRef}
use Rattle.svr_postpage.specs.declared.pair.Pair.{Pair}
use Rattle.svr_postpage.specs.Pairs.{fill_a_page, ref_of}
use Rattle.svr_postpage.specs.Wanted.{TellsDamage, has_head_of, pairs_told}
use Rattle.svr_iter.specs.declared.fault.ScanFault.{ScanFault}
use Rattle.svr_iter.specs.declared.fault.ScanFault.TheVariants as fault
use Rattle.svr_long.specs.Cursor.{kept}
use Rattle.std.specs.declared.ops.Bound.{Bound}
use Rattle.std.specs.declared.ops.Bound.TheVariants as bound

-- where the terms behind one begin, or all
abbrev pub behind : Option (List ℕ) → Bound (List ℕ)
behind None = bound.Unbounded
behind (Some term) = bound.Excluded term

-- pairs are those of a page that begins with the wanted pair and has as many
pub record IsPageOf (page : PageRef) (pairs : List Pair) : Type 0 where
  pub fill : fill_a_page pairs ≡ true
  pub head : has_head_of page (ref_of page.at pairs) ≡ true

-- a page was read, and of its pairs those are left that stand in front of the next page
pub record ReadsPage (told : Option (List ℕ)) (page : PageRef) (pages : List PageRef) (after : List Pair) : Type 0 where
  pub pairs : List Pair
  pub is_page : IsPageOf page pairs
  pub as_told : ForSome told (λ bytes. pairs ≡ pairs_told bytes page)
  pub left : after ≡ kept pages pairs

-- the fault of a page, which tells what is wrong with the bytes there
abbrev pub IsFaultOf : PageRef → Option (List ℕ) → ScanFault → Type 0
IsFaultOf page told (fault.Page why) = TellsDamage page told why
IsFaultOf page told fault.Memory = ⊥

-- asking for the page came to this fault
abbrev pub FailsAs : {R : Type 0} → (R → PageRef → PageFault → R → Type 0) → R → PageRef → R → ScanFault → Type 0
FailsAs fails old page new (fault.Page why) = fails old page why new
FailsAs fails old page new fault.Memory = ⊥

-- a step of taking a group: the id of the first pair that was read is taken, or the next page is read
abbrev pub Steps : {R : Type 0} → (R → PageRef → R → Type 0) → Option (List ℕ) → List Pair → List PageRef → List Pair → List PageRef
    → List ℕ → List ℕ → R → R → Type 0
Steps gives told [] [] pairs pages before after old new = ⊥
Steps gives told [] (page ∷ rest) pairs pages before after old new =
    ReadsPage told page rest pairs × (pages ≡ rest) × (after ≡ before) × gives old page new
Steps gives told (pair ∷ left) rest pairs pages before after old new =
    (pairs ≡ left) × (pages ≡ rest) × (after ≡ before ++ pair.id ∷ []) × (new ≡ old)

-- a step that failed: the next page came to this fault, or memory was wanting for the id of a pair that was read
abbrev pub StepFails : {R : Type 0} → (R → PageRef → PageFault → R → Type 0) → List Pair → List PageRef → R → R → ScanFault → Type 0
StepFails fails [] [] old new why = ⊥
StepFails fails [] (page ∷ pages) old new why = FailsAs fails old page new why
StepFails fails (pair ∷ pairs) pages old new why = (why ≡ fault.Memory) × (new ≡ old)
