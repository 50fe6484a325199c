-- What a call leaves of the reader that it was lent.
use Rattle.std.specs.Prelude.{◌≡◌, ◌≤◌, ℕ, List, Option, Result, Err}
use Rattle.svr_edge.specs.Causes.{Rose}
use Rattle.svr_postpage.specs.declared.page_ref.PageFault.TheVariants as PageFault
use Rattle.svr_iter.specs.declared.fault.ScanFault.{ScanFault}

-- it tells the same bytes, may be asked for pages again, its count of faults has not fallen, and a read that failed was counted
pub record KeepsReader {R T : Type 0} (told : R → Option (List ℕ)) (ready : R → Type 0) (faults : R → ℕ) (old new : R)
    (result : Result T ScanFault) : Type 0 where
  pub same_told : told new ≡ told old
  pub is_ready : ready new
  pub later : faults old ≤ faults new
  pub failed : result ≡ Err (ScanFault.Page PageFault.Read) → Rose (faults old) (faults new)
