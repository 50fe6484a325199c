-- Why the calls of a journal fail.
use Rattle.std.specs.Prelude.{◌≡◌, ◌≤◌, Result, Err}
use Rattle.svr_edge.specs.Causes.{Rose}
use Rattle.svr_edge.specs.Disk.{DiskView, Stays}
use Rattle.svr_journal.specs.Opening.{AnyRose, CountsKept}
use Rattle.svr_journal.specs.declared.faults.JournalError.{JournalError}
use Rattle.svr_journal.specs.declared.faults.JournalError.TheVariants as error

-- the disk is as it was, and it failed only where its count of failed reads rose
pub record ReadsAlone {T : Type 0} (old new : DiskView) (result : Result T JournalError) : Type 0 where
  pub stays : Stays old new
  pub device : result ≡ Err error.Device → Rose old.read_faults new.read_faults
  pub later : old.read_faults ≤ new.read_faults
  pub writes : new.write_faults ≡ old.write_faults

-- neither count fell, and the disk failed only where one of them rose
pub record OpenCauses {T : Type 0} (old new : DiskView) (result : Result T JournalError) : Type 0 where
  pub device : result ≡ Err error.Device → AnyRose old new
  pub counts : CountsKept old new
