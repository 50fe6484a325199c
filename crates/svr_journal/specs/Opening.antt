-- What opening a disk finds, and leaves.
use Rattle.std.specs.Prelude.{◌≡◌, ◌≢◌, ◌≤◌, ◌⊎◌, ℕ, List, [], ◌∷◌, ◌++◌, take, Result, Ok, Err, ⊤}
use Rattle.svr_edge.specs.Causes.{Rose}
use Rattle.svr_edge.specs.Disk.{DiskView}
use Rattle.svr_journal.specs.File.{magic}
use Rattle.svr_journal.specs.declared.faults.JournalError.{JournalError}
use Rattle.svr_journal.specs.declared.faults.JournalError.TheVariants.{Device, NotAJournal, Memory}

-- an empty disk gets a journal of no records, and any other stays
abbrev pub opened_bytes : List ℕ → List ℕ
opened_bytes [] = magic ++ 0 ∷ []
opened_bytes (byte ∷ bytes) = byte ∷ bytes

-- what opening may answer where these bytes are on the disk
abbrev pub OpenAnswers : {J : Type 0} → List ℕ → Result J JournalError → Type 0
OpenAnswers bytes (Ok journal) = take 8 (opened_bytes bytes) ≡ magic
OpenAnswers bytes (Err Device) = ⊤
OpenAnswers bytes (Err (NotAJournal at)) = (at ≡ 0) × (take 8 (opened_bytes bytes) ≢ magic)
OpenAnswers bytes (Err Memory) = ⊥

-- one of the counts rose
abbrev pub AnyRose : DiskView → DiskView → Type 0
AnyRose old new = Rose old.read_faults new.read_faults ⊎ Rose old.write_faults new.write_faults

-- neither count fell
pub record CountsKept (old new : DiskView) : Type 0 where
  pub reads : old.read_faults ≤ new.read_faults
  pub writes : old.write_faults ≤ new.write_faults
