-- What a disk over a file means to its callers: its size and its counts of faults. It tells no content and no reads, and a crash may leave
-- anything of it.
use Rattle.std.specs.Prelude.{ℕ, None, ⊤, max, Result, Ok, Err}
use Rattle.svr_edge.specs.Causes.{one_more}
use Rattle.svr_edge.specs.Disk.{DiskView, IsDisk}
use Rattle.svr_host.specs.Faults.{counted_fault}

pub record FileState : Type 0 where
  pub size : ℕ
  pub read_faults : ℕ
  pub write_faults : ℕ

abbrev pub file_view : FileState → DiskView
file_view file = record {
  size = file.size;
  content = None;
  trace = None;
  clock = 0;
  since = λ t image. ⊤;
  read_faults = file.read_faults;
  write_faults = file.write_faults;
}

pub file_laws : (file : FileState) → IsDisk (file_view file)
file_laws file = record {
  sized = λ bytes told. cc;
  as_it_reads = λ bytes told. cc;
  earlier = λ t u image le left. left;
}

-- a file after a look at its length, or a read
abbrev pub after_read : {T E : Type 0} → FileState → Result T E → FileState
after_read file result = record file { read_faults = counted_fault file.read_faults result }

-- and after a sync
abbrev pub after_sync : {T E : Type 0} → FileState → Result T E → FileState
after_sync file result = record file { write_faults = counted_fault file.write_faults result }

-- and after a write up to that end: it has grown, where the write succeeded
abbrev pub after_write : {T E : Type 0} → FileState → ℕ → Result T E → FileState
after_write file end (Ok done) = record file { size = max file.size end }
after_write file end (Err e) = record file { write_faults = one_more file.write_faults }
