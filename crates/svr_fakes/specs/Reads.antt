-- A source in memory, and what a read answers and does.
use Rattle.std.specs.Prelude.{ℕ, min, List, ◌++◌, length, take, drop, Bool, if◌then◌else◌, Result, Ok, Err}
use Rattle.svr_edge.specs.declared.source.Failed.{Failed}
use Rattle.svr_edge.specs.Causes.{one_more}
use Rattle.svr_fakes.specs.Calls.{is_listed}

-- the bytes that are left, the most that one read gives, the numbers of the reads that fail, and how many reads and
-- faults there were
pub record SourceState : Type 0 where
  pub left : List ℕ
  pub step : ℕ
  pub fail : List ℕ
  pub reads : ℕ
  pub faults : ℕ

-- a source that has not been read
abbrev pub new_source : List ℕ → ℕ → List ℕ → SourceState
new_source bytes step fail = record { left = bytes; step = step; fail = fail; reads = 0; faults = 0 }

-- the next read fails
abbrev pub read_fails : SourceState → Bool
read_fails s = is_listed s.fail (one_more s.reads)

-- how many bytes a read that doesn't fail gives, into a buffer of this length
abbrev pub read_count : SourceState → ℕ → ℕ
read_count s room = min (min (length s.left) room) s.step

-- what the next read answers, at a buffer of this length
abbrev pub read_answer : SourceState → ℕ → Result ℕ Failed
read_answer s room = if read_fails s then Err (record {}) else Ok (read_count s room)

-- the buffer after the next read: the bytes at its front, and the rest as before
abbrev pub filled : SourceState → List ℕ → List ℕ
filled s into = if read_fails s then into else take (read_count s (length into)) s.left ++ drop (read_count s (length into)) into

-- the source after the next read, at a buffer of this length
abbrev pub after_read : SourceState → ℕ → SourceState
after_read s room =
    if read_fails s
    then record s { reads = one_more s.reads; faults = one_more s.faults }
    else record s { left = drop (read_count s room) s.left; reads = one_more s.reads }
