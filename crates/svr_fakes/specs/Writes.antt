-- A sink in memory, and what a write and a flush answer and do.
use Rattle.std.specs.Prelude.{◌≡◌, ℕ, ◌+◌, ◌^◌, min, List, [], ◌++◌, take, true, Bool, if◌then◌else◌}
use Rattle.std.specs.Prelude.{Result, Ok, Err, IfOk, IsErr}
use Rattle.svr_edge.specs.declared.source.Failed.{Failed}
use Rattle.svr_edge.specs.Causes.{one_more}
use Rattle.svr_fakes.specs.Calls.{is_listed}

-- the bytes that were taken, those of them that were sent on, the most that one write takes, the numbers of the calls
-- that fail, and how many writes, flushes and faults there were
pub record SinkState : Type 0 where
  pub taken : List ℕ
  pub sent : List ℕ
  pub step : ℕ
  pub fail : List ℕ
  pub writes : ℕ
  pub flushes : ℕ
  pub faults : ℕ

-- a sink that has taken nothing
abbrev pub new_sink : ℕ → List ℕ → SinkState
new_sink step fail = record { taken = []; sent = []; step = step; fail = fail; writes = 0; flushes = 0; faults = 0 }

-- the next write fails, also where memory is not wanting
abbrev pub write_fails : SinkState → Bool
write_fails s = is_listed s.fail (one_more s.writes)

-- how many bytes a write that doesn't fail takes, of a piece of this length
abbrev pub write_count : SinkState → ℕ → ℕ
write_count s len = min len s.step

-- a listed write fails, and one that doesn't fail takes as many bytes as it can
pub record WriteAnswers (s : SinkState) (len : ℕ) (result : Result ℕ Failed) : Type 0 where
  pub listed : write_fails s ≡ true → IsErr result
  pub count : IfOk result (λ n. n ≡ write_count s len)

-- the sink after a write of this piece that was answered so
abbrev pub after_write : SinkState → List ℕ → Result ℕ Failed → SinkState
after_write s piece (Ok n) = record s { taken = s.taken ++ take n piece; writes = one_more s.writes }
after_write s piece (Err e) = record s { writes = one_more s.writes; faults = one_more s.faults }

-- the next flush fails: its number is listed above those of the writes
abbrev pub flush_fails : SinkState → Bool
flush_fails s = is_listed s.fail (one_more s.flushes + 2 ^ 32)

-- what the next flush answers
abbrev pub flush_answer : SinkState → Result (Unit {0}) Failed
flush_answer s = if flush_fails s then Err (record {}) else Ok tt

-- the sink after the next flush
abbrev pub after_flush : SinkState → SinkState
after_flush s =
    if flush_fails s
    then record s { flushes = one_more s.flushes; faults = one_more s.faults }
    else record s { sent = s.taken; flushes = one_more s.flushes }
