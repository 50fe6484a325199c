-- Why a reader of lines stops, and what holds then.
use Rattle.std.specs.Prelude.{◌≡◌, ◌<◌, ◌≤◌, ℕ, ◌+◌, List, [], ◌++◌, length, Option, Result, IsErrOf}
use Rattle.std.specs.Io.KnownBytes.{Consumes}
use Rattle.svr_edge.specs.Causes.{Rose}
use Rattle.svr_lines.specs.declared.lines.InputStop.{InputStop}
use Rattle.svr_lines.specs.declared.lines.InputStop.TheVariants as stop
use Rattle.svr_lines.specs.Lines.{pieces_of, whole_part}
use Rattle.svr_lines.specs.Reading.{Reading, taken_bytes}

-- no more bytes were taken than may be, and a stop has its cause: the count of the source's faults, which doesn't fall,
-- has risen, or as many bytes were taken as may be, which is tested first
pub record HasStopCauses {T : Type 0} (before after : ℕ) (new : Reading) (result : Result T InputStop) : Type 0 where
  pub few : taken_bytes new ≤ new.limit
  pub later : before ≤ after
  pub input : IsErrOf result stop.Input → Rose before after × (taken_bytes new < new.limit)
  pub bytes : IsErrOf result stop.Bytes → taken_bytes new ≡ new.limit

-- no piece could be handed out: the bytes that were taken and aren't handed out hold no whole line that isn't passed over
pub record StopsInLine (before after : Option (List ℕ)) (old new : Reading) (bytes : List ℕ) : Type 0 where
  pub consumed : Consumes before after bytes
  pub taken : taken_bytes new ≡ taken_bytes old + length bytes
  pub limit : new.limit ≡ old.limit
  pub none : pieces_of (whole_part (old.ahead ++ bytes)) ≡ []

-- the bytes that were taken and aren't handed out hold no whole block of so many bytes
pub record StopsInBlock (before after : Option (List ℕ)) (old new : Reading) (size : ℕ) (bytes : List ℕ) : Type 0 where
  pub consumed : Consumes before after bytes
  pub taken : taken_bytes new ≡ taken_bytes old + length bytes
  pub limit : new.limit ≡ old.limit
  pub none : length (old.ahead ++ bytes) < size
