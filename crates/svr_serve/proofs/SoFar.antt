-- What holds between two turns.
use Rattle.std.specs.Prelude.{◌≡◌, ◌<◌, ◌≤◌, ◌^◌, ℕ, true, false, List, ◌++◌, length, Option}
use Rattle.std.specs.Io.KnownBytes.{Appends, Consumes}
use Rattle.svr_core.specs.Run.{Turn}
use Rattle.svr_core.specs.State.{State}
use Rattle.svr_edge.specs.Disk.{DiskView}
use Rattle.svr_lines.specs.Reading.{KnowsEnd, taken_bytes}
use Rattle.svr_serve.specs.Input.{ends_in_block, parts_of, requests_of, whole_requests}
use Rattle.svr_serve.specs.Program.{Streams, lines_of, requests_in}
use Rattle.svr_serve.specs.Turning.{Standing}
use Rattle.svr_serve.proofs.Kept.{Kept}

-- a text of whole requests: its parts stand in front of those of each text behind it
pub record IsWhole (text : List ℕ) : Type 0 where
  pub joins : (more : List ℕ) → parts_of (text ++ more) ≡ parts_of text ++ parts_of more
  pub whole : whole_requests text ≡ requests_of text

-- what was read, answered, stored and written since a start at these bytes left and these bytes taken
pub record SoFar (cache : ℕ) (opening : State) (left taken : Option (List ℕ)) (disk : DiskView) (now : Standing) : Type 0 where
  -- the bytes that were handed out or passed over
  pub handed : List ℕ
  pub consumed : Consumes left now.streams.left (handed ++ now.lines.ahead)
  pub count : now.lines.handed ≡ length handed
  pub few : taken_bytes now.lines ≤ 2 ^ 40
  pub limit : now.lines.limit ≡ 2 ^ 40
  pub whole : now.lines.ended ≡ false → IsWhole handed
  pub uncut : ends_in_block handed ≡ false
  pub known_end : KnowsEnd now.lines now.streams.left
  pub before_limit : now.lines.ended ≡ true → taken_bytes now.lines < 2 ^ 40
  -- the turns
  pub turns : List Turn
  pub asked : requests_in turns ≡ requests_of handed
  pub kept : Kept cache opening turns disk now.disk now.store
  pub written : Appends taken now.streams.taken (lines_of turns)

-- and that nothing is kept back, and no count of faults has fallen
pub record Between (cache : ℕ) (opening : State) (start : Streams) (disk : DiskView) (now : Standing) : Type 0 where
  pub so_far : SoFar cache opening start.left start.taken disk now
  pub sent : start.sent ≡ start.taken → now.streams.sent ≡ now.streams.taken
  pub reads_later : start.failed_reads ≤ now.streams.failed_reads
  pub writes_later : start.failed_writes ≤ now.streams.failed_writes
  pub disk_later : disk.write_faults ≤ now.disk.write_faults
