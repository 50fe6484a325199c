-- Words of private clauses: how serving ends, before the fault line.
use Rattle.std.specs.Prelude.{◌≡◌, ◌⊎◌, ◌≤◌, ◌^◌, ℕ, true, List, [], ◌++◌, flat_map, take, Some, None, Result, Ok, Err, ⊤}
use Rattle.std.specs.Io.KnownBytes.{Appends}
use Rattle.svr_core.specs.Pages.{HavePages}
use Rattle.svr_core.specs.Replay.{replayed}
use Rattle.svr_core.specs.Run.{IsRun, Turn, doubtful, kept, reads_of, records_of, state_in_end}
use Rattle.svr_core.specs.State.{IsWithMerge, Served, State}
use Rattle.svr_edge.specs.Causes.{Rose}
use Rattle.svr_edge.specs.Disk.{DiskView, IsImage, Leaves, Reads}
use Rattle.svr_journal.specs.File.{StandsForSome}
use Rattle.svr_journal.specs.Opening.{AnyRose, opened_bytes}
use Rattle.svr_pages.specs.Stretch.{with_reads}
use Rattle.svr_request.specs.declared.reply.Fault.TheVariants as fault
use Rattle.svr_request.specs.declared.reply.Reply.TheVariants.{Faulted}
use Rattle.svr_store.specs.Opening.{IsNoJournal, Opens, StoodFor, StoodForState}
use Rattle.svr_store.specs.Store.{Keeps, KeepsState}
use Rattle.svr_serve.specs.declared.ending.Ending.{Ending}
use Rattle.svr_serve.specs.declared.ending.Ending.TheVariants as ending
use Rattle.svr_serve.specs.declared.session.Session.{Session}
use Rattle.svr_serve.specs.Layout.{status_of}
use Rattle.svr_serve.specs.Program.{Answered, EndsInBlock, EndsWith, GoesOn, IsFound, IsHalfMade, Recovers, SendsAll, Streams}
use Rattle.svr_serve.specs.Program.{ReadAsNeeded, ReadsBehind, Survives, Took, TookLess, WritesPart, cache_in, lines_of, requests_in}
use Rattle.svr_serve.specs.Turning.{IsNew}

-- ---- before a request was read

-- why words weren't read, or that they don't ask to serve
abbrev pub StopsAtWords : Ending → List (List ℕ) → Type 0
StopsAtWords ending.Words words = cache_in words ≡ None
StopsAtWords ending.Memory words = ⊤
StopsAtWords _ words = ⊥

-- why a disk couldn't be opened
abbrev pub OpeningStops : Ending → DiskView → DiskView → Type 0
OpeningStops ending.Device old new = AnyRose old new
OpeningStops (ending.Journal at) old new = (bytes : List ℕ) → Reads old bytes → IsNoJournal (opened_bytes bytes) at × Reads new bytes
OpeningStops ending.Memory old new = ⊤
OpeningStops _ old new = ⊥

-- a disk was opened, with so many pages to be cached at most; or not
abbrev pub OpensSession : Result Session Ending → ℕ → DiskView → DiskView → Type 0
OpensSession (Ok session) cache old new = IsNew session new × (session.store.pages.capacity ≡ cache) × Opens old new session.store
OpensSession (Err e) cache old new = OpeningStops e old new

-- the disk couldn't be opened; no request was read, and nothing written
pub record StaysClosed (e : Ending) (before after : Streams) (old new : DiskView) : Type 0 where
  pub streams : after ≡ before
  pub images : Leaves old new (IsHalfMade old)
  pub stops : OpeningStops e old new

-- ---- turns

-- the endings behind turns
abbrev pub EndsServing : Ending → Type 0
EndsServing ending.Words = ⊥
EndsServing ending.Device = ⊥
EndsServing (ending.Journal at) = ⊥
EndsServing _ = ⊤

-- turns were carried from an opening state on, over a disk that keeps its records or not, and serving ended so behind them
pub record Ran (kept : Type 0) (e : Ending) (opening : State) (turns : List Turn) (before after : Streams) : Type 0 where
  pub serving : EndsServing e
  pub run : IsRun kept opening turns
  pub answered : Answered (status_of e) before.left after.left (requests_in turns)
  pub lines : (e ≡ ending.Output → ⊥) → Appends before.taken after.taken (lines_of turns)
  pub part : e ≡ ending.Output → WritesPart (lines_of turns) before after
  pub closed : e ≡ ending.Write → EndsWith (Faulted fault.Write) turns
  pub going : (e ≡ ending.Write → ⊥) → (e ≡ ending.Memory → ⊥) → GoesOn turns

-- the records of turns, read again, give what is served after them, or that with a merge that was stopped
pub record GivesAgain (opening : State) (turns : List Turn) : Type 0 where
  pub next : Served
  pub gives : replayed opening.bodies opening.served (records_of turns) ≡ Some next
  pub same : IsWithMerge next (state_in_end opening turns).served

-- the first ones of the records, read again behind those before, are accepted
pub record GivesFirst (known : Type 0) (opening : State) (first : List (List ℕ)) : Type 0 where
  pub served : Served
  pub gives : replayed opening.bodies opening.served first ≡ Some served
  pub pages : HavePages (opening.bodies ++ first) served.listed
  pub lawful : known → served.lawful ≡ true

-- what became of the records, where the disk kept them
pub record Stores (cache : ℕ) (opening : State) (turns : List Turn) (old new : DiskView) : Type 0 where
  -- what was read
  pub trace : new.trace ≡ with_reads old.trace (reads_of turns)
  pub needed : ReadAsNeeded (KeepsState old opening) cache opening [] turns
  pub any_moment : Keeps old opening.bodies → Leaves old new (StandsForSome opening.bodies (records_of turns))
  pub in_end : Keeps old opening.bodies → (image : List ℕ) → IsImage new image
      → StandsForSome (opening.bodies ++ flat_map kept turns) (flat_map doubtful turns) image
  pub again : (n : ℕ) → GoesOn (take n turns) → GivesAgain opening (take n turns)
  pub each : (first others : List (List ℕ)) → records_of turns ≡ first ++ others → GivesFirst (KeepsState old opening) opening first

abbrev pub Carries : ℕ → Ending → State → Streams → Streams → DiskView → DiskView → Type 0
Carries cache e opening before after old new =
    (turns : List Turn) × Ran (KeepsState old opening) e opening turns before after × Stores cache opening turns old new

-- the disk was opened, and turns were carried from what it stood for, with so many pages to be cached
pub record Serving (cache : ℕ) (e : Ending) (before after : Streams) (old new : DiskView) : Type 0 where
  pub opening : State
  pub turns : List Turn
  pub found : IsFound old opening
  pub ran : Ran (StoodForState old opening) e opening turns before after
  pub reads : ReadsBehind (StoodForState old opening) cache opening turns new
  pub survives : StoodFor old opening.bodies → Survives opening.bodies turns old new
  pub recovers : Recovers (StoodForState old opening) opening turns

-- ---- causes

pub record EndsBecause (e : Ending) (before after : Streams) (old new : DiskView) : Type 0 where
  pub sent : SendsAll before after
  pub later : before.failed_writes ≤ after.failed_writes
  pub cut : e ≡ ending.Cut → EndsInBlock before.left after.left
  pub input : e ≡ ending.Input → Rose before.failed_reads after.failed_reads
  pub output : e ≡ ending.Output → Rose before.failed_writes after.failed_writes
  pub write : e ≡ ending.Write → Rose old.write_faults new.write_faults
  pub bytes : e ≡ ending.Bytes → Took (2 ^ 40) before.left after.left
  pub before_limit : (e ≡ ending.Complete) ⊎ (e ≡ ending.Cut) ⊎ (e ≡ ending.Input) → TookLess (2 ^ 40) before.left after.left
