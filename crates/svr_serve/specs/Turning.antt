-- Words of private clauses: what a turn of the program does.
use Rattle.std.specs.Prelude.{◌≡◌, ◌⊎◌, ◌<◌, ◌≤◌, ◌^◌, ℕ, false, List, [], Option}
use Rattle.std.specs.Io.KnownBytes.{Appends}
use Rattle.svr_core.specs.Run.{closes}
use Rattle.svr_core.specs.State.{State}
use Rattle.svr_edge.specs.Causes.{Rose}
use Rattle.svr_edge.specs.Disk.{DiskView, LeavesNoOther}
use Rattle.svr_lines.specs.Reading.{Reading, new_reading, taken_bytes}
use Rattle.svr_request.specs.declared.reply.Fault.TheVariants as fault
use Rattle.svr_request.specs.declared.reply.Reply.{Reply}
use Rattle.svr_request.specs.declared.reply.Reply.TheVariants.{Faulted}
use Rattle.svr_request.specs.Replies.{text_of}
use Rattle.svr_request.specs.Requests.{Submitted}
use Rattle.svr_store.specs.Store.{IsOpen, Keeps, Serves, StoreValue}
use Rattle.svr_store.specs.Submitting.{SubmitCauses, Submits}
use Rattle.svr_serve.specs.declared.ending.Ending.{Ending}
use Rattle.svr_serve.specs.declared.ending.Ending.TheVariants as ending
use Rattle.svr_serve.specs.declared.session.Session.{Session}
use Rattle.svr_serve.specs.declared.turn.Turn.{Turn}
use Rattle.svr_serve.specs.declared.turn.Turn.TheVariants as turn
use Rattle.svr_serve.specs.Layout.{EndsInput, StopsReading, TakesRequest}
use Rattle.svr_serve.specs.Program.{IsPrefix, Streams}

-- nothing was read, nothing is cached, and the store answers requests
pub record IsNew (s : Session) (disk : DiskView) : Type 0 where
  pub lines : s.lines ≡ new_reading (2 ^ 40)
  pub uncached : s.store.pages.pages ≡ []
  pub is_open : IsOpen s.store disk

-- nothing was done to the disk
pub record IsIdle (old new : DiskView) : Type 0 where
  pub images : LeavesNoOther old new
  pub keeps : (bodies : List (List ℕ)) → Keeps old bodies → Keeps new bodies
  pub writes : new.write_faults ≡ old.write_faults
  pub trace : new.trace ≡ old.trace

-- a request was answered so
pub record Answers (old new : DiskView) (store after : StoreValue) (request : Submitted) (reply : Reply) : Type 0 where
  pub submits : (s : State) → Serves store s → Submits old new store after s request reply
  pub causes : SubmitCauses old new reply

-- the next request was taken, and answered so
pub record Replied (before after : Option (List ℕ)) (lines now : Reading) (old new : DiskView) (store then : StoreValue) (reply : Reply) : Type 0 where
  pub request : Submitted
  pub takes : TakesRequest before after lines now request
  pub answers : Answers old new store then request reply

-- a reply that doesn't close the store, and its text is ready
pub record IsReady (s : Session) (disk : DiskView) (reply : Reply) : Type 0 where
  pub going : closes reply ≡ false
  pub text : s.reply ≡ text_of reply
  pub is_open : IsOpen s.store disk

-- the ending of a reply that closes the store
abbrev pub IsClosedBy : Ending → Reply → Type 0
IsClosedBy e reply =
    ((e ≡ ending.Write) × (reply ≡ Faulted fault.Write)) ⊎ ((e ≡ ending.Memory) × (reply ≡ Faulted fault.Memory))

-- no request could be taken, and nothing has changed; or one was answered by a reply that closes the store
abbrev pub StopsUnanswered : Ending → Option (List ℕ) → Option (List ℕ) → Reading → Reading → DiskView → DiskView → StoreValue → StoreValue → Type 0
StopsUnanswered e before after lines now old new store then =
    (StopsReading e before after lines now × IsIdle old new × (then ≡ store))
    ⊎ ((reply : Reply) × IsClosedBy e reply × Replied before after lines now old new store then reply)

-- all that a turn reads or changes
pub record Standing : Type 1 where
  pub streams : Streams
  pub disk : DiskView
  pub lines : Reading
  pub store : StoreValue

abbrev pub standing : Streams → DiskView → Reading → StoreValue → Standing
standing streams disk lines store = record { streams = streams; disk = disk; lines = lines; store = store }

abbrev pub TurnReplies : Standing → Standing → Reply → Type 0
TurnReplies old new reply = Replied old.streams.left new.streams.left old.lines new.lines old.disk new.disk old.store new.store reply

-- a request was answered, by a reply that doesn't close the store, and this was written of it
pub record Writes (old new : Standing) (reply : Reply) (written : List ℕ) : Type 0 where
  pub replied : TurnReplies old new reply
  pub going : closes reply ≡ false
  pub bytes : Appends old.streams.taken new.streams.taken written

-- nothing was written
pub record IsSilent (old new : Standing) : Type 0 where
  pub taken : new.streams.taken ≡ old.streams.taken
  pub sent : new.streams.sent ≡ old.streams.sent

-- a reply was written and sent on, and the store answers requests
pub record ServesTurn (old new : Standing) : Type 0 where
  pub reply : Reply
  pub writes : Writes old new reply (text_of reply)
  pub sent : new.streams.sent ≡ new.streams.taken
  pub is_open : IsOpen new.store new.disk

-- the input is at its end, and nothing was done
pub record EndsTurn (old new : Standing) : Type 0 where
  pub input : EndsInput old.streams.left new.streams.left old.lines new.lines
  pub idle : IsIdle old.disk new.disk
  pub store : new.store ≡ old.store
  pub silent : IsSilent old new

-- the sink failed, and a beginning of the reply was written
pub record StopsWriting (old new : Standing) : Type 0 where
  pub reply : Reply
  pub front : List ℕ
  pub part : IsPrefix front (text_of reply)
  pub writes : Writes old new reply front

-- the sink failed; or nothing was written
abbrev pub StopsTurn : Ending → Standing → Standing → Type 0
StopsTurn e old new =
    ((e ≡ ending.Output) × StopsWriting old new)
    ⊎ (StopsUnanswered e old.streams.left new.streams.left old.lines new.lines old.disk new.disk old.store new.store × IsSilent old new)

abbrev pub TurnDoes : Turn → Standing → Standing → Type 0
TurnDoes turn.Served old new = ServesTurn old new
TurnDoes turn.Ended old new = EndsTurn old new
TurnDoes (turn.Stop e) old new = StopsTurn e old new

-- no more bytes were taken than may be, no count fell, and each ending has its cause
pub record HasTurnCauses (by : Turn) (old new : Standing) : Type 0 where
  pub few : taken_bytes new.lines ≤ new.lines.limit
  pub reads_later : old.streams.failed_reads ≤ new.streams.failed_reads
  pub writes_later : old.streams.failed_writes ≤ new.streams.failed_writes
  pub disk_later : old.disk.write_faults ≤ new.disk.write_faults
  pub input : by ≡ turn.Stop ending.Input → Rose old.streams.failed_reads new.streams.failed_reads × (taken_bytes new.lines < new.lines.limit)
  pub output : by ≡ turn.Stop ending.Output → Rose old.streams.failed_writes new.streams.failed_writes
  pub bytes : by ≡ turn.Stop ending.Bytes → taken_bytes new.lines ≡ new.lines.limit
  pub write : by ≡ turn.Stop ending.Write → Rose old.disk.write_faults new.disk.write_faults
