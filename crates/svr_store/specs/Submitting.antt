-- What the answer to a request does to a store and its disk.
use Rattle.std.specs.Prelude.{◌≡◌, ◌≤◌, ◌++◌, ℕ, true, false, List, Option, Some, None}
use Rattle.std.specs.List.{AllByRecursion}
use Rattle.svr_edge.specs.Causes.{Rose}
use Rattle.svr_edge.specs.Disk.{DiskView, IsImage, Leaves}
use Rattle.svr_journal.specs.File.{StandsForSome}
use Rattle.svr_request.specs.declared.reply.Fault.TheVariants as fault
use Rattle.svr_request.specs.declared.reply.Reply.{Reply}
use Rattle.svr_request.specs.declared.reply.Reply.TheVariants.{Faulted}
use Rattle.svr_request.specs.Requests.{Submitted}
use Rattle.svr_pages.specs.Stretch.{with_reads}
use Rattle.svr_core.specs.Pages.{IsSpelled}
use Rattle.svr_core.specs.Replay.{replayed}
use Rattle.svr_core.specs.Run.{IsTurn, Turn, closes, doubtful, is_in_doubt, kept, state_then}
use Rattle.svr_core.specs.State.{IsWithMerge, Served, State}
use Rattle.svr_store.specs.declared.store.Closed.{Closed}
use Rattle.svr_store.specs.declared.store.Closed.TheVariants as closed
use Rattle.svr_store.specs.Caching.{Caches}
use Rattle.svr_store.specs.Store.{Keeps, KeepsState, Serves, StoreValue}

-- one turn, from a state on
pub record Submits (old new : DiskView) (before after : StoreValue) (s : State) (request : Submitted) (reply : Reply) : Type 0 where
  pub turn : Turn
  pub asked : turn.request ≡ request
  pub told : turn.reply ≡ reply
  pub is : IsTurn (KeepsState old s) s turn
  -- the reads of its pages stand in the trace, and no others
  pub trace : new.trace ≡ with_reads old.trace turn.reads
  -- none is read that is cached or not needed
  pub caches : Caches (KeepsState old s) s turn before.pages after.pages
  pub serves : closes reply ≡ false → Serves after (state_then s turn)
  -- its records are accepted when they are read again, and give what is served, with a merge that was stopped
  pub spelled : AllByRecursion IsSpelled turn.added
  pub next : Served
  pub replays : replayed s.bodies s.served turn.added ≡ Some next
  pub same : closes reply ≡ false → IsWithMerge next (state_then s turn).served
  -- each slice was the next one of its merge, where all were before
  pub lawful : KeepsState old s → next.lawful ≡ true
  -- whenever a crash comes, the records from before are there, with some of those of the turn
  pub any_moment : Keeps old s.bodies → Leaves old new (StandsForSome s.bodies turn.added)
  -- and afterwards all of them are, but for the last one where its write failed
  pub keeps : Keeps old s.bodies → is_in_doubt reply ≡ false → Keeps new (s.bodies ++ turn.added)
  pub in_doubt : Keeps old s.bodies → is_in_doubt reply ≡ true → (image : List ℕ) → IsImage new image
      → StandsForSome (s.bodies ++ kept turn) (doubtful turn) image

-- a reply tells a failed write, or a failed read, only where the count of these rose
pub record SubmitCauses (old new : DiskView) (reply : Reply) : Type 0 where
  pub write : reply ≡ Faulted fault.Write → Rose old.write_faults new.write_faults
  pub writes : old.write_faults ≤ new.write_faults
  pub read : reply ≡ Faulted fault.Read → Rose old.read_faults new.read_faults
  pub reads : old.read_faults ≤ new.read_faults

-- why nothing more is answered after a reply, if so
abbrev pub closed_by : Reply → Option Closed
closed_by (Faulted fault.Write) = Some closed.Write
closed_by (Faulted fault.Memory) = Some closed.Memory
closed_by _ = None
