-- Opening a store.
use Rattle.std.specs.Prelude.{◌≡◌, ◌≢◌, ◌⊎◌, ℕ, true, List, take, Some}
use Rattle.svr_edge.specs.Disk.{DiskView, Reads}
use Rattle.svr_journal.specs.File.{StandsFor, magic}
use Rattle.svr_journal.specs.Opening.{opened_bytes}
use Rattle.svr_core.specs.Replay.{IsAtFault, recovered}
use Rattle.svr_core.specs.State.{State}
use Rattle.svr_store.specs.Store.{Keeps, Serves, StoreValue}

-- the disk stood for these records, or it was empty and there is none
pub record StoodFor (disk : DiskView) (bodies : List (List ℕ)) : Type 0 where
  pub bytes : List ℕ
  pub reads : Reads disk bytes
  pub stands : StandsFor (opened_bytes bytes) bodies

-- the disk stood for the records of a state, and each slice among them was the next one of its merge
pub record StoodForState (disk : DiskView) (s : State) : Type 0 where
  pub stood : StoodFor disk s.bodies
  pub lawful : s.served.lawful ≡ true

-- a store was opened: it serves what the records that were read give
pub record Opens (old new : DiskView) (store : StoreValue) : Type 0 where
  pub state : State
  pub gives : recovered state.bodies ≡ Some state.served
  pub serves : Serves store state
  -- the bytes of the disk stood for these records
  pub stood : (bytes : List ℕ) → Reads old bytes → StandsFor (opened_bytes bytes) state.bodies
  -- where the disk stood for records, they are these, and it keeps them
  pub found : (bodies : List (List ℕ)) → StoodFor old bodies → (bodies ≡ state.bodies) × Keeps new state.bodies

-- the bytes are no journal, or have one at fault at that place
abbrev pub IsNoJournal : List ℕ → ℕ → Type 0
IsNoJournal bytes at = ((at ≡ 0) × (take 8 bytes ≢ magic)) ⊎ ((take 8 bytes ≡ magic) × IsAtFault bytes at)
