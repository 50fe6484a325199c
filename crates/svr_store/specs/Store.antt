-- A store, and what it and its disk stand for.
use Rattle.std.specs.Prelude.{◌≡◌, ◌<◌, ℕ, true, List, None, Option}
use Rattle.svr_edge.specs.Disk.{DiskView}
use Rattle.svr_journal.specs.File.{end_of}
use Rattle.svr_journal.specs.Keeping.{IsSafe, IsStored}
use Rattle.svr_pages.specs.Asked.{IsReady}
use Rattle.svr_pages.specs.Cached.{CachedPages}
use Rattle.svr_core.specs.Kept.{CoreValue, ServesAs}
use Rattle.svr_core.specs.Pages.{HavePages}
use Rattle.svr_core.specs.State.{State}
use Rattle.svr_store.specs.declared.store.Closed.{Closed}

-- what is served, the place of the journal's closed gate, the pages that are cached, and why nothing more is answered, if so
pub record StoreValue : Type 0 where
  pub core : CoreValue
  pub end : ℕ
  pub pages : CachedPages
  pub closed : Option Closed

-- the store serves what the state says, whose pages stand in its records, and its journal ends behind these
pub record Serves (store : StoreValue) (s : State) : Type 0 where
  pub serves : ServesAs store.core s.served
  pub pages : HavePages s.bodies s.served.listed
  pub end : store.end ≡ end_of s.bodies

-- requests are answered: its disk reaches behind its journal, and what is cached stands there
pub record IsOpen (store : StoreValue) (disk : DiskView) : Type 0 where
  pub unclosed : store.closed ≡ None
  pub inside : store.end < disk.size
  pub ready : IsReady store.end disk store.pages

-- the disk keeps these records: its bytes stand for them, and so does whatever a crash now leaves
pub record Keeps (disk : DiskView) (bodies : List (List ℕ)) : Type 0 where
  pub stored : IsStored disk (end_of bodies) bodies
  pub safe : IsSafe disk bodies

-- the disk keeps the records of a state, and each slice among them was the next one of its merge
pub record KeepsState (disk : DiskView) (s : State) : Type 0 where
  pub keeps : Keeps disk s.bodies
  pub lawful : s.served.lawful ≡ true
