use Rattle.std.proofs.Common.{◌-◌, ◌+◌, ◌^◌, ◌≤◌}
use Rattle.std.specs.Option.{IsSome}
use Rattle.svr_core.specs.Kept.{catalog_of}
use Rattle.svr_core.specs.State.{State}
use Rattle.svr_store.specs.Merging.{Stepped}
use Rattle.svr_store.specs.Store.{IsOpen, Serves}
use Rattle.svr_store.proofs.Stepping.{steps_left}
use Rattle.svr_store.proofs.store.Store.merge.Given as goal

-- the steps so far, and requests are still answered
abbrev pub invariant-loop-next : goal.invariant-loop-next
invariant-loop-next g l = record {
  steps : (s : State) → Serves l.fn.self s → IsSome s.served.catalog → Stepped s l.part (g.D.Disk.view l.fn.disk) (g.D.Disk.view l.disk) l.fn.self.pages l.self;
  is_open : IsOpen l.self (g.D.Disk.view l.disk);
  set : IsSome (catalog_of l.self.core);
  writes : (g.D.Disk.view l.fn.disk).write_faults ≤ (g.D.Disk.view l.disk).write_faults;
  reads : (g.D.Disk.view l.fn.disk).read_faults ≤ (g.D.Disk.view l.disk).read_faults;
}

abbrev pub decreases-loop-next : goal.decreases-loop-next
decreases-loop-next g l = steps_left l.part + (2 ^ 40 - l.self.end)
