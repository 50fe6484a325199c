use Rattle.std.proofs.Common.{◌-◌}
use Rattle.svr_journal.specs.Ahead.{IsAhead}
use Rattle.svr_core.proofs.SoFar.{IsRead, SoFar}
use Rattle.svr_core.proofs.served.Core.replay.Given as goal

-- the records in front of the next gate are accepted, and what was read ahead stands on the disk
abbrev pub invariant-loop-ahead : goal.invariant-loop-ahead
invariant-loop-ahead g l = record {
  so_far : SoFar (g.D.Disk.view l.fn.disk) l.core l.journal;
  read : IsRead (g.D.Disk.view l.fn.disk) (g.D.Disk.view l.disk);
  ahead : IsAhead l.ahead (g.D.Disk.view l.disk);
}

abbrev pub decreases-loop-ahead : goal.decreases-loop-ahead
decreases-loop-ahead g l = l.journal.size - l.journal.end
