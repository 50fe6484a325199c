use Rattle.std.proofs.Common.{ap, not}
use Rattle.svr_fakes.proofs.Growing.{stays_synced, settled_now}
use Rattle.svr_fakes.proofs.disk.MemDiskDisk.sync.Goals as goal

pub returns-then-done-clause-stays : goal.returns-then-done-clause-stays
returns-then-done-clause-stays c = rw (← c.self.view_is) (stays_synced _ _ _ c.note-noted.ensures.may)

pub returns-clause-stays : goal.returns-clause-stays
returns-clause-stays c = rw (← c.self.view_is) (stays_synced _ _ _ c.note-noted.ensures.may)

pub returns-then-done-clause-settled : goal.returns-then-done-clause-settled
returns-then-done-clause-settled c = settled_now c.self.inside.history c.note-noted.new.self _ (c.note-noted.ensures.noted c.if-noted.true) (ap not c.if-done.true)
