use Rattle.svr_fakes.proofs.Untold.{stays_untold}
use Rattle.svr_fakes.proofs.flip.FlipDiskDisk.sync.Goals as goal

pub returns-clause-stays : goal.returns-clause-stays
returns-clause-stays c = rw (← c.self.view_is) (stays_untold _ _ c.sync.ensures.stays)
