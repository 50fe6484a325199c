use Rattle.svr_fakes.proofs.Untold.{stays_untold}
use Rattle.svr_fakes.proofs.flip.FlipDiskDisk.read_at.Goals as goal

pub returns-in_err-read_at-clause-stays : goal.returns-in_err-read_at-clause-stays
returns-in_err-read_at-clause-stays c = rw (← c.self.view_is) (stays_untold _ _ c.read_at.ensures.stays)

pub returns-clause-stays : goal.returns-clause-stays
returns-clause-stays c = rw (← c.self.view_is) (stays_untold _ _ c.read_at.ensures.stays)
