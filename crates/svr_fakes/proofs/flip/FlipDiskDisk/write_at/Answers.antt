use Rattle.svr_fakes.proofs.Untold.{torn_untold}
use Rattle.svr_fakes.proofs.flip.FlipDiskDisk.write_at.Goals as goal

pub returns-clause-images : goal.returns-clause-images
returns-clause-images c = rw (← c.self.view_is) (torn_untold _ _ c.args.at _ c.write_at.ensures.images)
