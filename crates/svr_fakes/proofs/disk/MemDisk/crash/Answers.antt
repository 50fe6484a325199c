use Rattle.svr_fakes.proofs.Crashing.{is_crash}
use Rattle.svr_fakes.proofs.disk.MemDisk.crash.Goals as goal

pub returns : goal.returns
returns c = rw (← c.self.view_is) (is_crash _ c.args.calls c.args.torn _ (rw (← c.self.view_is) at c.requires) c.in_ok-crash.ensures)
