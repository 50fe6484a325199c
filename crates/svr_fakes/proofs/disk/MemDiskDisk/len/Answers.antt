use Rattle.std.proofs.Common.{refl}
use Rattle.svr_fakes.specs.declared.disk_call.Call.TheVariants.{Len}
use Rattle.svr_fakes.proofs.Growing.{stays_by}
use Rattle.svr_fakes.proofs.disk.MemDiskDisk.len.Goals as goal

pub returns-then-not-fails-clause-stays : goal.returns-then-not-fails-clause-stays
returns-then-not-fails-clause-stays c = rw (← c.self.view_is) (stays_by _ _ Len c.note-noted.ensures.may (λ p. refl) (λ image left. left))

pub returns-clause-stays : goal.returns-clause-stays
returns-clause-stays c = rw (← c.self.view_is) (stays_by _ _ Len c.note-noted.ensures.may (λ p. refl) (λ image left. left))
