use Rattle.std.proofs.Common.{refl, ap, length, ◌∙◌, arith, ◌≡◌}
use Rattle.svr_fakes.specs.declared.disk_call.Call.TheVariants.{Read}
use Rattle.svr_fakes.specs.Platter.{platter_of}
use Rattle.svr_fakes.proofs.Growing.{stays_by}
use Rattle.svr_fakes.proofs.disk.MemDiskDisk.read_at.Goals as goal

pub copy_part-requires : goal.copy_part-requires
copy_part-requires c =
    let bytes : c.bytes.result.now ≡ (platter_of c.self.inside.history).read = c.bytes.ensures ∙ c.note_read-noted.ensures.read in
    omega (arith, ap length bytes, rw (← c.self.view_is) at c.requires)

pub returns-then-not-fails-clause-stays : goal.returns-then-not-fails-clause-stays
returns-then-not-fails-clause-stays c = rw (← c.self.view_is) (stays_by _ _ Read c.note_read-noted.ensures.may (λ p. refl) (λ image left. left))

pub returns-clause-stays : goal.returns-clause-stays
returns-clause-stays c = rw (← c.self.view_is) (stays_by _ _ Read c.note_read-noted.ensures.may (λ p. refl) (λ image left. left))
