use Rattle.std.proofs.Common.{ap, not}
use Rattle.svr_fakes.proofs.Growing.{leaves_written, writes_by, may_write}
use Rattle.svr_fakes.proofs.disk.MemDiskDisk.write_at.Goals as goal

pub note_write-noted-requires : goal.note_write-noted-requires
note_write-noted-requires c = rw (← c.self.view_is) at c.requires.inside

pub returns-clause-err : goal.returns-clause-err
returns-clause-err c = rw (← c.self.view_is) (may_write _ _ c.args.at c.args.bytes.now _ c.note_write-noted.ensures.may (rw (← c.self.view_is) at c.requires.inside))

pub returns-then-done-clause-images : goal.returns-then-done-clause-images
returns-then-done-clause-images c = rw (← c.self.view_is) (leaves_written _ _ c.args.at c.args.bytes.now _ c.note_write-noted.ensures.may)

pub returns-clause-images : goal.returns-clause-images
returns-clause-images c = rw (← c.self.view_is) (leaves_written _ _ c.args.at c.args.bytes.now _ c.note_write-noted.ensures.may)

pub returns-then-done-clause-ok : goal.returns-then-done-clause-ok
returns-then-done-clause-ok c = rw (← c.self.view_is) (writes_by _ _ c.args.at c.args.bytes.now _ (c.note_write-noted.ensures.noted c.if-noted.true) (ap not c.if-done.true) (rw (← c.self.view_is) at c.requires.inside))
