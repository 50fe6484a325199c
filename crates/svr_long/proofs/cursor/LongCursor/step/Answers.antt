use Rattle.std.proofs.Common.{rules, ◌≡◌, None, slice_get}
use Rattle.svr_long.proofs.Firsts.{none_left}
use Rattle.svr_long.proofs.cursor.LongCursor.step.Goals as goal

pub read-requires-clause-none : goal.read-requires-clause-none
read-requires-clause-none g c =
    let none : slice_get c.args.self.now.buffer 0 ≡ None = search rules in
    none_left c.args.self.now.buffer none
