use Rattle.std.proofs.Common.{◌≡◌, ◌++◌, [], drop}
use Rattle.svr_iter.specs.Marks.{live_ids}
use Rattle.svr_iter.proofs.live_ids.push_marked.Given as goal

abbrev pub invariant-loop-at : goal.invariant-loop-at
invariant-loop-at g l = l.into.items ++ live_ids (g.K.KeySource.entry l.keys) l.key (drop l.at l.marks) []
    ≡ l.fn.into.items ++ live_ids (g.K.KeySource.entry l.keys) l.key (drop l.from l.marks) []
