use Rattle.std.proofs.Common.{◌≡◌, ◌≤◌, ◌+◌, ◌-◌, ◌++◌, drop, length}
use Rattle.svr_iter.specs.Marks.{live_ids}
use Rattle.svr_iter.proofs.live_ids.take_live.Given as goal

abbrev pub invariant-both : goal.invariant-both
invariant-both g l = record {
  i_within : l.i ≤ length l.posted;
  j_within : l.j ≤ length l.marks;
  so_far : l.into.items ++ live_ids (g.K.KeySource.entry l.keys) l.key (drop l.j l.marks) (drop l.i l.posted)
      ≡ live_ids (g.K.KeySource.entry l.keys) l.key l.marks l.posted;
}

abbrev pub decreases-both : goal.decreases-both
decreases-both g l = (length l.posted - l.i) + (length l.marks - l.j)
