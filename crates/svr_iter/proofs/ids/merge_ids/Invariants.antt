use Rattle.std.proofs.Common.{◌≡◌, ◌≤◌, ◌+◌, ◌-◌, ◌++◌, drop, length}
use Rattle.svr_listing.specs.Joined.{either}
use Rattle.svr_iter.proofs.ids.merge_ids.Given as goal

abbrev pub invariant-both : goal.invariant-both
invariant-both l = record {
  i_within : l.i ≤ length l.ids;
  j_within : l.j ≤ length l.others;
  so_far : l.into.items ++ either (drop l.i l.ids) (drop l.j l.others) ≡ either l.ids l.others;
}

abbrev pub decreases-both : goal.decreases-both
decreases-both l = (length l.ids - l.i) + (length l.others - l.j)
