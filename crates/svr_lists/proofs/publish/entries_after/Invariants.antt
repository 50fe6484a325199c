use Rattle.std.proofs.Common.{◌≤◌, length, drop}
use Rattle.svr_lists.specs.Layout.{AreEntriesBy}
use Rattle.svr_lists.proofs.publish.entries_after.Given as goal

abbrev pub invariant-loop-at : goal.invariant-loop-at
invariant-loop-at l = (l.at ≤ length l.fn.documents) × AreEntriesBy l.fn.run (drop l.at l.fn.documents) l.keys

abbrev pub decreases-loop-at : goal.decreases-loop-at
decreases-loop-at l = l.at
