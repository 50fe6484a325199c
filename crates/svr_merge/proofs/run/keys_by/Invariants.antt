use Rattle.std.proofs.Common.{◌≤◌, length, drop}
use Rattle.svr_chunks.specs.Chosen.{chosen_rules}
use Rattle.svr_merge.specs.Layout.{HasKeysOf}
use Rattle.svr_merge.specs.Runs.{HaveKeys}
use Rattle.svr_merge.proofs.run.keys_by.Given as goal

abbrev pub invariant-loop-at : goal.invariant-loop-at
invariant-loop-at l =
    (l.at ≤ length l.fn.documents) × HasKeysOf (chosen_rules l.fn.method) (drop l.at l.fn.documents) l.keys × HaveKeys l.keys

abbrev pub decreases-loop-at : goal.decreases-loop-at
decreases-loop-at l = l.at
