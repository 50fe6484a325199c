use Rattle.std.proofs.Common.{◌≡◌, ◌≤◌, ◌-◌, drop, length}
use Rattle.svr_iter.specs.MemPairs.{grouped}
use Rattle.svr_iter.proofs.MemRun.{front}
use Rattle.svr_iter.proofs.mem_long.take_run.Given as goal

abbrev pub invariant-loop-at : goal.invariant-loop-at
invariant-loop-at l = record {
  within : l.at ≤ length l.pairs;
  so_far : front l.key l.ids.items (grouped (drop l.at l.pairs)) ≡ grouped (drop l.fn.from l.pairs);
}

abbrev pub decreases-loop-at : goal.decreases-loop-at
decreases-loop-at l = length l.pairs - l.at
