use Rattle.std.proofs.Common.{◌+◌, List, ℕ, drop, ap, ◌∙◌, arith}
use Rattle.svr_iter.specs.MemPairs.{grouped}
use Rattle.svr_iter.proofs.MemRun.{front}
use Rattle.svr_iter.proofs.MemRun.{front-step}
use Rattle.svr_iter.proofs.mem_long.take_run.Goals as goal

pub loop-at-preserved : goal.loop-at-preserved
loop-at-preserved c = record {
  within = omega (arith, c.loop-at-test.true);
  so_far = ap (λ (l : List ℕ). front c.args.key l (grouped (drop (c.loop-at.at + 1) c.args.pairs.now))) c.in_ok-push.ensures.items
      ∙ front-step c.args.pairs.now c.loop-at.at c.args.key _ c.loop-at.ids.items _ c.loop-at-test.true c.if-pairs-at.true
      c.loop-at.invariant.so_far;
}
