use Rattle.std.proofs.Common.{ℕ, ◌+◌, ◌-◌, ◌/◌, ◌≤◌, slice_index, arith}
use Rattle.svr_iter.proofs.KeptIds.{rises}
use Rattle.svr_iter.proofs.ids.place_between.Goals as goal

pub loop-low-preserved-then-ids-middle : goal.loop-low-preserved-then-ids-middle
loop-low-preserved-then-ids-middle c =
    let low = c.loop-low.low in
    let high = c.loop-low.high in
    let middle : ℕ = low + (high - low) / 2 in
    record {
      ordered = omega (arith, c.loop-low-test.true);
      within = c.loop-low.invariant.within;
      below = λ j lt.
          let far : slice_index c.args.ids.now j ≤ slice_index c.args.ids.now middle =
          rises c.args.ids.now c.requires.ascending j middle (omega arith)
          (omega (arith, c.loop-low-test.true, c.loop-low.invariant.within)) in
          omega (arith, c.if-ids-middle.true);
      at = c.loop-low.invariant.at;
    }
