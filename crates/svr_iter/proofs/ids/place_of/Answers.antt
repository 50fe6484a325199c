use Rattle.std.proofs.Common.{ℕ, ◌+◌, ◌-◌, ◌≤◌, ◌<◌, slice_index, arith}
use Rattle.svr_iter.proofs.KeptIds.{rises}
use Rattle.svr_iter.proofs.ids.place_of.Goals as goal

pub loop-low-preserved : goal.loop-low-preserved
loop-low-preserved c =
    let low = c.loop-low.low in
    let ahead = c.loop-low.ahead in
    let there = c.is_below_ahead.ensures.below c.loop-low-test.true in
    let last : ℕ = low + (ahead - 1) in
    record {
      within = there.0;
      some = omega (arith, c.saturating_mul-ahead.ensures, c.loop-low.invariant.some);
      below = λ j lt.
          let far : slice_index c.args.ids.now j ≤ slice_index c.args.ids.now last =
          rises c.args.ids.now c.requires.ascending j last (omega (arith, c.loop-low.invariant.some))
          (omega (arith, c.loop-low.invariant.some, there.0)) in
          let here : slice_index c.args.ids.now last < c.args.id = there.1 last (omega (arith, c.loop-low.invariant.some)) in
          omega arith;
    }
