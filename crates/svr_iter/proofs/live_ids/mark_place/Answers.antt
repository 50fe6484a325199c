use Rattle.std.proofs.Common.{◌<◌, below_more, slice_index, arith}
use Rattle.svr_iter.specs.Marks.{ids_of}
use Rattle.svr_iter.specs.declared.marks.Mark.TheVariants as mark
use Rattle.svr_iter.proofs.Places.{index-ids}
use Rattle.svr_iter.proofs.live_ids.mark_place.Goals as goal

pub loop-at-preserved : goal.loop-at-preserved
loop-at-preserved c =
    let marks = c.args.marks.now in
    let at = c.loop-at.at in
    record {
      within = omega (arith, c.loop-at-test.true);
      below = below_more (λ n. slice_index (ids_of marks) n < c.args.id) at c.loop-at.invariant.below
          (rw (index-ids marks at (record { id = 0; mark = mark.Add }) c.loop-at-test.true) c.if-marks-at.true);
    }
