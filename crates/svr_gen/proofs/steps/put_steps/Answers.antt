use Rattle.std.proofs.Common.{◌≡◌, ◌∙◌, ◌-◌, ◌+◌, arith, sym, suc}
use Rattle.svr_gen.proofs.Stepping.{followed-steps-zero, followed-steps-suc, merges_with-le}
use Rattle.svr_gen.proofs.steps.put_steps.Goals as goal

pub loop-preserved : goal.loop-preserved
loop-preserved c =
    let left : 600 - c.loop.counter ≡ suc (600 - (c.loop.counter + 1)) = omega (arith, c.loop-test.true) in
    let all = rw left at c.loop.invariant.all in
    record {
      all = rw (c.in_ok-put_chosen.ensures, c.merges_with-merges.ensures, c.draw-choice.ensures.value, c.draw-choice.ensures.after)
          (sym (followed-steps-suc c.loop.writer (600 - (c.loop.counter + 1)) c.loop.merges) ∙ all);
      few = rw c.merges_with-merges.ensures (omega (arith, merges_with-le c.draw-choice.result c.loop.merges, c.loop.invariant.few));
    }

pub returns : goal.returns
returns c =
    let left : 600 - c.loop.counter ≡ 0 = omega (arith, c.loop-test.false) in
    sym (followed-steps-zero c.loop.writer c.loop.merges) ∙ (rw left at c.loop.invariant.all)
