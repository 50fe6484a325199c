use Rattle.std.proofs.Common.{◌+◌, ◌++◌, List, ℕ, drop, ap, ◌∙◌, arith}
use Rattle.svr_iter.specs.Marks.{live_ids}
use Rattle.svr_iter.proofs.LiveSteps.{step_both, step_marked, step_posted}
use Rattle.svr_iter.proofs.live_ids.take_live.Goals as goal

pub both-preserved-then-posted-i : goal.both-preserved-then-posted-i
both-preserved-then-posted-i g c =
    let i = c.both.i in
    let j = c.both.j in
    record {
      i_within = omega (arith, c.both-test.true);
      j_within = c.both.invariant.j_within;
      so_far = ap (λ (l : List ℕ). l ++ live_ids (g.K.KeySource.entry c.args.keys.now) c.args.key (drop j c.args.marks.now)
          (drop (i + 1) c.args.posted.now)) c.in_ok-push_id.ensures
          ∙ step_posted (g.K.KeySource.entry c.args.keys.now) c.args.key _ _ c.args.posted.now c.args.marks.now i j _ c.requires.marks
          c.both-test.true c.if-j-marks.true c.if-posted-i.true c.both.invariant.so_far;
    }

pub both-preserved-then-marks-j : goal.both-preserved-then-marks-j
both-preserved-then-marks-j g c =
    let i = c.both.i in
    let j = c.both.j in
    record {
      i_within = c.both.invariant.i_within;
      j_within = omega (arith, c.if-j-marks.true);
      so_far = ap (λ (l : List ℕ). l ++ live_ids (g.K.KeySource.entry c.args.keys.now) c.args.key (drop (j + 1) c.args.marks.now)
          (drop i c.args.posted.now)) c.in_ok-push_id-2.ensures
          ∙ step_marked (g.K.KeySource.entry c.args.keys.now) c.args.key _ _ c.args.posted.now c.args.marks.now i j _ c.requires.marks
          c.requires.posted c.both-test.true c.if-j-marks.true c.if-marks-j.true c.both.invariant.so_far;
    }

pub both-preserved : goal.both-preserved
both-preserved g c =
    let i = c.both.i in
    let j = c.both.j in
    record {
      i_within = omega (arith, c.both-test.true);
      j_within = omega (arith, c.if-j-marks.true);
      so_far = ap (λ (l : List ℕ). l ++ live_ids (g.K.KeySource.entry c.args.keys.now) c.args.key (drop (j + 1) c.args.marks.now)
          (drop (i + 1) c.args.posted.now)) c.in_ok-push_id-3.ensures
          ∙ step_both (g.K.KeySource.entry c.args.keys.now) c.args.key _ _ c.args.posted.now c.args.marks.now i j _ c.requires.marks
          c.requires.posted c.both-test.true c.if-j-marks.true
          (omega (arith, c.if-posted-i.false, c.if-marks-j.false)) c.both.invariant.so_far;
    }
