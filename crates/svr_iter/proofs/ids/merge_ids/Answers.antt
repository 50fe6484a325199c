use Rattle.std.proofs.Common.{◌≡◌, ◌+◌, ◌++◌, List, ℕ, drop, slice_index, ap, ◌∙◌, arith}
use Rattle.svr_listing.specs.Joined.{either}
use Rattle.svr_iter.proofs.MergeSteps.{ends_left, ends_right, step_both, step_left, step_right}
use Rattle.svr_iter.proofs.ids.merge_ids.Goals.{then-both-test+else-j-others, else-both-test}
use Rattle.svr_iter.proofs.ids.merge_ids.Goals as goal

pub both-preserved-then-ids-i : goal.both-preserved-then-ids-i
both-preserved-then-ids-i c =
    let i = c.both.i in
    let j = c.both.j in
    record {
      i_within = omega (arith, c.both-test.true);
      j_within = c.both.invariant.j_within;
      so_far = ap (λ (l : List ℕ). l ++ either (drop (i + 1) c.args.ids.now) (drop j c.args.others.now)) c.in_ok-push.ensures.items
          ∙ step_left _ _ c.args.ids.now c.args.others.now i j c.requires.ids c.requires.others c.both-test.true c.if-j-others.true
          c.if-ids-i.true c.both.invariant.so_far;
    }

pub both-preserved-then-others-j : goal.both-preserved-then-others-j
both-preserved-then-others-j c =
    let i = c.both.i in
    let j = c.both.j in
    record {
      i_within = c.both.invariant.i_within;
      j_within = omega (arith, c.if-j-others.true);
      so_far = ap (λ (l : List ℕ). l ++ either (drop i c.args.ids.now) (drop (j + 1) c.args.others.now)) c.in_ok-push-2.ensures.items
          ∙ step_right _ _ c.args.ids.now c.args.others.now i j c.requires.ids c.both-test.true c.if-j-others.true c.if-others-j.true
          c.both.invariant.so_far;
    }

pub both-preserved : goal.both-preserved
both-preserved c =
    let i = c.both.i in
    let j = c.both.j in
    let same : slice_index c.args.ids.now i ≡ slice_index c.args.others.now j = omega (arith, c.if-ids-i.false, c.if-others-j.false) in
    record {
      i_within = omega (arith, c.both-test.true);
      j_within = omega (arith, c.if-j-others.true);
      so_far = ap (λ (l : List ℕ). l ++ either (drop (i + 1) c.args.ids.now) (drop (j + 1) c.args.others.now))
          c.in_ok-push-3.ensures.items
          ∙ step_both _ _ c.args.ids.now c.args.others.now i j c.requires.ids c.both-test.true c.if-j-others.true same
          c.both.invariant.so_far;
    }

pub returns : goal.returns
returns c =
    c.in_ok-push_rest-2.ensures ∙ ap (λ (l : List ℕ). l ++ drop c.both.j c.args.others.now) c.in_ok-push_rest.ensures
    ∙ elim c.both-test.branch [
      | then-both-test+else-j-others w ↦ ends_right _ _ c.args.ids.now c.args.others.now c.both.i c.both.j c.requires.ids
          w.if-j-others.false c.both.invariant.so_far
      | else-both-test w ↦ ends_left _ _ c.args.ids.now c.args.others.now c.both.i c.both.j w.both-test.false c.both.invariant.so_far
    ]
