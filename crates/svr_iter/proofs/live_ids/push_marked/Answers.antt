use Rattle.std.proofs.Common.{◌+◌, ◌++◌, List, ℕ, [], drop, ap, ◌∙◌}
use Rattle.svr_iter.specs.Marks.{live_ids}
use Rattle.svr_iter.proofs.LiveSteps.{only_marked}
use Rattle.svr_iter.proofs.live_ids.push_marked.Goals as goal

pub loop-at-preserved : goal.loop-at-preserved
loop-at-preserved g c =
    ap (λ (l : List ℕ). l ++ live_ids (g.K.KeySource.entry c.args.keys.now) c.args.key (drop (c.loop-at.at + 1) c.args.marks.now) [])
    c.in_ok-push_id.ensures
    ∙ only_marked (g.K.KeySource.entry c.args.keys.now) c.args.key _ _ c.args.marks.now c.loop-at.at _ c.requires.marks
    c.loop-at-test.true c.loop-at.invariant
