use Rattle.std.proofs.Common.{ap, ◌∙◌, arith}
use Rattle.svr_idmap.specs.Layout.{entries_from}
use Rattle.svr_idmap.proofs.Places.{entries_from-more}
use Rattle.svr_idmap.proofs.dense.make_place.Goals as goal

pub loop-values-preserved : goal.loop-values-preserved
loop-values-preserved g c = (
  omega (arith, c.in_ok-push.ensures.len, c.len.ensures, c.loop-values-test.true, c.requires.id),
  λ n. ap (entries_from n) c.in_ok-push.ensures.items ∙ entries_from-more n c.loop-values.values.items ∙ c.loop-values.invariant.1 n,
)
