use Rattle.std.proofs.Common.{◌∙◌, sym}
use Rattle.svr_idmap.proofs.Walks.{from-start, walk-end, walk-none, walk-some}
use Rattle.svr_idmap.proofs.dense.first_from.Goals as goal

pub loop-id-init : goal.loop-id-init
loop-id-init g c = from-start c.args.from c.args.values.now

pub loop-id-preserved : goal.loop-id-preserved
loop-id-preserved g c =
    c.loop-id.invariant
    ∙ walk-none c.args.values.now c.loop-id.id c.index-values-id.result c.loop-id-test.true c.index-values-id.is c.in_default.is

pub returns-in-Some : goal.returns-in-Some
returns-in-Some g c =
    sym (c.loop-id.invariant
    ∙ walk-some c.args.values.now c.loop-id.id c.index-values-id.result c.loop-id-test.true c.index-values-id.is c.in-Some.value c.in-Some.is)

pub returns : goal.returns
returns g c = sym (c.loop-id.invariant ∙ walk-end c.args.values.now c.loop-id.id c.loop-id-test.false)
