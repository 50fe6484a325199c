use Rattle.std.proofs.Common.{◌∙◌, arith}
use Rattle.svr_idmap.proofs.Places.{value-beyond, value-read}
use Rattle.svr_idmap.proofs.dense.Dense.get.Goals as goal

pub returns-then-id-len : goal.returns-then-id-len
returns-then-id-len g c =
    c.as_ref.ensures.value
    ∙ value-read c.self.inside.values.items c.self.inside.count c.args.self.now c.self.invariant c.self.view_is c.args.id
    c.index.result.now (omega (arith, c.len.ensures, c.if-id-len.true)) c.index.ensures

pub returns-else-id-len : goal.returns-else-id-len
returns-else-id-len g c =
    value-beyond c.self.inside.values.items c.self.inside.count c.args.self.now c.self.invariant c.self.view_is c.args.id
    (omega (arith, c.len.ensures, c.if-id-len.false))
