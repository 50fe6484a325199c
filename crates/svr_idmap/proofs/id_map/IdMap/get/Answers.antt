use Rattle.std.proofs.Common.{ap, ◌∙◌, arith}
use Rattle.svr_idmap.specs.Ids.{value_at}
use Rattle.svr_idmap.proofs.Parted.{value-high, value-low}
use Rattle.svr_idmap.proofs.id_map.IdMap.get.Goals as goal

pub returns-then-id-lt-DENSE_IDS : goal.returns-then-id-lt-DENSE_IDS
returns-then-id-lt-DENSE_IDS g c =
    c.get.ensures ∙ value-low c.self.inside.dense c.self.inside.sparse.entries c.self.invariant c.args.id (omega (arith, c.if-id-lt-DENSE_IDS.true))
    ∙ ap (λ values. value_at values c.args.id) c.self.view_is

pub returns-else-id-lt-DENSE_IDS : goal.returns-else-id-lt-DENSE_IDS
returns-else-id-lt-DENSE_IDS g c =
    c.get-else-id-lt-DENSE_IDS.ensures.value ∙ value-high c.self.inside.dense c.self.inside.sparse.entries c.self.invariant c.args.id (omega (arith, c.if-id-lt-DENSE_IDS.false))
    ∙ ap (λ values. value_at values c.args.id) c.self.view_is
