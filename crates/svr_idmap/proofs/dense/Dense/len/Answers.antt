use Rattle.svr_idmap.proofs.Places.{count-few}
use Rattle.svr_idmap.proofs.dense.Dense.len.Goals as goal

pub returns-clause-few : goal.returns-clause-few
returns-clause-few g c = count-few c.self.inside.values.items c.self.inside.count c.args.self.now c.self.invariant c.self.view_is
