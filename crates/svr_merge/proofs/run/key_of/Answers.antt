use Rattle.std.proofs.Common.{arith}
use Rattle.svr_merge.proofs.Fitting.{key_fits}
use Rattle.svr_merge.proofs.run.key_of.Goals as goal

pub returns-clause-within : goal.returns-clause-within
returns-clause-within c = omega (arith, c.key.ensures, key_fits c.args.method.now c.args.score c.requires)
