use Rattle.std.proofs.Common.{length}
use Rattle.svr_spec.proofs.weights.+total.Given as goal

abbrev pub decreases-total : goal.decreases-total
decreases-total l = length l.components.now
