use Rattle.std.proofs.Common.{arith}
use Rattle.svr_listing.proofs.Chunks.{one_bound}
use Rattle.svr_chunks.proofs.bounds.Bounds.one.Goals as goal

pub invariant_of-result : goal.invariant_of-result
invariant_of-result c = (omega arith, one_bound)

pub returns-clause-are : goal.returns-clause-are
returns-clause-are c = one_bound
