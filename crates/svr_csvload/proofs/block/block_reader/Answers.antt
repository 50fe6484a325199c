use Rattle.std.proofs.Common.{rules}
use Rattle.svr_csvload.specs.Ahead.{ahead}
use Rattle.svr_csvload.proofs.block.block_reader.Goals as goal

pub returns-clause-records : goal.returns-clause-records
unfolding ahead
returns-clause-records c = search rules
