use Rattle.std.proofs.Common.{sym}
use Rattle.svr_iter.proofs.MemRun.{first-key, pairs-fit}
use Rattle.svr_iter.proofs.mem_long.MemLongLongSource.next_key.Goals as goal

pub returns-then-self-clause-key : goal.returns-then-self-clause-key
returns-then-self-clause-key c = sym (first-key c.args.self.now.pairs.now c.args.self.now.at _ c.if-self.true)

pub returns-then-self-clause-within : goal.returns-then-self-clause-within
returns-then-self-clause-within c = pairs-fit c.args.self.now.pairs.now c.args.self.now.at _ c.args.self.now.in_range c.if-self.true
