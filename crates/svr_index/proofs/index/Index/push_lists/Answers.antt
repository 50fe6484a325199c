use Rattle.std.proofs.Common.{rules}
use Rattle.svr_index.proofs.Lists.{push_one}
use Rattle.svr_index.proofs.index.Index.push_lists.Goals as goal

pub loop-i-preserved : goal.loop-i-preserved
loop-i-preserved c before are =
    push_one c.args.self.now before c.args.terms.now c.args.from c.loop-i.i c.loop-i.lists.items c.push.new.self.items c.get.result.now
    c.list_of.result (search rules) c.get.ensures (c.loop-i.invariant before are) c.list_of.ensures c.in_ok-push.ensures.items
