use Rattle.std.proofs.Common.{arith}
use Rattle.svr_merge.proofs.Imaged.{pairs-more}
use Rattle.svr_merge.proofs.pages.pairs_in.Goals as goal

pub loop-id-preserved : goal.loop-id-preserved
loop-id-preserved c =
    pairs-more c.args.keys.now c.args.ids.now c.loop-id.id-index c.loop-id.pairs.items c.push_pair.new.pairs.items
    (omega arith) c.in_ok-push_pair.ensures c.loop-id.invariant
