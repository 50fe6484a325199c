use Rattle.std.proofs.Common.{arith}
use Rattle.svr_listing.proofs.Computing.{hits_of-step}
use Rattle.svr_listing.proofs.hits.hits_of.Goals as goal

pub loop-id-preserved : goal.loop-id-preserved
loop-id-preserved g c =
    hits_of-step (g.S.Scores.score_of c.args.scores.now) c.args.ids.now c.loop-id.id-index c.loop-id.hits.items c.push_hit.new.hits.items
    (omega arith) c.in_ok-push_hit.ensures c.loop-id.invariant
