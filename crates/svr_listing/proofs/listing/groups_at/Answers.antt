use Rattle.std.proofs.Common.{◌∙◌, arith}
use Rattle.svr_listing.proofs.Computing.{groups_by-step}
use Rattle.svr_listing.proofs.listing.groups_at.Goals as goal

pub loop-key-preserved : goal.loop-key-preserved
loop-key-preserved c =
    groups_by-step c.args.documents.now _ c.args.keys.now c.loop-key.key-index c.loop-key.groups.items c.push.new.self.items
    c.from_vec.result (omega arith) c.in_ok-push.ensures.items (c.from_vec.ensures ∙ c.in_ok-ids.ensures) c.loop-key.invariant
