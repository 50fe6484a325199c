use Rattle.std.proofs.Common.{◌≡◌, rules}
use Rattle.svr_fakes.specs.Platter.{after_calls, whole}
use Rattle.svr_fakes.proofs.Growing.{kept_beside, written_done, written_not}
use Rattle.svr_fakes.proofs.history.History.try_write.Goals as goal

pub invariant_of-self-in_default : goal.invariant_of-self-in_default
invariant_of-self-in_default c =
    let p = after_calls (whole c.self.inside.first) c.self.inside.calls.items in
    let same : c.from_vec-kept.result ≡ c.args.piece.now = search rules in
    kept_beside _ _ _ _ _ _ c.self.invariant c.in_ok-push.ensures.items
    (written_done p _ _ c.args.at c.args.piece.now c.from_vec-kept.result c.args.done same c.self.invariant c.if-done.true c.in_default.ensures.ok)

pub invariant_of-self-else-done : goal.invariant_of-self-else-done
invariant_of-self-else-done c =
    let p = after_calls (whole c.self.inside.first) c.self.inside.calls.items in
    kept_beside _ _ _ _ _ _ c.self.invariant c.in_ok-push.ensures.items (written_not p _ c.args.at c.from_vec-kept.result c.args.done c.self.invariant c.if-done.false)
