use Rattle.std.proofs.Common.{length, sym, ◌∙◌, arith}
use Rattle.svr_listing.specs.Plain.{rules_of}
use Rattle.svr_listing.specs.Visits.{stops}
use Rattle.svr_listing.proofs.Computing.{visited-all}
use Rattle.svr_listing.proofs.Visiting.{least-is}
use Rattle.svr_listing.proofs.visits.visited.Goals as goal

pub returns-then-branch : goal.returns-then-branch
returns-then-branch g c =
    least-is (stops c.args.k (rules_of c.args.method.now).bound (g.S.Scores.score_of c.args.scores.now) c.args.groups.now)
    (length c.args.groups.now) c.loop-n.n (omega arith) (sym c.in_ok-stops.ensures ∙ c.if-branch.true) c.loop-n.invariant

pub returns : goal.returns
returns g c =
    visited-all c.args.k (rules_of c.args.method.now).bound (g.S.Scores.score_of c.args.scores.now) c.args.groups.now
    (λ m lt. c.loop-n.invariant m (omega arith))
