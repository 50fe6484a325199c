use Rattle.std.proofs.Common.{arith}
use Rattle.svr_tests_search.proofs.Within.{within_all}
use Rattle.svr_tests_search.proofs.search.are_bounded.Goals as goal

pub returns : goal.returns
returns g c = λ e key id there.
    within_all (g.S.Scores.score_of c.args.scores.now) (g.M.Method.rules c.args.method.now).bound c.args.groups.now
    (λ k d lt. c.loop-group.invariant k d (omega (arith, c.loop-group-test.false, lt))) key id there
