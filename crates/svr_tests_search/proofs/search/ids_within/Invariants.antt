use Rattle.std.proofs.Common.{ℕ, ◌<◌, ◌≤◌, slice_index}
use Rattle.std.specs.Option.{ForSome}
use Rattle.svr_tests_search.proofs.search.ids_within.Given as goal

abbrev pub invariant-loop-id : goal.invariant-loop-id
invariant-loop-id g l = (k : ℕ) → k < l.id-index → ForSome (g.S.Scores.score_of l.scores (slice_index l.ids k)) (λ score. score ≤ l.bound)
