use Rattle.std.proofs.Common.{ℕ, ◌<◌, get_or}
use Rattle.svr_listing.specs.declared.group.Group.{Group}
use Rattle.svr_tests_search.specs.Bounded.{ScoresWithin}
use Rattle.svr_tests_search.proofs.search.are_bounded.Given as goal

abbrev pub invariant-loop-group : goal.invariant-loop-group
invariant-loop-group g l = (k : ℕ) (d : Group) → k < l.group-index
    → ScoresWithin (g.S.Scores.score_of l.scores) ((g.M.Method.rules l.method).bound (get_or l.groups k d).key) (get_or l.groups k d).ids
