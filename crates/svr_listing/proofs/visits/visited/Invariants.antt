use Rattle.std.proofs.Common.{◌≡◌, ℕ, ◌<◌, false}
use Rattle.svr_listing.specs.Plain.{rules_of}
use Rattle.svr_listing.specs.Visits.{stops}
use Rattle.svr_listing.proofs.visits.visited.Given as goal

abbrev pub invariant-loop-n : goal.invariant-loop-n
invariant-loop-n g l =
    (m : ℕ) → m < l.n → stops l.k (rules_of l.method).bound (g.S.Scores.score_of l.scores) l.groups m ≡ false
