use Rattle.std.proofs.Common.{◌≡◌}
use Rattle.svr_gen.specs.Parts.{numbered}
use Rattle.svr_gen.specs.Layout.{followed}
use Rattle.svr_gen.specs.Requests.{review_row}
use Rattle.svr_gen.proofs.loads.load_reviews.Given as goal

abbrev pub invariant-loop-before : goal.invariant-loop-before
invariant-loop-before l = l.rows ≡ followed l.initial.rows (numbered review_row l.before)
