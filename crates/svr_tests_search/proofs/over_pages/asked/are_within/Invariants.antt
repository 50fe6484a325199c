use Rattle.std.proofs.Common.{ℕ, ◌<◌, get_or}
use Rattle.svr_num.specs.declared.hit.Hit.{Hit}
use Rattle.svr_tests_search.specs.Bounded.{IsHitWithin}
use Rattle.svr_tests_search.proofs.over_pages.asked.are_within.Given as goal

abbrev pub invariant-loop-hit : goal.invariant-loop-hit
invariant-loop-hit l = (k : ℕ) (d : Hit) → k < l.hit-index → IsHitWithin l.index (get_or l.hit-items k d)
