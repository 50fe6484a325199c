use Rattle.std.proofs.Common.{length}
use Rattle.svr_long.proofs.heads.+are_heads.Given as goal

abbrev pub decreases-are_heads : goal.decreases-are_heads
decreases-are_heads l = length l.pages.now
