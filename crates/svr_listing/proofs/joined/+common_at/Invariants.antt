use Rattle.std.proofs.Common.{length}
use Rattle.svr_listing.proofs.joined.+common_at.Given as goal

abbrev pub decreases-common_at : goal.decreases-common_at
decreases-common_at l = length l.lists.now
