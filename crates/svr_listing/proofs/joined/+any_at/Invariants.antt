use Rattle.std.proofs.Common.{length}
use Rattle.svr_listing.proofs.joined.+any_at.Given as goal

abbrev pub decreases-any_at : goal.decreases-any_at
decreases-any_at l = length l.lists.now
