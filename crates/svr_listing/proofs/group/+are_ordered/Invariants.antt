use Rattle.std.proofs.Common.{length}
use Rattle.svr_listing.proofs.group.+are_ordered.Given as goal

abbrev pub decreases-are_ordered : goal.decreases-are_ordered
decreases-are_ordered l = length l.groups.now
