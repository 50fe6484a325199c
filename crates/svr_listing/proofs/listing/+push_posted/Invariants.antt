use Rattle.std.proofs.Common.{length}
use Rattle.svr_listing.proofs.listing.+push_posted.Given as goal

abbrev pub decreases-push_posted : goal.decreases-push_posted
decreases-push_posted l = length l.lists.now
