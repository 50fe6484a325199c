use Rattle.std.proofs.Common.{length}
use Rattle.svr_listing.proofs.joined.+ids_at.Given as goal

abbrev pub decreases-ids_at : goal.decreases-ids_at
decreases-ids_at l = length l.groups.now
