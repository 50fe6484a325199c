use Rattle.std.proofs.Common.{length}
use Rattle.svr_listing.proofs.joined.+insert_ids.Given as goal

abbrev pub decreases-insert_ids : goal.decreases-insert_ids
decreases-insert_ids l = length l.more.now
