use Rattle.std.proofs.Common.{length}
use Rattle.svr_listing.proofs.joined.+insert_keys.Given as goal

abbrev pub decreases-insert_keys : goal.decreases-insert_keys
decreases-insert_keys l = length l.groups.now
