use Rattle.std.proofs.Common.{length}
use Rattle.svr_listing.proofs.listing.+insert_pair_keys.Given as goal

abbrev pub decreases-insert_pair_keys : goal.decreases-insert_pair_keys
decreases-insert_pair_keys l = length l.pairs.now
