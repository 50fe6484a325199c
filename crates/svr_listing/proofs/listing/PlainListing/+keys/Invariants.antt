use Rattle.std.proofs.Common.{length}
use Rattle.svr_listing.proofs.listing.PlainListing.+keys.Given as goal

abbrev pub decreases-keys : goal.decreases-keys
decreases-keys l = length l.terms.now
