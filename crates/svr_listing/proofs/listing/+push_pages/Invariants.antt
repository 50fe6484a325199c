use Rattle.std.proofs.Common.{length}
use Rattle.svr_listing.proofs.listing.+push_pages.Given as goal

abbrev pub decreases-push_pages : goal.decreases-push_pages
decreases-push_pages l = length l.pages.now
