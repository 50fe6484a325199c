use Rattle.std.proofs.Common.{length}
use Rattle.svr_iter.proofs.mem_postings.+keys_descend.Given as goal

abbrev pub decreases-keys_descend : goal.decreases-keys_descend
decreases-keys_descend l = length l.groups.now
