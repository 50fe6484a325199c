use Rattle.std.proofs.Common.{length}
use Rattle.svr_lists.proofs.Paging.{AreReadBehind}
use Rattle.svr_lists.proofs.pages.read_pages.Given as goal

abbrev pub invariant-loop-front : goal.invariant-loop-front
invariant-loop-front l = AreReadBehind l.at l.bytes l.rest l.next l.pages.items

abbrev pub decreases-loop-front : goal.decreases-loop-front
decreases-loop-front l = length l.rest
