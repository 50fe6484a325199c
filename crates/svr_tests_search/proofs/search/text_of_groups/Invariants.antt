use Rattle.svr_topk.proofs.Searching.{room}
use Rattle.svr_tests_search.proofs.search.text_of_groups.Given as goal

abbrev pub decreases-groups : goal.decreases-groups
decreases-groups g l = room (g.P.Postings.next l.list)
