use Rattle.svr_num.proofs.Ranked.{ranked_is}
use Rattle.svr_num.proofs.hit.rank_hits.Goals as goal

pub returns-clause-ranked : goal.returns-clause-ranked
returns-clause-ranked c = ranked_is _ _ c.sort_unstable.ensures.permutation c.sort_unstable.ensures.sorted
