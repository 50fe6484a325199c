use Rattle.svr_merge.proofs.Paged.{left, taken}
use Rattle.svr_merge.proofs.pages.first_page.Goals as goal

pub returns-clause-page : goal.returns-clause-page
returns-clause-page c = taken c.min.result c.args.pairs.now c.split_at.result.0.now c.min.ensures c.split_at.ensures.front

pub returns-clause-rest : goal.returns-clause-rest
returns-clause-rest c = left c.min.result c.args.pairs.now c.split_at.result.1.now c.min.ensures c.split_at.ensures.back
