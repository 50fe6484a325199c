use Rattle.std.proofs.Common.{Some, subst}
use Rattle.svr_lists.specs.Lists.{ListsValue}
use Rattle.svr_lists.specs.Merges.{CountsLeft}
use Rattle.svr_lists.proofs.Begun.{left-counts}
use Rattle.svr_lists.proofs.lists.Lists.left.Goals as goal

pub returns-clause-count : goal.returns-clause-count
returns-clause-count c =
    subst (λ (v : ListsValue). CountsLeft v (Some c.terms_behind.result)) c.self.view_is
    (left-counts _ c.in-Some.run' _ c.terms_behind.result c.in-Some.is c.last.ensures.value c.terms_behind.ensures)
