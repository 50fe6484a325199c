use Rattle.std.proofs.Common.{Some, subst, sym}
use Rattle.svr_merge.specs.Rules.{rules_now}
use Rattle.svr_lists.specs.Lists.{IsAtScores, ListsValue}
use Rattle.svr_lists.specs.Merges.{BeginsMerge}
use Rattle.svr_lists.proofs.Begun.{at-begun, begins}
use Rattle.svr_lists.proofs.lists.Lists.begin.Goals as goal

pub returns-clause-begins : goal.returns-clause-begins
returns-clause-begins c =
    let new : ListsValue = record { index = c.self.inside.index; merge = Some c.in_ok-run.run' } in
    let rules = rules_now c.args.spec.now c.args.documents.now in
    subst (λ (v : ListsValue). BeginsMerge v new c.args.documents.now rules) c.self.view_is
    (begins c.self.inside.index c.self.inside.merge c.in_ok-run.run' c.args.documents.now rules c.in_ok-run.ensures.stands)

pub returns-clause-at_scores : goal.returns-clause-at_scores
returns-clause-at_scores c score at are =
    at-begun c.self.inside.index c.self.inside.merge c.in_ok-run.run' c.args.documents.now (rules_now c.args.spec.now c.args.documents.now) score
    c.in_ok-run.ensures.stands (subst (IsAtScores score) (sym c.self.view_is) at) are
