use Rattle.std.proofs.Common.{Option, subst, sym}
use Rattle.std.proofs.lemmas.List.Elements.{recursion_from_All}
use Rattle.svr_merge.specs.Runs.{Run}
use Rattle.svr_lists.specs.Lists.{IsAtScores, ListsValue}
use Rattle.svr_lists.specs.Publish.{Publishes}
use Rattle.svr_lists.proofs.Publishing.{at-published-scores, publishes}
use Rattle.svr_lists.proofs.lists.Lists.publish.Goals as goal

pub returns-clause-publishes : goal.returns-clause-publishes
returns-clause-publishes g c =
    let old : ListsValue = record { index = c.self.inside.index; merge = c.self.inside.merge } in
    let new : ListsValue = record { index = c.place_all.new.index; merge = c.take.new.self } in
    subst (λ (v : ListsValue). Publishes v new c.args.documents.now) c.self.view_is
    (subst (λ (o : Option Run). Publishes old (record { index = c.place_all.new.index; merge = o }) c.args.documents.now)
    (sym c.in-Some.ensures.after)
    (publishes old c.in-Some.run' c.install.new.index c.place_all.new.index c.args.documents.now (sym c.in-Some.ensures.value)
    c.in_ok-install.ensures c.in_ok-place_all.ensures.places))

pub returns-clause-at_scores : goal.returns-clause-at_scores
returns-clause-at_scores g c score at are =
    let old : ListsValue = record { index = c.self.inside.index; merge = c.self.inside.merge } in
    subst (λ (o : Option Run). IsAtScores score (record { index = c.place_all.new.index; merge = o })) (sym c.in-Some.ensures.after)
    (at-published-scores old c.in-Some.run' c.install.new.index c.place_all.new.index c.args.documents.now score
    (sym c.in-Some.ensures.value) (recursion_from_All _ _ c.requires.scores) c.in_ok-install.ensures c.in_ok-place_all.ensures.entries
    (subst (IsAtScores score) (sym c.self.view_is) at) are)
