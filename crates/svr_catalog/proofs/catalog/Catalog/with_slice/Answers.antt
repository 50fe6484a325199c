use Rattle.std.proofs.Common.{subst}
use Rattle.svr_lists.specs.declared.slice.Slice.{Slice}
use Rattle.svr_view.specs.Score.{score_at}
use Rattle.svr_catalog.specs.Catalog.{Catalog}
use Rattle.svr_catalog.specs.Merging.{TakesNext}
use Rattle.svr_catalog.proofs.Merging.{takes-next}
use Rattle.svr_catalog.proofs.catalog.Catalog.with_slice.Goals as goal

pub invariant_of-result : goal.invariant_of-result
invariant_of-result c = record {
  tables = c.self.invariant.tables;
  scores = c.self.invariant.scores;
  lists = c.in_ok-take_slice.ensures.at_scores (score_at c.self.inside.schema c.self.inside.contents.tables) c.self.invariant.lists;
}

pub returns-clause-next : goal.returns-clause-next
returns-clause-next c =
    let old = c.self.inside.contents in
    let catalog : Catalog = record { schema = c.self.inside.schema; tables = old.tables } in
    let slice : Slice = record { terms = c.args.terms.now; pages = c.args.pages.now } in
    subst (λ v. TakesNext v (record { catalog = catalog; lists = c.take_slice.new.self }) slice c.args.at) c.self.view_is
    (takes-next catalog old.lists c.take_slice.new.self slice c.args.at c.in_ok-take_slice.ensures.takes)
