use Rattle.std.proofs.Common.{List, subst, sym}
use Rattle.svr_lists.specs.declared.publish.DocumentText.{DocumentText}
use Rattle.svr_lists.specs.Publish.{Shows}
use Rattle.svr_view.specs.Score.{score_at}
use Rattle.svr_catalog.specs.Layout.{documents_from}
use Rattle.svr_catalog.proofs.Merging.{publishes}
use Rattle.svr_catalog.proofs.Shown.{scores-shown}
use Rattle.svr_catalog.proofs.contents.Contents.publish.Goals as goal

pub returns-clause-kept : goal.returns-clause-kept
returns-clause-kept g c =
    let s = c.args.schema.now in
    let tables = c.args.self.now.tables in
    let shows = subst (λ (ds : List DocumentText). Shows ds (documents_from s tables)) (sym c.deref.ensures.value) c.in_ok-documents.ensures.shows in
    record {
      tables = c.requires.kept.tables;
      scores = c.requires.kept.scores;
      lists = c.in_ok-publish.ensures.at_scores (score_at s tables) c.requires.kept.lists (scores-shown s tables c.deref.result.now shows);
    }

pub returns-clause-publishes : goal.returns-clause-publishes
returns-clause-publishes g c =
    let s = c.args.schema.now in
    let tables = c.args.self.now.tables in
    let shows = subst (λ (ds : List DocumentText). Shows ds (documents_from s tables)) (sym c.deref.ensures.value) c.in_ok-documents.ensures.shows in
    publishes (record { schema = s; tables = tables }) c.args.self.now.lists c.publish.new.self c.deref.result.now shows
    c.in_ok-publish.ensures.publishes
