use Rattle.std.proofs.Common.{◌∙◌}
use Rattle.svr_view.specs.Score.{score_at}
use Rattle.svr_catalog.proofs.Merging.{begins}
use Rattle.svr_catalog.proofs.Shown.{scores-hits}
use Rattle.svr_catalog.proofs.contents.Contents.begin_merge.Goals as goal

pub returns-clause-kept : goal.returns-clause-kept
returns-clause-kept c =
    let s = c.args.schema.now in
    let tables = c.args.self.now.tables in
    record {
      tables = c.requires.kept.tables;
      scores = c.requires.kept.scores;
      lists = c.in_ok-begin.ensures.at_scores (score_at s tables) c.requires.kept.lists
          (scores-hits s tables c.deref.result.now (c.deref.ensures.value ∙ c.in_ok-documents.ensures.are));
    }

pub returns-clause-begins : goal.returns-clause-begins
returns-clause-begins c =
    begins (record { schema = c.args.schema.now; tables = c.args.self.now.tables }) c.args.self.now.lists c.begin.new.self c.deref.result.now
    (c.deref.ensures.value ∙ c.in_ok-documents.ensures.are) c.in_ok-begin.ensures.begins
