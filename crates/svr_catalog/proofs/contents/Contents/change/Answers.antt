use Rattle.std.proofs.Common.{sym, subst}
use Rattle.svr_lists.specs.Lists.{IsAtScores}
use Rattle.svr_view.specs.Score.{score_at}
use Rattle.svr_view.specs.View.{AreTablesOf, StandsFor}
use Rattle.svr_catalog.proofs.Rows.{AreTablesOf-changed}
use Rattle.svr_catalog.proofs.contents.Contents.change.Goals as goal

pub returns-clause-kept : goal.returns-clause-kept
returns-clause-kept g c =
    let s = c.args.schema.now in
    let is = sym c.in_ok-apply.ensures.changed in
    record {
      tables = subst (AreTablesOf s) is
          (AreTablesOf-changed s c.args.self.now.tables c.args.change c.requires.kept.tables c.requires.accepted);
      scores = subst (λ ts. StandsFor s ts c.note.new.self) is c.in_ok-moves.ensures.stands;
      lists = subst (λ ts. IsAtScores (score_at s ts) c.follow.new.lists) is c.in_ok-follow.ensures.at_scores;
    }
