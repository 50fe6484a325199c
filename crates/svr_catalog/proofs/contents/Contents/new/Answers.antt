use Rattle.std.proofs.Common.{None, sym, subst}
use Rattle.svr_lists.specs.Lists.{IsAtScores}
use Rattle.svr_view.specs.Score.{score_at}
use Rattle.svr_view.specs.View.{AreTablesOf, StandsFor}
use Rattle.svr_catalog.proofs.Midway.{at_scores-same}
use Rattle.svr_catalog.proofs.Merging.{last-none}
use Rattle.svr_catalog.proofs.Rows.{AreTablesOf-no_rows, score_at-no_rows}
use Rattle.svr_catalog.proofs.contents.Contents.new.Goals as goal

pub returns-clause-kept : goal.returns-clause-kept
returns-clause-kept c =
    let schema = c.args.schema.now in
    let is = sym c.in_ok-new.ensures in
    record {
      tables = subst (AreTablesOf schema) is (AreTablesOf-no_rows schema c.requires);
      scores = subst (λ ts. StandsFor schema ts c.in_ok-new-2.field-0) is c.in_ok-new-2.ensures;
      lists = subst (λ ts. IsAtScores (score_at schema ts) c.new-3.result) is
          (at_scores-same (λ _. None) _ c.new-3.result (λ id. sym (score_at-no_rows schema id)) c.new-3.ensures.at_scores);
    }

pub returns-clause-last : goal.returns-clause-last
returns-clause-last c = last-none c.new-3.result _ c.new-3.ensures.stands
