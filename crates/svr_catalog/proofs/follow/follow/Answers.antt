use Rattle.svr_listing.specs.Listing.{score_in}
use Rattle.svr_rows.specs.Changes.{changed}
use Rattle.svr_view.specs.Score.{score_at}
use Rattle.svr_catalog.specs.Layout.{documents_from}
use Rattle.svr_catalog.proofs.Midway.{at_scores-same, midway-scores}
use Rattle.svr_catalog.proofs.Rows.{score_in-documents}
use Rattle.svr_catalog.proofs.follow.follow.Goals as goal

pub follow_text-requires-clause-at_scores : goal.follow_text-requires-clause-at_scores
follow_text-requires-clause-at_scores g c =
    let s = c.args.schema.now in
    let now = changed c.args.tables.now c.args.change.now in
    at_scores-same (score_in (documents_from s now)) (score_at s now) c.follow_moves.new.lists (score_in-documents s now)
    (midway-scores (documents_from s c.args.tables.now) (documents_from s now) c.args.lists.now c.follow_moves.new.lists
    c.in_ok-follow_moves.ensures.midway)
