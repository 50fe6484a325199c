use Rattle.svr_view.proofs.Found.{HasId-document}
use Rattle.svr_view.proofs.values.score_now.Goals as goal

pub score-requires-clause-has_id : goal.score-requires-clause-has_id
score-requires-clause-has_id c =
    HasId-document c.args.schema.now c.args.tables.now c.requires.tables c.in-Some.row.now c.in-Some.ensures.fits
