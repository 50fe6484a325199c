use Rattle.svr_view.proofs.Found.{HasId-document, HasId-read}
use Rattle.svr_catalog.proofs.follow.row_for.Goals as goal

pub returns-in-Some-clause-has_id : goal.returns-in-Some-clause-has_id
returns-in-Some-clause-has_id c =
    HasId-document c.args.schema.now c.args.tables.now c.requires.tables c.in-Some.row.now c.in-Some.ensures.fits

pub returns-in-None-clause-has_id : goal.returns-in-None-clause-has_id
returns-in-None-clause-has_id c =
    HasId-read (λ row. row.now) c.row_in.result c.args.tables.now c.args.change.now c.requires.tables.rows c.requires.accepted c.row_in.ensures
