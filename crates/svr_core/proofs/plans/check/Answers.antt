use Rattle.std.proofs.Common.{◌≡◌, None, rules}
use Rattle.svr_rows.specs.Changes.{refusal_of}
use Rattle.svr_view.specs.View.{AreTablesOf}
use Rattle.svr_core.proofs.Accepted.{ChangeFits-accepted}
use Rattle.svr_core.proofs.plans.check.Goals as goal

pub returns-clause-fits : goal.returns-clause-fits
returns-clause-fits c =
    let tables = c.args.catalog.now.catalog.tables in
    let accepted : refusal_of tables c.args.change.now ≡ None = search rules in
    let lawful : AreTablesOf c.args.catalog.now.catalog.schema tables = search rules in
    λ deletes. ChangeFits-accepted tables c.args.change.now lawful.rows accepted deletes
