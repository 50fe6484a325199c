use Rattle.std.proofs.Common.{◌≡◌, ◌<◌, List, length, None, sym, ◌∙◌, subst, arith, rules}
use Rattle.svr_request.specs.declared.refusal.Refusal.TheVariants as refusal
use Rattle.svr_rows.specs.declared.change.Change.TheVariants.{Delete}
use Rattle.svr_rows.specs.Rows.{TableRows, row_at, rows_in}
use Rattle.svr_core.specs.Outcomes.{change_outcome, refused}
use Rattle.svr_core.proofs.Deleted.{HasId-in_table, change_outcome-no_row, id_of-found, length-tables}
use Rattle.svr_core.proofs.plans.row_id.Goals as goal

pub returns-in_err-row-clause-none : goal.returns-in_err-row-clause-none
returns-in_err-row-clause-none c = λ _.
    let schema = c.args.catalog.now.catalog.schema in
    let tables = c.tables.result.now in
    let within : c.args.table < length tables = omega (arith, length-tables schema tables c.tables.ensures.of_schema, c.requires) in
    let none : row_at (rows_in tables c.args.table) c.args.id ≡ None = search rules in
    subst (λ (ts : List TableRows). change_outcome (record { schema = schema; tables = ts }) (Delete c.args.table c.args.id) ≡ refused refusal.NoRow)
    c.tables.ensures.tables (change_outcome-no_row (record { schema = schema; tables = tables }) c.args.table c.args.id within none)

pub id_in-requires : goal.id_in-requires
id_in-requires c =
    let schema = c.args.catalog.now.catalog.schema in
    let tables = c.tables.result.now in
    let lawful = c.tables.ensures.of_schema in
    let within : c.args.table < length tables = omega (arith, length-tables schema tables lawful, c.requires) in
    HasId-in_table tables c.args.table c.in_ok-row.row.now within lawful.rows c.in_ok-row.ensures.fits

pub returns-clause-same : goal.returns-clause-same
returns-clause-same c =
    c.id_in.ensures.value
    ∙ id_of-found (rows_in c.tables.result.now c.args.table) c.args.id c.in_ok-row.row.now (sym c.in_ok-row.ensures.value)
