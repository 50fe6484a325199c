use Rattle.std.proofs.Common.{◌<◌, length, Some, slice_get, ◌∙◌, ap, sym, subst, rules}
use Rattle.std.proofs.lemmas.Option.{slice_get-get_or}
use Rattle.svr_view.specs.View.{AreTablesOf}
use Rattle.svr_core.proofs.Made.{kinds_in-is}
use Rattle.svr_core.proofs.tables.declared.Goals as goal

-- the rows that stand at the place have the columns of the table there
pub returns-clause-kinds : goal.returns-clause-kinds
returns-clause-kinds c =
    let kept = c.args.catalog.now.catalog in
    let table = c.index-as_slice-table.result in
    let within : c.args.table < length c.as_slice.result.now = search rules in
    let lawful : AreTablesOf kept.schema kept.tables = subst (λ s. AreTablesOf s kept.tables) c.schema.ensures.schema c.schema.ensures.of_tables in
    let there = ap (λ ts. slice_get ts c.args.table) (sym c.as_slice.ensures)
    ∙ slice_get-get_or c.as_slice.result.now c.args.table table within
    ∙ ap Some (sym c.index-as_slice-table.is) in
    sym (kinds_in-is kept.tables kept.schema.tables c.args.table table lawful.kinds (search rules))
