use Rattle.std.proofs.Common.{Some, not, sym, ap, ◌∙◌}
use Rattle.std.proofs.lemmas.Result.{err_from_is_err_and}
use Rattle.svr_rows.specs.declared.change.Change.TheVariants.{Delete}
use Rattle.svr_rows.specs.declared.change.RowRefusal.TheVariants.{NoRow}
use Rattle.svr_rows.specs.Changes.{refuse_if}
use Rattle.svr_rows.proofs.Tested.{delete_is, refused_no_table}
use Rattle.svr_rows.proofs.tables.Tables.check_delete.Goals as goal

pub returns-in_err-kept-clause-refused : goal.returns-in_err-kept-clause-refused
returns-in_err-kept-clause-refused c =
    let p = err_from_is_err_and c.from_residual.result c.from_residual.ensures.1 in
    rw (p.1, p.2) (refused_no_table c.args.self.now (Delete c.args.table c.args.id) c.in_err-kept.ensures.refused.1
    ∙ ap Some (sym c.in_err-kept.ensures.refused.0))

pub returns-then-has-clause-ok : goal.returns-then-has-clause-ok
returns-then-has-clause-ok c =
    delete_is c.args.self.now c.args.table c.in_ok-kept.kept.now c.in_ok-kept.ensures.ok c.args.id
    ∙ ap (λ b. refuse_if (not b) NoRow) (sym c.has.ensures ∙ c.if-has.true)

pub returns-else-has-clause-refused : goal.returns-else-has-clause-refused
returns-else-has-clause-refused c =
    delete_is c.args.self.now c.args.table c.in_ok-kept.kept.now c.in_ok-kept.ensures.ok c.args.id
    ∙ ap (λ b. refuse_if (not b) NoRow) (sym c.has.ensures ∙ c.if-has.false)
