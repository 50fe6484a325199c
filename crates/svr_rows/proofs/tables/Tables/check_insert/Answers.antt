use Rattle.std.proofs.Common.{◌≡◌, List, ◌+◌, None, Some, sym, ap, ◌∙◌, subst}
use Rattle.std.specs.List.{All}
use Rattle.std.proofs.lemmas.Result.{err_from_is_err_and, on_ok_weaker, IfErr-weaker}
use Rattle.svr_rows.specs.declared.change.Change.TheVariants.{Insert}
use Rattle.svr_rows.specs.Rows.{TableRows, id_of, text_bytes, with_row}
use Rattle.svr_rows.specs.Changes.{new_refusal, refusal_of, text_refusal, with_rows}
use Rattle.svr_rows.specs.Kept.{CountsTexts, IsTableRows}
use Rattle.svr_rows.proofs.Sums.{insert-counted, IsTableRows-at}
use Rattle.svr_rows.proofs.Tested.{insert_bad_row, insert_not_new, insert_texts, IsNew-from_none, refused_no_table, text_fits, text_full}
use Rattle.svr_rows.proofs.tables.Tables.check_insert.Goals as goal

new : (c : goal.After-check_text) → new_refusal c.in_ok-kept.kept.now (id_of c.args.row.now) ≡ None
new c = ap (new_refusal c.in_ok-kept.kept.now) (sym c.id.ensures) ∙ c.in_ok-check_new.ensures.ok

abbrev after : goal.After-check_text → List TableRows
after c = with_rows c.args.self.now c.args.table (with_row c.in_ok-kept.kept.now.rows c.args.row.now)

-- what all texts would have together
total : (c : goal.After-check_text) → c.self.inside.bytes + c.text_bytes.result ≡ text_bytes (after c)
total c =
    let counted = subst (CountsTexts c.self.inside.bytes) c.self.view_is c.self.invariant.0 in
    let lawful = IsTableRows-at _ _ _ (subst (All IsTableRows) c.self.view_is c.self.invariant.1) c.in_ok-kept.ensures.ok in
    ap (λ n. c.self.inside.bytes + n) c.text_bytes.ensures
    ∙ insert-counted _ _ _ c.in_ok-kept.ensures.ok lawful c.args.row.now _ counted
    (IsNew-from_none c.in_ok-kept.kept.now (id_of c.args.row.now) (new c)).free

-- only the texts are left to be tested
texts : (c : goal.After-check_text) → refusal_of c.args.self.now (Insert c.args.table c.args.row.now) ≡ text_refusal (after c)
texts c =
    insert_texts _ _ _ c.in_ok-kept.ensures.ok c.args.row.now c.in_ok-check_row.ensures.ok (new c)

pub returns-in_err-kept-clause-refused : goal.returns-in_err-kept-clause-refused
returns-in_err-kept-clause-refused c =
    let p = err_from_is_err_and c.from_residual.result c.from_residual.ensures.1 in
    rw (p.1, p.2) (refused_no_table c.args.self.now (Insert c.args.table c.args.row.now) c.in_err-kept.ensures.refused.1
    ∙ ap Some (sym c.in_err-kept.ensures.refused.0))

pub returns-in_err-check_row-clause-refused : goal.returns-in_err-check_row-clause-refused
returns-in_err-check_row-clause-refused c =
    let p = err_from_is_err_and c.from_residual-in_err-check_row.result c.from_residual-in_err-check_row.ensures.1 in
    rw (p.1, p.2) (insert_bad_row c.args.self.now c.args.table c.in_ok-kept.kept.now c.in_ok-kept.ensures.ok c.args.row.now
    c.in_err-check_row.field-0.0 c.in_err-check_row.ensures.refused)

pub returns-in_err-check_new-clause-refused : goal.returns-in_err-check_new-clause-refused
returns-in_err-check_new-clause-refused c =
    let kept = c.in_ok-kept.kept.now in
    let row = c.args.row.now in
    let taken = ap (new_refusal kept) (sym c.id.ensures) ∙ c.in_err-check_new.ensures.refused in
    let p = err_from_is_err_and c.from_residual-in_err-check_new.result c.from_residual-in_err-check_new.ensures.1 in
    rw (p.1, p.2) (insert_not_new c.args.self.now c.args.table kept c.in_ok-kept.ensures.ok row c.in_err-check_new.field-0.0
    c.in_ok-check_row.ensures.ok taken)

pub returns-clause-ok : goal.returns-clause-ok
returns-clause-ok c =
    on_ok_weaker c.check_text.result (λ few. texts c ∙ text_fits (after c) _ (total c) few) c.check_text.ensures.ok

pub returns-clause-refused : goal.returns-clause-refused
returns-clause-refused c =
    IfErr-weaker c.check_text.result _ _
    (λ why h. texts c ∙ text_full (after c) _ (total c) h.1 ∙ ap Some (sym h.0)) c.check_text.ensures.refused
