use Rattle.std.proofs.Common.{◌≡◌, List, ◌+◌, ◌-◌, is_some, None, Some, option_map, sym, ap, ap₂, ◌∙◌, subst, arith}
use Rattle.std.specs.List.{All}
use Rattle.std.proofs.lemmas.Result.{err_from_is_err_and, on_ok_weaker, IfErr-weaker}
use Rattle.svr_rows.specs.declared.change.Change.TheVariants.{Update}
use Rattle.svr_rows.specs.declared.change.RowRefusal.TheVariants.{NoRow}
use Rattle.svr_rows.specs.Rows.{TableRows, id_of, row_at, row_bytes, text_bytes, with_row}
use Rattle.svr_rows.specs.Changes.{refusal_of, text_refusal, with_rows}
use Rattle.svr_rows.specs.Kept.{bytes_at, CountsTexts, IsTableRows}
use Rattle.svr_rows.proofs.ById.{is_some-row_at}
use Rattle.svr_rows.proofs.Sums.{bytes_at-counted, bytes_at-few, update-counted, IsTableRows-at}
use Rattle.svr_rows.proofs.Tested.{update_bad_row, update_no_row, update_texts, refused_no_table, text_fits, text_full}
use Rattle.svr_rows.proofs.tables.Tables.check_update.Goals as goal
use Rattle.svr_rows.proofs.tables.Tables.check_update.Goals.{After-self}

-- the row that stood there
found : (c : After-self) → row_at c.in_ok-kept.kept.now.rows (id_of c.args.row.now) ≡ Some c.in_ok-before.before.now
found c =
    let stood : c.row.result ≡ Some c.in_ok-before.before = grind arith in
    ap (row_at c.in_ok-kept.kept.now.rows) (sym c.id.ensures) ∙ sym c.row.ensures ∙ ap (option_map (λ r. r.now)) stood

lawful : (c : After-self) → IsTableRows c.in_ok-kept.kept.now
lawful c =
    IsTableRows-at _ _ _ (subst (All IsTableRows) c.self.view_is c.self.invariant.1) c.in_ok-kept.ensures.ok

counted : (c : After-self) → CountsTexts c.self.inside.bytes c.args.self.now
counted c = subst (CountsTexts c.self.inside.bytes) c.self.view_is c.self.invariant.0

abbrev after : After-self → List TableRows
after c = with_rows c.args.self.now c.args.table (with_row c.in_ok-kept.kept.now.rows c.args.row.now)

-- what all texts would have together
total : (c : After-self) → c.self.inside.bytes - row_bytes c.in_ok-before.before.now + row_bytes c.args.row.now ≡ text_bytes (after c)
total c =
    update-counted _ _ _ c.in_ok-kept.ensures.ok (lawful c) c.args.row.now _ _ (counted c) (found c)

-- only the texts are left to be tested
texts : (c : After-self) → refusal_of c.args.self.now (Update c.args.table c.args.row.now) ≡ text_refusal (after c)
texts c =
    update_texts _ _ _ c.in_ok-kept.ensures.ok c.args.row.now c.in_ok-check_row.ensures.ok
    (sym (is_some-row_at c.in_ok-kept.kept.now.rows (id_of c.args.row.now)) ∙ ap is_some (found c))

pub returns-in_err-kept-clause-refused : goal.returns-in_err-kept-clause-refused
returns-in_err-kept-clause-refused c =
    let p = err_from_is_err_and c.from_residual.result c.from_residual.ensures.1 in
    rw (p.1, p.2) (refused_no_table c.args.self.now (Update c.args.table c.args.row.now) c.in_err-kept.ensures.refused.1
    ∙ ap Some (sym c.in_err-kept.ensures.refused.0))

pub returns-in_err-check_row-clause-refused : goal.returns-in_err-check_row-clause-refused
returns-in_err-check_row-clause-refused c =
    let p = err_from_is_err_and c.from_residual-in_err-check_row.result c.from_residual-in_err-check_row.ensures.1 in
    rw (p.1, p.2) (update_bad_row c.args.self.now c.args.table c.in_ok-kept.kept.now c.in_ok-kept.ensures.ok c.args.row.now
    c.in_err-check_row.field-0.0 c.in_err-check_row.ensures.refused)

pub returns-in_err-before-clause-refused : goal.returns-in_err-before-clause-refused
returns-in_err-before-clause-refused c =
    let kept = c.in_ok-kept.kept.now in
    let missing : c.row.result ≡ None = grind arith in
    let none : row_at kept.rows (id_of c.args.row.now) ≡ None =
    ap (row_at kept.rows) (sym c.id.ensures) ∙ sym c.row.ensures ∙ ap (option_map (λ r. r.now)) missing in
    let has = sym (is_some-row_at kept.rows (id_of c.args.row.now)) ∙ ap is_some none in
    let why : c.in_err-before.field-0.0 ≡ NoRow = grind arith in
    let p = err_from_is_err_and c.from_residual-in_err-before.result c.from_residual-in_err-before.ensures.1 in
    rw (p.1, p.2) (update_no_row c.args.self.now c.args.table kept c.in_ok-kept.ensures.ok c.args.row.now c.in_ok-check_row.ensures.ok
    has ∙ ap Some (sym why))

pub text_bytes-requires : goal.text_bytes-requires
text_bytes-requires c =
    let k = (goal.at.text_bytes-requires c).After-self in
    omega (arith, bytes_at-few c.in_ok-kept.kept.now (id_of c.args.row.now) (lawful k), ap bytes_at (found k))

pub overflow_sub-self-inside : goal.overflow_sub-self-inside
overflow_sub-self-inside c =
    let k = (goal.at.overflow_sub-self-inside c).After-self in
    let few = bytes_at-counted _ _ _ c.in_ok-kept.ensures.ok (lawful k) (id_of c.args.row.now) _ (counted k) in
    omega (arith, few, ap bytes_at (found k), c.text_bytes.ensures)

pub returns-clause-ok : goal.returns-clause-ok
returns-clause-ok c =
    let k = (goal.at.returns-clause-ok c).After-self in
    let all = ap₂ (λ m n. c.self.inside.bytes - m + n) c.text_bytes.ensures c.text_bytes-2.ensures ∙ total k in
    on_ok_weaker c.check_text.result (λ few. texts k ∙ text_fits (after k) _ all few) c.check_text.ensures.ok

pub returns-clause-refused : goal.returns-clause-refused
returns-clause-refused c =
    let k = (goal.at.returns-clause-refused c).After-self in
    let all = ap₂ (λ m n. c.self.inside.bytes - m + n) c.text_bytes.ensures c.text_bytes-2.ensures ∙ total k in
    IfErr-weaker c.check_text.result _ _
    (λ why h. texts k ∙ text_full (after k) _ all h.1 ∙ ap Some (sym h.0)) c.check_text.ensures.refused
