use Rattle.std.proofs.Common.{◌≡◌, ℕ, ◌+◌, take, [], ◌∷◌, ◌++◌, None, Some, sym, ap, ◌∙◌, rules, arith}
use Rattle.std.proofs.lemmas.List.{take_more}
use Rattle.std.proofs.lemmas.Result.{err_from_is_err_and}
use Rattle.svr_rows.specs.declared.change.RowRefusal.{RowRefusal}
use Rattle.svr_rows.specs.declared.load.LoadRefusal.TheVariants.{At}
use Rattle.svr_rows.specs.Load.{refusal_beside}
use Rattle.svr_rows.proofs.Beside.{IsAhead-more, load_refusal-taken}
use Rattle.svr_rows.proofs.tables.Tables.check_all.Goals as goal

pub loop-index-init : goal.loop-index-init
loop-index-init c = c.none_ahead-ahead.ensures c.args.table

pub loop-index-preserved : goal.loop-index-preserved
loop-index-preserved c =
    let rows = c.args.rows.now in
    let row = c.index-rows-index.result in
    let i = c.loop-index.index in
    let none : refusal_beside c.args.self.now c.args.table c.loop-index.ahead row ≡ None = search rules in
    let more : take (i + 1) rows ≡ take i rows ++ row ∷ [] =
    take_more rows i row (omega arith) ∙ ap (λ r. take i rows ++ r ∷ []) (sym c.index-rows-index.is) in
    rw more (IsAhead-more c.args.self.now c.args.table (take i rows) c.loop-index.ahead c.add.new.self row c.loop-index.invariant none
    c.in_ok-add.ensures)

pub returns-in_err-map_err-clause-refused : goal.returns-in_err-map_err-clause-refused
returns-in_err-map_err-clause-refused c =
    let row = c.index-rows-index.result in
    let told : (number : ℕ) (reason : RowRefusal) → c.in_err-map_err.field-0.0 ≡ At number reason
    → (number ≡ c.loop-index.index + 1) × (refusal_beside c.args.self.now c.args.table c.loop-index.ahead row ≡ Some reason) =
    search rules in
    let p = err_from_is_err_and c.from_residual.result c.from_residual.ensures.1 in
    rw (p.1, p.2) (λ number reason e. (let is = told number reason e in
    load_refusal-taken c.args.self.now c.args.table c.args.rows.now c.loop-index.index row c.loop-index.ahead reason c.loop-index-test.true
    c.index-rows-index.is c.loop-index.invariant is.1
    ∙ ap (λ n. Some (n, reason)) (sym is.0)))
