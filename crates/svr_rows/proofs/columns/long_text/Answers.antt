use Rattle.std.proofs.Common.{sym, ◌∙◌, nat_lt, rules}
use borrow.Author.Tests.{tests}
use Rattle.std.proofs.lemmas.Iterator.{YieldsList-from_slice}
use Rattle.std.proofs.lemmas.Iterator.Search.{position_from_yields_List}
use Rattle.svr_rows.specs.Rows.{cell_bytes}
use Rattle.svr_rows.proofs.Fits.{long_text_from-zero}
use Rattle.svr_rows.proofs.columns.long_text.Goals as goal

pub returns-in_err-place : goal.returns-in_err-place
returns-in_err-place c =
    let found = position_from_yields_List (λ x. nat_lt 65536 (cell_bytes x)) _ _ c.position.result c.position.ensures.ran
    (YieldsList-from_slice c.args.cells.now cc) (λ x b q k. search (rules, tests)) in
    c.from_residual.ensures ∙ sym c.in_err-place.was ∙ sym (long_text_from-zero c.args.cells.now c.position.result found)

pub returns : goal.returns
returns c =
    let found = position_from_yields_List (λ x. nat_lt 65536 (cell_bytes x)) _ _ c.position.result c.position.ensures.ran
    (YieldsList-from_slice c.args.cells.now cc) (λ x b q k. search (rules, tests)) in
    sym c.in_ok-place.was ∙ sym (long_text_from-zero c.args.cells.now c.position.result found)
