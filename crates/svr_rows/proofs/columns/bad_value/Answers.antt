use Rattle.std.proofs.Common.{sym, ◌∙◌, rules}
use borrow.Author.Tests.{tests}
use Rattle.std.proofs.lemmas.Iterator.{YieldsList-from_slice, YieldsList-from_zip}
use Rattle.std.proofs.lemmas.Iterator.Search.{position_from_yields_List}
use Rattle.svr_rows.specs.Rows.{cell_in}
use Rattle.svr_rows.proofs.Fits.{bad_column-zip, misfits}
use Rattle.svr_rows.proofs.columns.bad_value.Goals as goal

pub returns : goal.returns
returns c =
    let found = position_from_yields_List
    (λ p. misfits (cell_in p.1) p.0.kind) c.position-misfit.new.self _ c.position-misfit.result c.position-misfit.ensures.ran
    (YieldsList-from_zip (YieldsList-from_slice c.args.columns.now cc) (YieldsList-from_slice c.args.values.now cc))
    (λ x b q k. search (rules, tests)) in
    c.first_fault.ensures
    ∙ sym (bad_column-zip (λ c. c.kind) cell_in c.args.columns.now c.args.values.now c.position-misfit.result (cc) found)
