use Rattle.std.proofs.Common.{sym, ◌∙◌, rules, Some}
use borrow.Author.Tests.{tests}
use Rattle.std.proofs.lemmas.Iterator.{YieldsList-from_slice, YieldsList-from_zip}
use Rattle.std.proofs.lemmas.Iterator.Search.{position_from_yields_List}
use Rattle.svr_rows.proofs.Fits.{bad_column-zip, map-same, misfits}
use Rattle.svr_rows.proofs.columns.bad_cell.Goals as goal

pub returns : goal.returns
returns c =
    let found = position_from_yields_List
    (λ p. misfits (Some p.1) p.0) c.position-misfit.new.self _ c.position-misfit.result c.position-misfit.ensures.ran
    (YieldsList-from_zip (YieldsList-from_slice c.args.kinds.now cc) (YieldsList-from_slice c.args.cells.now cc))
    (λ x b q k. search (rules, tests)) in
    let faults = bad_column-zip (λ k. k) Some c.args.kinds.now c.args.cells.now c.position-misfit.result (cc) found in
    c.first_fault.ensures ∙ sym (rw (map-same c.args.kinds.now) at faults)
