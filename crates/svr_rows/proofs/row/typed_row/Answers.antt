use Rattle.std.proofs.Common.{◌≡◌, None, Some, map, ap, ◌∙◌}
use Rattle.svr_rows.specs.Rows.{bad_column, cell_in, kinds_of}
use Rattle.svr_rows.proofs.Fits.{cells-made}
use Rattle.svr_rows.proofs.row.typed_row.Goals as goal

pub returns-clause-cells : goal.returns-clause-cells
returns-clause-cells c =
    let fit : bad_column (kinds_of c.args.table.now) (map cell_in c.args.given.items) ≡ None = cc in
    ap (map Some) (c.from_vec.ensures ∙ c.in_ok-cells_of.ensures) ∙ cells-made (kinds_of c.args.table.now) c.args.given.items fit

pub returns-clause-fits : goal.returns-clause-fits
returns-clause-fits c =
    let fit : bad_column (kinds_of c.args.table.now) (map cell_in c.args.given.items) ≡ None = cc in
    ap (bad_column (kinds_of c.args.table.now))
    (ap (map Some) (c.from_vec.ensures ∙ c.in_ok-cells_of.ensures) ∙ cells-made (kinds_of c.args.table.now) c.args.given.items fit)
    ∙ fit
