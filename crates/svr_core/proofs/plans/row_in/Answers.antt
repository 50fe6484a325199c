use Rattle.std.proofs.Common.{map, ap, ◌∙◌}
use Rattle.svr_rows.specs.Rows.{cell_in}
use Rattle.svr_core.proofs.Made.{row_of-cells}
use Rattle.svr_core.proofs.plans.row_in.Goals as goal

pub returns-in-Ok-clause-row : goal.returns-in-Ok-clause-row
returns-in-Ok-clause-row c = row_of-cells c.in-Ok.row c.args.given (c.in-Ok.ensures.cells ∙ ap (map cell_in) c.into_vec.ensures)
