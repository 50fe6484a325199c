use Rattle.std.proofs.Common.{sym, subst}
use Rattle.svr_rows.specs.Kept.{IsColumns}
use Rattle.svr_rows.proofs.Fits.{IsColumns-from_table}
use Rattle.svr_rows.proofs.Entries.{IsKept-none}
use Rattle.svr_rows.proofs.kept.KeptTable.new.Goals as goal

pub invariant_of-result : goal.invariant_of-result
invariant_of-result c =
    let columns = subst IsColumns (sym c.in_ok-kinds.ensures) (IsColumns-from_table c.args.table.now c.requires) in
    IsKept-none c.in_ok-kinds.field-0.items c.new.result c.new.ensures columns
