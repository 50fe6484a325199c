use Rattle.std.proofs.Common.{◌≡◌, map, take}
use Rattle.svr_rows.specs.Rows.{no_rows}
use Rattle.svr_rows.proofs.tables.Tables.new.Given as goal

abbrev pub invariant-loop-table : goal.invariant-loop-table
invariant-loop-table l = l.tables.items ≡ map no_rows (take l.table-index l.table-items)
