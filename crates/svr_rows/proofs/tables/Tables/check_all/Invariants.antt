use Rattle.std.proofs.Common.{take}
use Rattle.svr_rows.specs.Load.{IsAhead}
use Rattle.svr_rows.proofs.tables.Tables.check_all.Given as goal

abbrev pub invariant-loop-index : goal.invariant-loop-index
invariant-loop-index l = IsAhead l.self l.table (take l.index l.rows) l.ahead
