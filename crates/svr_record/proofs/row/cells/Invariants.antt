use Rattle.std.proofs.Common.{◌≡◌, ◌-◌}
use Rattle.svr_record.specs.Reading.{cell_at, many_at}
use Rattle.svr_record.proofs.Many.{with_front}
use Rattle.svr_record.proofs.row.cells.Given as goal

abbrev pub invariant-loop : goal.invariant-loop
invariant-loop l = with_front l.cells.items (many_at cell_at (l.count - l.counter) l.rest) ≡ many_at cell_at l.count l.bytes
