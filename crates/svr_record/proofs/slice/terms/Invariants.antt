use Rattle.std.proofs.Common.{◌≡◌, ◌-◌}
use Rattle.svr_record.specs.Reading.{term_at, many_at}
use Rattle.svr_record.proofs.Many.{with_front}
use Rattle.svr_record.proofs.slice.terms.Given as goal

abbrev pub invariant-loop : goal.invariant-loop
invariant-loop l = with_front l.terms.items (many_at term_at (l.count - l.counter) l.rest) ≡ many_at term_at l.count l.bytes
