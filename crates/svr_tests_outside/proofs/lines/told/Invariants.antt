use Rattle.std.proofs.Common.{Some}
use Rattle.svr_lines.specs.Reading.{KnowsEnd}
use Rattle.svr_tests_outside.proofs.lines.told.Given as goal

abbrev pub invariant-loop-call : goal.invariant-loop-call
invariant-loop-call l = KnowsEnd l.lines (Some l.source.left)
