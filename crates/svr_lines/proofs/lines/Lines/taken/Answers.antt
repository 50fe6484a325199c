use Rattle.std.proofs.Common.{arith}
use Rattle.svr_lines.proofs.lines.Lines.taken.Goals as goal

pub overflow_add-result : goal.overflow_add-result
overflow_add-result c = omega (arith, c.self.invariant.few)
