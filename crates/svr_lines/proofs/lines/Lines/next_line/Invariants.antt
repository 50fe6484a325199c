use Rattle.std.proofs.Common.{◌-◌, ◌≤◌, ℕ, List}
use Rattle.svr_lines.specs.Reading.{taken_bytes}
use Rattle.svr_lines.proofs.SoFar.{Searches}
use Rattle.svr_lines.proofs.lines.Lines.next_line.Given as goal

abbrev pub invariant-loop-at : goal.invariant-loop-at
invariant-loop-at g l =
    ((bytes : List ℕ) × Searches (g.S.Source.left l.fn.input) (g.S.Source.left l.input) l.fn.self l.self l.clean bytes)
    × (g.S.Source.faults l.fn.input ≤ g.S.Source.faults l.input)

abbrev pub decreases-loop-at : goal.decreases-loop-at
decreases-loop-at g l = l.self.limit - taken_bytes l.self
