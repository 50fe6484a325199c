use Rattle.std.proofs.Common.{◌-◌, ◌≤◌, ℕ, List}
use Rattle.svr_lines.proofs.SoFar.{GoesOn}
use Rattle.svr_lines.proofs.lines.Lines.drop_line.Given as goal

abbrev pub invariant-loop-self : goal.invariant-loop-self
invariant-loop-self g l =
    ((gone bytes : List ℕ) × GoesOn (g.S.Source.left l.fn.input) (g.S.Source.left l.input) l.fn.self l.self gone bytes)
    × (g.S.Source.faults l.fn.input ≤ g.S.Source.faults l.input)

abbrev pub decreases-loop-self : goal.decreases-loop-self
decreases-loop-self g l = l.self.limit - l.self.handed
