use Rattle.std.proofs.Common.{◌≡◌, ◌-◌, ◌<◌, ◌≤◌, ℕ, List, true, false}
use Rattle.svr_lines.specs.Reading.{KnowsEnd, taken_bytes}
use Rattle.svr_lines.proofs.SoFar.{SkipsLines}
use Rattle.svr_lines.proofs.lines.Lines.line.Given as goal

abbrev pub invariant-loop-self : goal.invariant-loop-self
invariant-loop-self g l =
    ((gone bytes : List ℕ) × SkipsLines (g.S.Source.left l.fn.input) (g.S.Source.left l.input) l.fn.self l.self gone bytes)
    × KnowsEnd l.self (g.S.Source.left l.input)
    × (l.fn.self.ended ≡ true → l.self.ended ≡ true)
    × (l.fn.self.ended ≡ false → l.self.ended ≡ true → taken_bytes l.self < l.self.limit)
    × (g.S.Source.faults l.fn.input ≤ g.S.Source.faults l.input)

abbrev pub decreases-loop-self : goal.decreases-loop-self
decreases-loop-self g l = l.self.limit - l.self.handed
