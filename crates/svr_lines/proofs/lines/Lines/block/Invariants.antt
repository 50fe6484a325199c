use Rattle.std.proofs.Common.{◌≡◌, ◌-◌, ◌≤◌, ℕ, List, true, false}
use Rattle.svr_lines.specs.Reading.{KnowsEnd, taken_bytes}
use Rattle.svr_lines.proofs.SoFar.{TakesPart}
use Rattle.svr_lines.proofs.lines.Lines.block.Given as goal

abbrev pub invariant-loop-missing : goal.invariant-loop-missing
invariant-loop-missing g l =
    ((gone bytes : List ℕ) × TakesPart (g.S.Source.left l.fn.input) (g.S.Source.left l.input) l.fn.self l.self l.size l.missing l.kept
    gone bytes)
    × KnowsEnd l.self (g.S.Source.left l.input)
    × (l.fn.self.ended ≡ true → (l.self.ended ≡ true) × (l.missing ≡ l.size) × (taken_bytes l.self ≡ taken_bytes l.fn.self))
    × (l.fn.self.ended ≡ false → l.self.ended ≡ false)
    × (g.S.Source.faults l.fn.input ≤ g.S.Source.faults l.input)

abbrev pub decreases-loop-missing : goal.decreases-loop-missing
decreases-loop-missing g l = l.self.limit - taken_bytes l.self
