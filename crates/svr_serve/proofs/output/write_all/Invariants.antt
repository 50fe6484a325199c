use Rattle.std.proofs.Common.{◌≡◌, ◌≤◌, ◌++◌, List, ℕ, length}
use Rattle.std.specs.Io.KnownBytes.{Appends}
use Rattle.svr_serve.proofs.output.write_all.Given as goal

-- what was taken and the rest are the piece
abbrev pub invariant-loop-rest : goal.invariant-loop-rest
invariant-loop-rest g l =
    ((front : List ℕ) × (front ++ l.rest ≡ l.fn.piece) × Appends (g.O.Sink.taken l.fn.output) (g.O.Sink.taken l.output) front)
    × (g.O.Sink.faults l.fn.output ≤ g.O.Sink.faults l.output)

abbrev pub decreases-loop-rest : goal.decreases-loop-rest
decreases-loop-rest g l = length l.rest
