use Rattle.std.proofs.Common.{◌≡◌, ◌+◌, ◌++◌, drop}
use Rattle.svr_fakes.specs.Platter.{mixed}
use Rattle.svr_fakes.proofs.replay.mix.Given as goal

abbrev pub invariant-loop-place : goal.invariant-loop-place
invariant-loop-place l = l.bytes.items ++ mixed (l.turn + l.place) (drop l.place l.old) (drop l.place l.piece) ≡ mixed l.turn l.old l.piece
