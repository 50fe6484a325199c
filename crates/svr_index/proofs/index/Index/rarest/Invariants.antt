use Rattle.std.proofs.Common.{◌<◌, length}
use Rattle.svr_index.proofs.index.Index.rarest.Given as goal

abbrev pub invariant-loop-i : goal.invariant-loop-i
invariant-loop-i l = l.rarest < length l.terms
