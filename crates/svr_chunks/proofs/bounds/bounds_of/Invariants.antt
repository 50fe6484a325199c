use Rattle.std.proofs.Common.{length, ◌≡◌, ◌-◌, take}
use Rattle.svr_chunks.proofs.Next.{SoFar}
use Rattle.svr_chunks.proofs.bounds.bounds_of.Given as goal

abbrev pub invariant-loop-at : goal.invariant-loop-at
invariant-loop-at l = (length l.values ≡ 64) × SoFar l.scores l.ratio l.min_docs (take l.len l.values) l.len l.bound l.from l.at

abbrev pub decreases-loop-at : goal.decreases-loop-at
decreases-loop-at l = length l.scores - l.at
