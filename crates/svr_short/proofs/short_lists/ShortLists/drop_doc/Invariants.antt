use Rattle.std.proofs.Common.{length}
use Rattle.svr_short.specs.Short.{KeepsOthers}
use Rattle.svr_short.proofs.short_lists.ShortLists.drop_doc.Given as goal

abbrev pub invariant-loop-place : goal.invariant-loop-place
invariant-loop-place g l = KeepsOthers l.initial.self l.self l.id

abbrev pub decreases-loop-place : goal.decreases-loop-place
decreases-loop-place g l = length l.self.marks
