use Rattle.std.proofs.Common.{take}
use Rattle.svr_iter.specs.declared.marks.Mark.TheVariants as mark
use Rattle.svr_short.specs.Layout.{IsTurned}
use Rattle.svr_tokens.specs.Tokens.{has_term}
use Rattle.svr_short.proofs.short_lists.ShortLists.place.Given as goal

abbrev pub invariant-loop-i : goal.invariant-loop-i
invariant-loop-i g l = IsTurned l.initial.self l.self l.id l.key mark.Add (has_term (take l.i l.terms))
