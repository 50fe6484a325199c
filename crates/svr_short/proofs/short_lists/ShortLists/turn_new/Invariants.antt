use Rattle.std.proofs.Common.{take}
use Rattle.svr_short.specs.Layout.{IsTurned}
use Rattle.svr_short.specs.Short.{lacks}
use Rattle.svr_short.proofs.short_lists.ShortLists.turn_new.Given as goal

abbrev pub invariant-loop-i : goal.invariant-loop-i
invariant-loop-i l = IsTurned l.initial.self l.self l.id l.key l.mark (lacks l.others (take l.i l.terms))
