use Rattle.std.proofs.Common.{option_map}
use Rattle.svr_view.proofs.Counting.{UpTo}
use Rattle.svr_view.proofs.counted.recount.Given as goal

abbrev pub invariant-loop-c : goal.invariant-loop-c
invariant-loop-c l =
    UpTo l.c l.components l.table (option_map (λ row. row.now) l.old) (option_map (λ row. row.now) l.new) l.initial.groups l.groups
