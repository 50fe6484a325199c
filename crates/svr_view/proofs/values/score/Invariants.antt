use Rattle.std.proofs.Common.{◌≡◌, length, take}
use Rattle.std.specs.List.{All}
use Rattle.svr_num.specs.Aggregates.{IsValue}
use Rattle.svr_view.specs.Layout.{values_by}
use Rattle.svr_view.proofs.values.score.Given as goal

abbrev pub invariant-loop-c : goal.invariant-loop-c
invariant-loop-c l =
    (take l.c l.values ≡ values_by l.groups 0 l.row (take l.c l.component-items)) × All IsValue (take l.c l.values) × (length l.values ≡ 8)
