use Rattle.std.proofs.Common.{option_map}
use Rattle.svr_view.proofs.Counting.{HasIds}
use Rattle.svr_view.proofs.counted.counted_ids.Given as goal

abbrev pub invariant-loop-component : goal.invariant-loop-component
invariant-loop-component l =
    HasIds l.component-index l.components l.table (option_map (λ row. row.now) l.old) (option_map (λ row. row.now) l.new) l.ids
