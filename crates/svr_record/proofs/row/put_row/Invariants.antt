use Rattle.std.proofs.Common.{◌≡◌, ◌++◌, ◌∷◌, length, take}
use Rattle.std.specs.List.{flat_map, AllByRecursion}
use Rattle.svr_record.specs.Bodies.{cell_body}
use Rattle.svr_record.specs.Limits.{IsCell}
use Rattle.svr_record.proofs.row.put_row.Given as goal

abbrev pub invariant-loop-cell : goal.invariant-loop-cell
invariant-loop-cell l =
    (l.out.items ≡ l.fn.out.items ++ (length l.row.cells ∷ flat_map cell_body (take l.cell-index l.row.cells)))
    × AllByRecursion IsCell (take l.cell-index l.row.cells)
