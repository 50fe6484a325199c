use Rattle.std.proofs.Common.{◌≡◌, drop, map}
use Rattle.csv.specs.Records.{fields_of}
use Rattle.svr_csvload.specs.Blocks.{cells_in}
use Rattle.svr_csvload.proofs.Fields.{behind, kind_in}
use Rattle.svr_csvload.proofs.record.read_cells.Given as goal

abbrev pub invariant-loop-place : goal.invariant-loop-place
invariant-loop-place l =
    cells_in (map kind_in l.columns) (fields_of l.fields)
    ≡ behind l.cells.items (cells_in (drop l.place (map kind_in l.columns)) (drop l.place (fields_of l.fields)))
