use Rattle.std.proofs.Common.{◌≡◌, map, take}
use Rattle.serde_json.specs.View.{view}
use Rattle.svr_schema.specs.Tables.{column_in}
use Rattle.svr_schema.proofs.read_table.read_columns.Given as goal

abbrev pub invariant-loop-value : goal.invariant-loop-value
invariant-loop-value l = l.columns.items ≡ map column_in (map view (take l.value-index l.values))
