use Rattle.std.proofs.Common.{◌≡◌, map, take}
use Rattle.std.specs.List.{filter_map}
use Rattle.serde_json.specs.View.{view}
use Rattle.svr_schema.specs.Components.{component_in}
use Rattle.svr_schema.proofs.read_component.component_list.Given as goal

abbrev pub invariant-loop-value : goal.invariant-loop-value
invariant-loop-value l = l.found.items ≡ filter_map (component_in l.tables l.text_table) (map view (take l.value-index l.values))
