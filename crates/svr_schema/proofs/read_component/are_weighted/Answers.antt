use Rattle.std.proofs.Common.{◌∙◌}
use Rattle.svr_schema.specs.Components.{is_weighted}
use Rattle.svr_schema.proofs.Seen.{list_all-seen}
use Rattle.svr_schema.proofs.read_component.are_weighted.Goals as goal

pub returns : goal.returns
returns c = c.all_weighted.ensures ∙ list_all-seen is_weighted c.elements_at.result.now _ c.elements_at.ensures
