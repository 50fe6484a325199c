use Rattle.std.proofs.Common.{◌∙◌}
use Rattle.svr_schema.specs.Components.{is_filtered}
use Rattle.svr_schema.proofs.Seen.{list_all-seen}
use Rattle.svr_schema.proofs.read_component.are_filtered.Goals as goal

pub returns : goal.returns
returns c =
    c.all_filtered.ensures
    ∙ list_all-seen (is_filtered c.args.tables.now c.args.text_table) c.elements_at.result.now _ c.elements_at.ensures
