use Rattle.std.proofs.Common.{◌∙◌}
use Rattle.svr_schema.specs.Tables.{has_columns}
use Rattle.svr_schema.proofs.Seen.{list_all-seen}
use Rattle.svr_schema.proofs.read_table.have_columns.Goals as goal

pub returns : goal.returns
returns c = c.all_have_columns.ensures ∙ list_all-seen has_columns c.elements_at.result.now _ c.elements_at.ensures
