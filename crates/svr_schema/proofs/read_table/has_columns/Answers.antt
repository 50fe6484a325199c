use Rattle.std.proofs.Common.{sym, ◌∙◌}
use Rattle.svr_schema.specs.Tables.{is_column}
use Rattle.svr_schema.proofs.Seen.{and-seen}
use Rattle.svr_schema.proofs.read_table.has_columns.Goals as goal

pub returns-then-is_list_at : goal.returns-then-is_list_at
returns-then-is_list_at c =
    and-seen _ c.are_columns.result is_column c.elements_at.result.now _
    (sym c.is_list_at.ensures ∙ c.if-is_list_at.true) c.elements_at.ensures c.are_columns.ensures
