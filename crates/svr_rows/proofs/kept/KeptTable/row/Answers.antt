use Rattle.std.proofs.Common.{ap, ◌∙◌}
use Rattle.svr_rows.specs.Rows.{row_at}
use Rattle.svr_rows.proofs.Entries.{lookup-kept}
use Rattle.svr_rows.proofs.kept.KeptTable.row.Goals as goal

pub returns : goal.returns
returns c =
    c.get.ensures ∙ lookup-kept c.self.inside.kinds.items c.self.inside.rows c.self.invariant c.args.id
    ∙ ap (λ t. row_at t.rows c.args.id) c.self.view_is
