use Rattle.std.proofs.Common.{ap, is_some, ◌∙◌}
use Rattle.svr_rows.specs.Rows.{has_row}
use Rattle.svr_rows.proofs.Entries.{is_some-copied, is_some-lookup_kept}
use Rattle.svr_rows.proofs.kept.KeptTable.has.Goals as goal

pub returns : goal.returns
returns c =
    c.is_some.ensures ∙ is_some-copied c.get.result ∙ ap is_some c.get.ensures ∙ is_some-lookup_kept c.self.inside.kinds.items c.self.inside.rows c.self.invariant c.args.id
    ∙ ap (λ t. has_row t.rows c.args.id) c.self.view_is
