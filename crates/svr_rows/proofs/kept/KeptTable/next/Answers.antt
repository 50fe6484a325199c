use Rattle.std.proofs.Common.{ap, ◌∙◌}
use Rattle.svr_rows.specs.Rows.{row_after}
use Rattle.svr_rows.proofs.Walked.{entry_after-kept, row_in}
use Rattle.svr_rows.proofs.kept.KeptTable.next.Goals as goal

pub returns-in-Some : goal.returns-in-Some
returns-in-Some c =
    ap row_in c.in-Some.ensures.value
    ∙ entry_after-kept c.self.inside.kinds.items c.self.inside.rows c.self.invariant c.args.after
    ∙ ap (λ t. row_after t.rows c.args.after) c.self.view_is

pub returns-in-None : goal.returns-in-None
returns-in-None c =
    ap row_in c.in-None.ensures.value
    ∙ entry_after-kept c.self.inside.kinds.items c.self.inside.rows c.self.invariant c.args.after
    ∙ ap (λ t. row_after t.rows c.args.after) c.self.view_is
