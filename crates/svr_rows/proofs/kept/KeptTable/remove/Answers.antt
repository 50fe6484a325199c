use Rattle.std.proofs.Common.{ap, ◌∙◌}
use Rattle.svr_rows.specs.Rows.{row_at, without_row}
use Rattle.svr_rows.specs.Changes.{with_rows_of}
use Rattle.svr_rows.specs.Kept.{kept_rows}
use Rattle.svr_rows.proofs.Entries.{IsKept-remove_entry, lookup-kept, values_of-remove_entry}
use Rattle.svr_rows.proofs.kept.KeptTable.remove.Goals as goal

pub invariant_of-self : goal.invariant_of-self
invariant_of-self c =
    IsKept-remove_entry c.self.inside.kinds.items c.self.inside.rows c.self.invariant c.remove.new.self c.args.id
    c.remove.ensures.changed

pub returns-clause-changed : goal.returns-clause-changed
returns-clause-changed c =
    ap (λ es. kept_rows c.self.inside.kinds.items es) c.remove.ensures.changed
    ∙ ap (with_rows_of (kept_rows c.self.inside.kinds.items c.self.inside.rows))
    (values_of-remove_entry c.self.inside.kinds.items c.self.inside.rows c.self.invariant c.args.id)
    ∙ ap (λ t. with_rows_of t (without_row t.rows c.args.id)) c.self.view_is

pub returns-clause-before : goal.returns-clause-before
returns-clause-before c =
    c.remove.ensures.before ∙ lookup-kept c.self.inside.kinds.items c.self.inside.rows c.self.invariant c.args.id
    ∙ ap (λ t. row_at t.rows c.args.id) c.self.view_is
