use Rattle.std.proofs.Common.{ap, ◌∙◌, subst}
use Rattle.svr_idmap.specs.Ids.{Ascends}
use Rattle.svr_idmap.specs.Layout.{entries_from}
use Rattle.svr_idmap.proofs.Walks.{entries-ascend, entry_from, next-now}
use Rattle.svr_idmap.proofs.dense.Dense.next.Goals as goal

pub returns-clause-value : goal.returns-clause-value
returns-clause-value g c =
    c.first_from.ensures ∙ ap (λ values. entry_from c.place_behind.result (entries_from 0 values)) c.as_slice.ensures.value
    ∙ ap (λ place. entry_from place (entries_from 0 c.self.inside.values.items)) c.place_behind.ensures
    ∙ next-now c.self.inside.values.items c.self.inside.count c.args.self.now c.self.invariant c.self.view_is c.args.after

pub returns-clause-ordered : goal.returns-clause-ordered
returns-clause-ordered g c = subst Ascends c.self.view_is (entries-ascend 0 c.self.inside.values.items)
