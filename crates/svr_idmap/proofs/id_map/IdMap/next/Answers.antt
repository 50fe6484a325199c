use Rattle.std.proofs.Common.{ap, ◌∙◌, subst}
use Rattle.std.specs.Option.{option_or}
use Rattle.svr_idmap.specs.Ids.{Ascends, entry_after}
use Rattle.svr_idmap.proofs.Walks.{Ascends-parted, after-parted}
use Rattle.svr_idmap.proofs.id_map.IdMap.next.Goals as goal

pub returns-in-Some-clause-value : goal.returns-in-Some-clause-value
returns-in-Some-clause-value g c =
    ap (λ found. option_or found (entry_after c.self.inside.sparse.entries c.args.after)) c.in-Some.ensures.value
    ∙ after-parted c.self.inside.dense c.self.inside.sparse.entries c.args.after
    ∙ ap (λ es. entry_after es c.args.after) c.self.view_is

pub returns-in-Some-clause-ordered : goal.returns-in-Some-clause-ordered
returns-in-Some-clause-ordered g c =
    subst Ascends c.self.view_is
    (Ascends-parted c.self.inside.dense c.self.inside.sparse.entries c.self.invariant c.next.ensures.ordered)

pub returns-clause-value : goal.returns-clause-value
returns-clause-value g c =
    c.next_in.ensures
    ∙ ap (λ found. option_or found (entry_after c.self.inside.sparse.entries c.args.after)) c.in_default.ensures.value
    ∙ after-parted c.self.inside.dense c.self.inside.sparse.entries c.args.after
    ∙ ap (λ es. entry_after es c.args.after) c.self.view_is

pub returns-clause-ordered : goal.returns-clause-ordered
returns-clause-ordered g c =
    subst Ascends c.self.view_is
    (Ascends-parted c.self.inside.dense c.self.inside.sparse.entries c.self.invariant c.next.ensures.ordered)
