use Rattle.std.proofs.Common.{Option, subst}
use Rattle.svr_catalog.specs.Stands.{CatalogValue}
use Rattle.svr_core.specs.Kept.{ServesAs}
use Rattle.svr_core.proofs.Begun.{forgotten_by}
use Rattle.svr_core.proofs.served.Core.forget_merge.Goals as goal

pub returns-clause-forgets : goal.returns-clause-forgets
returns-clause-forgets c = λ s serves.
    let changes = c.self.inside.changes in
    forgotten_by c.in-Some.catalog c.forget_merge.new.self changes c.forget_merge.ensures.catalog c.forget_merge.ensures.forgets
    c.forget_merge.ensures.last s
    (subst (λ (o : Option CatalogValue). ServesAs (record { kept = o; changes = changes }) s) c.in-Some.is (rw (← c.self.view_is) at serves))
