use Rattle.std.proofs.Common.{sym, subst}
use Rattle.svr_catalog.specs.Stands.{Stands}
use Rattle.svr_catalog.proofs.Standing.{stands-carried}
use Rattle.svr_catalog.proofs.catalog.Catalog.with_change.Goals as goal

pub returns-clause-stands : goal.returns-clause-stands
returns-clause-stands g c = λ s stood.
    let old = c.self.inside.contents in
    let new = c.change.new.self in
    stands-carried c.self.inside.schema old.tables new.tables old.lists new.lists c.in_ok-change.ensures.kept.tables
    c.in_ok-change.ensures.carries s (subst (λ v. Stands v s) (sym c.self.view_is) stood)
