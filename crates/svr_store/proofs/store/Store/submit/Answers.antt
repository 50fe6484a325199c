use Rattle.std.proofs.Common.{Option, ap, subst}
use Rattle.std.specs.Option.{IsSome}
use Rattle.svr_catalog.specs.Catalog.{Catalog}
use Rattle.svr_request.specs.Requests.{seen_or_refused, with_block}
use Rattle.svr_core.specs.Edits.{Accepts}
use Rattle.svr_core.specs.Kept.{CoreValue, catalog_of}
use Rattle.svr_core.specs.Outcomes.{outcome_over}
use Rattle.svr_core.specs.Merges.{MayCome}
use Rattle.svr_core.specs.Plans.{IsEntry, IsQuery, MayRefuse}
use Rattle.svr_store.specs.Store.{StoreValue}
use Rattle.svr_core.proofs.Taking.{plain-comes}
use Rattle.svr_store.proofs.Entries.{entry_due}
use Rattle.svr_store.proofs.Silent.{refused_submits}
use Rattle.svr_store.proofs.store.Store.submit.Goals as goal

pub search-requires-clause-set : goal.search-requires-clause-set
search-requires-clause-set g c =
    let planned = rw c.in-Ok-Search.field-0-is at c.in-Ok-Search.ensures.plan in
    subst (λ (core : CoreValue). IsSome (catalog_of core)) (ap (λ (v : StoreValue). v.core) c.self.view_is) planned.1

pub search-requires-clause-query : goal.search-requires-clause-query
search-requires-clause-query g c =
    let planned = rw c.in-Ok-Search.field-0-is at c.in-Ok-Search.ensures.plan in
    planned.0.may

pub commit-requires-clause-accepted : goal.commit-requires-clause-accepted
commit-requires-clause-accepted g c =
    let planned = rw c.in-Ok-Change.field-0-is at c.in-Ok-Change.ensures.plan in
    subst (λ (core : CoreValue). Accepts (catalog_of core) c.in-Ok-Change.entry.edit) (ap (λ (v : StoreValue). v.core) c.self.view_is)
    planned.edit.accepted

pub commit-requires-clause-may_come : goal.commit-requires-clause-may_come
commit-requires-clause-may_come g c =
    let planned = rw c.in-Ok-Change.field-0-is at c.in-Ok-Change.ensures.plan in
    subst (λ (v : StoreValue). MayCome v.core c.in-Ok-Change.entry.edit) c.self.view_is (plain-comes c.self.inside.core c.in-Ok-Change.entry.edit planned.edit.plain)

pub commit-requires-clause-size : goal.commit-requires-clause-size
commit-requires-clause-size g c =
    let planned = rw c.in-Ok-Change.field-0-is at c.in-Ok-Change.ensures.plan in
    planned.size

pub returns-in-Ok-Search-clause-submits : goal.returns-in-Ok-Search-clause-submits
returns-in-Ok-Search-clause-submits g c = λ s serves.
    let here = rw (← c.self.view_is) at serves in
    let request = with_block (seen_or_refused c.args.request) c.args.block.now in
    let planned = rw c.in-Ok-Search.field-0-is at c.in-Ok-Search.ensures.plan in
    c.search.ensures.submits s request serves
    (subst (λ (o : Option Catalog). IsQuery (outcome_over o request) c.in-Ok-Search.query) here.serves.catalog planned.0)

pub returns-in-Ok-Change-clause-submits : goal.returns-in-Ok-Change-clause-submits
returns-in-Ok-Change-clause-submits g c = λ s serves.
    let here = rw (← c.self.view_is) at serves in
    let request = with_block (seen_or_refused c.args.request) c.args.block.now in
    let planned = rw c.in-Ok-Change.field-0-is at c.in-Ok-Change.ensures.plan in
    (c.commit.ensures.submits s request serves (entry_due (g.D.Disk.view c.args.disk.now) s request c.in-Ok-Change.entry
    (subst (λ (o : Option Catalog). IsEntry (outcome_over o request) o c.in-Ok-Change.entry) here.serves.catalog planned))).submits.submits

pub returns-in-Err-clause-submits : goal.returns-in-Err-clause-submits
returns-in-Err-clause-submits g c = λ s serves.
    let here = rw (← c.self.view_is) at serves in
    let request = with_block (seen_or_refused c.args.request) c.args.block.now in
    (refused_submits (g.D.Disk.view c.args.disk.now) (g.met.D.Disk.laws c.args.disk.now) c.args.self.now s request serves c.in-Err.why
    (subst (λ (o : Option Catalog). MayRefuse (outcome_over o request) c.in-Err.why) here.serves.catalog c.in-Err.ensures.refused)).submits
