use Rattle.std.proofs.Common.{◌≡◌, List, Option, Some, Ok, sym, subst, rules}
use Rattle.svr_catalog.specs.Catalog.{catalog_with_rows}
use Rattle.svr_catalog.specs.Listed.{listed_with_rows}
use Rattle.svr_catalog.specs.Stands.{CatalogValue, Stands}
use Rattle.svr_listing.specs.Served.{Served}
use Rattle.svr_rows.specs.declared.row.Row.{Row}
use Rattle.svr_core.specs.declared.plan.Edit.{Edit}
use Rattle.svr_core.specs.Steps.{FollowsEdit}
use Rattle.svr_core.proofs.Edited.{change_follows, load_follows, publish_follows, slice_follows}
use Rattle.svr_core.proofs.served.edited.Goals as goal

pub returns-in-Change-Some-clause-follows : goal.returns-in-Change-Some-clause-follows
returns-in-Change-Some-clause-follows g c =
    let i = c.in-Change-Some in
    let made = c.in_ok-with_change-in-Change-Some in
    subst (λ (o : Option CatalogValue). FollowsEdit o c.args.edit (Ok made.field-0)) (sym i.is-1)
    (subst (λ (e : Edit). FollowsEdit (Some i.catalog) e (Ok made.field-0)) (sym i.is-0)
    (change_follows i.catalog i.change (Ok made.field-0) made.ensures.catalog made.ensures.stands made.ensures.last))

pub returns-in-Load-Some-clause-follows : goal.returns-in-Load-Some-clause-follows
returns-in-Load-Some-clause-follows g c =
    let i = c.in-Load-Some in
    let made = c.in_ok-with_rows-in-Load-Some in
    let after = made.field-0 in
    subst (λ (o : Option CatalogValue). FollowsEdit o c.args.edit (Ok after)) (sym i.is-1)
    (subst (λ (e : Edit). FollowsEdit (Some i.catalog) e (Ok after)) (sym i.is-0)
    (load_follows i.catalog i.table i.rows (Ok after)
    (subst (λ (rows : List Row). after.catalog ≡ catalog_with_rows i.catalog.catalog i.table rows) c.into_vec.ensures made.ensures.catalog)
    (subst (λ (rows : List Row). (l : Served) → Stands i.catalog l → Stands after (listed_with_rows i.catalog.catalog l i.table rows))
    c.into_vec.ensures made.ensures.stands) made.ensures.last))

pub returns-in-Publish-Some-clause-follows : goal.returns-in-Publish-Some-clause-follows
returns-in-Publish-Some-clause-follows g c =
    let i = c.in-Publish-Some in
    let made = c.in_ok-published-in-Publish-Some in
    subst (λ (o : Option CatalogValue). FollowsEdit o c.args.edit (Ok made.field-0)) (sym i.is-1)
    (subst (λ (e : Edit). FollowsEdit (Some i.catalog) e (Ok made.field-0)) (sym i.is-0)
    (publish_follows i.catalog (Ok made.field-0) made.ensures.catalog made.ensures.publishes made.ensures.last))

pub returns-in-Slice-Some-clause-follows : goal.returns-in-Slice-Some-clause-follows
returns-in-Slice-Some-clause-follows g c =
    let i = c.in-Slice-Some in
    let result = c.with_slice.result in
    let terms : c.as_slice.result.now ≡ i.terms = search rules in
    let pages : c.as_slice-in-Slice-Some.result.now ≡ i.pages = search rules in
    subst (λ (o : Option CatalogValue). FollowsEdit o c.args.edit result) (sym i.is-1)
    (subst (λ (e : Edit). FollowsEdit (Some i.catalog) e result) (sym i.is-0)
    (slice_follows i.catalog i.terms i.pages i.at result c.with_slice.ensures.catalog
    (rw (← terms, ← pages) c.with_slice.ensures.takes) (rw (← terms, ← pages) c.with_slice.ensures.next)))
