use Rattle.std.proofs.Common.{◌≡◌, Some, sym, ap, ◌∙◌, rules}
use Rattle.svr_request.specs.Requests.{seen}
use Rattle.svr_core.specs.Outcomes.{delete_outcome, insert_outcome, load_outcome, update_outcome, wanted_outcome}
use Rattle.svr_core.specs.Kept.{CoreValue}
use Rattle.svr_core.proofs.Asked.{Plans-set, catalog_set}
use Rattle.svr_core.proofs.served.Core.plan_request.Goals as goal

pub returns-in-Insert-Some : goal.returns-in-Insert-Some
returns-in-Insert-Some c =
    let w = c.in-Insert-Some in
    let name : c.as_str.result.now ≡ w.table = search rules in
    Plans-set (seen c.args.request) c.args.block.now (catalog_set c.args.self.now w.catalog (ap (λ (n : CoreValue). n.kept) (sym c.self.view_is) ∙ w.is-1))
    (ap (λ n. insert_outcome w.catalog.catalog n w.row) name
    ∙ sym (ap (λ r. wanted_outcome (Some w.catalog.catalog) (seen r) c.args.block.now) w.is-0)) c.plan_insert.ensures

pub returns-in-Update-Some : goal.returns-in-Update-Some
returns-in-Update-Some c =
    let w = c.in-Update-Some in
    let name : c.as_str-in-Update-Some.result.now ≡ w.table = search rules in
    Plans-set (seen c.args.request) c.args.block.now (catalog_set c.args.self.now w.catalog (ap (λ (n : CoreValue). n.kept) (sym c.self.view_is) ∙ w.is-1))
    (ap (λ n. update_outcome w.catalog.catalog n w.row) name
    ∙ sym (ap (λ r. wanted_outcome (Some w.catalog.catalog) (seen r) c.args.block.now) w.is-0)) c.plan_update.ensures

pub returns-in-Delete-Some : goal.returns-in-Delete-Some
returns-in-Delete-Some c =
    let w = c.in-Delete-Some in
    let name : c.as_str-in-Delete-Some.result.now ≡ w.table = search rules in
    Plans-set (seen c.args.request) c.args.block.now (catalog_set c.args.self.now w.catalog (ap (λ (n : CoreValue). n.kept) (sym c.self.view_is) ∙ w.is-1))
    (ap (λ n. delete_outcome w.catalog.catalog n w.id) name
    ∙ sym (ap (λ r. wanted_outcome (Some w.catalog.catalog) (seen r) c.args.block.now) w.is-0)) c.plan_delete.ensures

pub returns-in-Load-Some : goal.returns-in-Load-Some
returns-in-Load-Some c =
    let w = c.in-Load-Some in
    let name : c.as_str-in-Load-Some.result.now ≡ w.table = search rules in
    Plans-set (seen c.args.request) c.args.block.now (catalog_set c.args.self.now w.catalog (ap (λ (n : CoreValue). n.kept) (sym c.self.view_is) ∙ w.is-1))
    (ap (λ n. load_outcome w.catalog.catalog n w.header c.args.block.now) name
    ∙ sym (ap (λ r. wanted_outcome (Some w.catalog.catalog) (seen r) c.args.block.now) w.is-0)) c.plan_load.ensures
