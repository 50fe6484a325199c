use Rattle.std.proofs.Common.{Option, ℕ, Some, Ok, sym, subst, ◌∙◌}
use Rattle.svr_core.specs.declared.plan.Plan.TheVariants as plan
use Rattle.svr_core.specs.Outcomes.{block_outcome, in_table}
use Rattle.svr_core.specs.Plans.{Plans}
use Rattle.svr_core.proofs.Planned.{IsEntry-load}
use Rattle.svr_core.proofs.loads.plan_load.Goals as goal

pub returns : goal.returns
returns c =
    let now = c.args.catalog.now.catalog in
    let header = c.args.header in
    let block = c.args.block.now in
    let table = c.in_ok-table.table in
    let edit = c.in_ok-edit.edit in
    let body = c.from_vec.result in
    subst
    (λ (place : Option ℕ).
    Plans (in_table place (λ at. block_outcome now at header block)) (Some now) (Ok (plan.Change (record { edit = edit; body = body }))))
    (sym c.in_ok-table.ensures.ok)
    (record {
      plan = IsEntry-load now table header block edit body c.in_ok-edit.ensures.edit c.in_ok-table.ensures.there c.requires
          (c.from_vec.ensures ∙ c.in_ok-body.ensures.body);
      refused = tt;
    })
