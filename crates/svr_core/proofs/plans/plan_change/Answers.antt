use Rattle.std.proofs.Common.{◌∙◌}
use Rattle.svr_core.proofs.Planned.{IsEntry-change}
use Rattle.svr_core.proofs.plans.plan_change.Goals as goal

pub returns : goal.returns
returns c = record {
  plan = IsEntry-change c.args.catalog.now.catalog c.args.change c.from_vec.result c.in_ok-check.ensures.ok c.in_ok-body.ensures.is_record
      (c.from_vec.ensures ∙ c.in_ok-body.ensures.body);
  refused = tt;
}
