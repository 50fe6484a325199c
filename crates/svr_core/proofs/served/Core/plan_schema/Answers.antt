use Rattle.std.proofs.Common.{◌∙◌}
use Rattle.serde_json.specs.View.{view}
use Rattle.svr_core.specs.Kept.{catalog_of}
use Rattle.svr_core.proofs.Planned.{IsEntry-schema}
use Rattle.svr_core.proofs.served.Core.plan_schema.Goals as goal

pub returns : goal.returns
returns c = record {
  plan = IsEntry-schema (catalog_of c.args.self.now) (view c.args.schema.now.value) c.in_ok-edit.edit c.from_vec.result
      c.in_ok-edit.ensures.edit.edit c.in_ok-body.ensures.read_again c.in_ok-body.ensures.is_record
      (c.from_vec.ensures ∙ c.in_ok-body.ensures.body);
  refused = tt;
}
