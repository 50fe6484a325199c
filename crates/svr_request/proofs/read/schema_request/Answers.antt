use Rattle.std.proofs.Common.{codes, sym}
use Rattle.serde_json.specs.Read.{max_depth}
use Rattle.serde_json.specs.View.{view}
use Rattle.svr_request.proofs.Nested.{depth-get}
use Rattle.svr_request.proofs.read.schema_request.Goals as goal

pub invariant_of-result : goal.invariant_of-result
invariant_of-result c = record {
  nests = depth-get (codes "schema") (view c.args.value) (view c.in_ok-value.value) max_depth (sym c.in_ok-value.ensures) c.requires;
}
