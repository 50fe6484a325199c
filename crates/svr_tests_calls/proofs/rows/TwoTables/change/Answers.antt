use Rattle.svr_tests_calls.proofs.Tables.{as_many-apply}
use Rattle.svr_tests_calls.proofs.rows.TwoTables.change.Goals as goal

pub invariant_of-self : goal.invariant_of-self
invariant_of-self c = record {
  two = as_many-apply _ _ c.args.change c.apply.result c.apply.ensures.changed c.apply.ensures.err c.args.self.now.two;
}
