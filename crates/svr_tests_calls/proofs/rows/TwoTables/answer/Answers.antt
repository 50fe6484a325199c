use Rattle.std.proofs.Common.{◌∙◌, ap, length}
use Rattle.svr_tests_calls.proofs.Tables.{length-with_rows}
use Rattle.svr_tests_calls.proofs.rows.TwoTables.answer.Goals as goal

pub invariant_of-self : goal.invariant_of-self
invariant_of-self c = record {
  two = ap length c.remove-before.ensures.changed ∙ length-with_rows _ _ _ ∙ c.args.self.now.two;
}
