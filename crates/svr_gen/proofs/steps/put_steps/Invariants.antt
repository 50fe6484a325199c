use Rattle.std.proofs.Common.{◌≡◌, ◌≤◌, ◌-◌}
use Rattle.svr_gen.specs.Layout.{followed}
use Rattle.svr_gen.specs.Workload.{steps}
use Rattle.svr_gen.proofs.steps.put_steps.Given as goal

abbrev pub invariant-loop : goal.invariant-loop
invariant-loop l = record {
  all : followed l.writer (steps (600 - l.counter) l.merges) ≡ followed l.initial.writer (steps 600 0);
  few : l.merges ≤ l.counter;
}
