use Rattle.std.proofs.Common.{◌≡◌, true}
use Rattle.svr_core.specs.declared.plan.Step.TheVariants as step
use Rattle.svr_store.proofs.Steps.{step_entry_due, step_refused}
use Rattle.svr_store.proofs.store.Store.begin.Goals as goal

pub returns-in-Ok-clause-submits : goal.returns-in-Ok-clause-submits
returns-in-Ok-clause-submits g c = λ s request serves is.
    let here = rw (← c.self.view_is) at serves in
    (c.commit.ensures.submits s request serves
    (step_entry_due (g.D.Disk.view c.args.disk.now) (s.served.lawful ≡ true) c.self.inside.core s request step.Begin c.in-Ok.entry is (λ keeps. keeps.lawful)
    (c.in-Ok.ensures.entry s here.serves))).submits

pub returns-in-Err-clause-submits : goal.returns-in-Err-clause-submits
returns-in-Err-clause-submits g c = λ s request serves is.
    let here = rw (← c.self.view_is) at serves in
    step_refused (g.D.Disk.view c.args.disk.now) (g.met.D.Disk.laws c.args.disk.now) c.args.self.now s request serves step.Begin is c.in-Err.why
    (c.in-Err.ensures.refused s here.serves)
