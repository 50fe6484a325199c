use Rattle.std.proofs.Common.{sym, subst}
use Rattle.svr_record.specs.declared.record.Record.{Record}
use Rattle.svr_core.specs.Steps.{RefusesRecord}
use Rattle.svr_core.proofs.served.Core.take_step.Goals as goal

pub returns-in-Publish-clause-refused : goal.returns-in-Publish-clause-refused
returns-in-Publish-clause-refused c = λ before s next serves e.
    subst (λ (kept : Record). RefusesRecord before s kept) (sym c.in-Publish.is) (c.take_publish.ensures.refused before s serves e)
