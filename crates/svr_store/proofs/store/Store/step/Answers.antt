use Rattle.std.proofs.Common.{ap, ◌∙◌}
use Rattle.svr_core.specs.Outcomes.{merges}
use Rattle.svr_store.proofs.store.Store.step.Goals as goal

pub returns-in-Begin-clause-submits : goal.returns-in-Begin-clause-submits
returns-in-Begin-clause-submits g c = λ s request serves is. c.begin.ensures.submits s request serves (is ∙ ap merges c.in-Begin.is)

pub returns-in-Slice-clause-submits : goal.returns-in-Slice-clause-submits
returns-in-Slice-clause-submits g c = λ s request serves is. c.slice.ensures.submits s request serves (is ∙ ap merges c.in-Slice.is)

pub returns-in-Publish-clause-submits : goal.returns-in-Publish-clause-submits
returns-in-Publish-clause-submits g c = λ s request serves is. c.publish.ensures.submits s request serves (is ∙ ap merges c.in-Publish.is)
