use Rattle.std.proofs.Common.{◌∙◌, ap}
use Rattle.svr_groups.specs.Groups.{values_at}
use Rattle.svr_groups.proofs.Sets.{values_at-none}
use Rattle.svr_groups.proofs.groups.Groups.new.Goals as goal

pub returns-clause-none : goal.returns-clause-none
returns-clause-none c = λ place id.
    ap (λ groups. values_at groups place id) c.loop.invariant ∙ values_at-none c.loop.counter place id
