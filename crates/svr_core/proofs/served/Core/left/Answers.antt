use Rattle.std.proofs.Common.{sym, ap, ◌∙◌}
use Rattle.svr_core.specs.Kept.{CoreValue}
use Rattle.svr_core.proofs.Begun.{left_by}
use Rattle.svr_core.proofs.served.Core.left.Goals as goal

pub returns-in-Some : goal.returns-in-Some
returns-in-Some c = λ s serves lawful.
    let kept = ap (λ (n : CoreValue). n.kept) (sym c.self.view_is) ∙ c.in-Some.is in
    c.unwrap_or.ensures ∙ left_by c.args.self.now c.in-Some.catalog c.left.result kept c.left.ensures.count s serves lawful
