use Rattle.std.proofs.Common.{inr}
use Rattle.svr_serve.proofs.Endings.{because_earlier}
use Rattle.svr_serve.proofs.Opened.{serving_by}
use Rattle.svr_serve.proofs.serve.serve.Goals as goal

pub returns-in-Ok-clause-ends : goal.returns-in-Ok-clause-ends
returns-in-Ok-clause-ends g c =
    let o = c.in-Ok.ensures.opens.2 in
    let all = c.serve_turns.ensures o.state o.serves in
    inr (serving_by _ c.args.cache c.in-Ok.ensures.opens.1 c.serve_turns.result _ _ _ _ _ _ o c.open.ensures.images all.0)

pub returns-in-Ok-clause-because : goal.returns-in-Ok-clause-because
returns-in-Ok-clause-because g c =
    let o = c.in-Ok.ensures.opens.2 in
    let all = c.serve_turns.ensures o.state o.serves in
    because_earlier c.serve_turns.result _ _ _ _ _ c.open.ensures.later all.1
