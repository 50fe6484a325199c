use Rattle.std.proofs.Common.{inl, inr, ap, ◌∙◌, Err, refl}
use Rattle.std.proofs.lemmas.Result.{err_from_is_err_and}
use Rattle.svr_serve.proofs.Taken.{stops_on, takes_request}
use Rattle.svr_serve.proofs.turn.take_request.Goals as goal

pub returns-in_err-take_block-clause-stop : goal.returns-in_err-take_block-clause-stop
returns-in_err-take_block-clause-stop g c =
    let p = err_from_is_err_and c.from_residual-in_err-take_block.result c.from_residual-in_err-take_block.ensures.1 in
    let next = rw c.in-Some.is at c.in_ok-asked.ensures.asked in
    let stop = rw c.unwrap_or.ensures at c.in_err-take_block.ensures.stop in
    let taken = c.take_block.ensures in
    rw (p.1, p.2) (stops_on _ _ _ c.args.lines.now c.take_line.new.lines c.take_block.new.lines _ _ next c.in_err-take_block.field-0.0 stop
    taken.ended (λ is. taken.before_limit (inr (c.in_err-take_block.was ∙ ap Err is))))

pub returns-clause-request : goal.returns-clause-request
returns-clause-request g c =
    let next = rw c.in-Some.is at c.in_ok-asked.ensures.asked in
    let taken = c.in_ok-take_block.ensures in
    let block = rw c.unwrap_or.ensures at taken.block in
    takes_request _ _ _ c.args.lines.now c.take_line.new.lines c.take_block.new.lines _ _ next block taken.known_end taken.ended
    (taken.before_limit (inl refl))
