use Rattle.std.proofs.lemmas.Result.{err_from_is_err_and}
use Rattle.svr_record.specs.Reading.{term_at, many_at}
use Rattle.svr_record.proofs.Many.{ends, goes_on, is_done}
use Rattle.svr_record.proofs.slice.terms.Goals as goal

pub returns-in_err-term : goal.returns-in_err-term
returns-in_err-term c =
    let p = err_from_is_err_and c.from_residual.result c.from_residual.ensures.1 in
    rw (p.1, p.2) (ends c.in_err-term.field-0.0 term_at c.loop.terms.items c.args.count c.loop.counter c.loop.rest.now
    (many_at term_at c.args.count c.args.bytes.now) c.loop-test.true c.in_err-term.ensures c.loop.invariant)

pub loop-preserved : goal.loop-preserved
loop-preserved c =
    rw c.in_ok-push.ensures.items (goes_on term_at c.loop.terms.items c.args.count c.loop.counter c.loop.rest.now c.in_ok-term.term
    c.in_ok-term.after.now (many_at term_at c.args.count c.args.bytes.now) c.loop-test.true c.in_ok-term.ensures c.loop.invariant)

pub returns : goal.returns
returns c =
    is_done term_at c.loop.terms.items c.args.count c.loop.counter c.loop.rest.now (many_at term_at c.args.count c.args.bytes.now)
    c.loop-test.false c.loop.invariant
