use Rattle.std.proofs.Common.{◌≡◌, ◌+◌, ◌*◌, ◌<◌, ◌≤◌, length, None, arith, rules, refl, sym}
use Rattle.std.proofs.lemmas.Result.{err_from_is_err_and}
use Rattle.svr_lists.specs.Taken.{pages_in}
use Rattle.svr_lists.proofs.Taking.{taking-all, taking-bad, taking-more, taking-next, taking-none}
use Rattle.svr_lists.proofs.taken.take_all.Goals as goal

pub loop-term-init : goal.loop-term-init
loop-term-init c = taking-none c.args.run.now c.args.terms.now c.args.pages.now c.args.at c.requires.ascend c.requires.whole

pub take_term-requires-clause-after : goal.take_term-requires-clause-after
take_term-requires-clause-after c =
    let lt : c.loop-term.term-index < length c.args.terms.now = search rules in
    (taking-next c.args.run.now c.loop-term.run c.args.terms.now c.loop-term.term-index c.term-item.result c.args.pages.now
    c.loop-term.rest.now c.args.at c.loop-term.here c.loop-term.invariant lt c.term-item.is).after

pub returns-in_err-take_term-clause-bad : goal.returns-in_err-take_term-clause-bad
returns-in_err-take_term-clause-bad c bad =
    let lt : c.loop-term.term-index < length c.args.terms.now = search rules in
    let p = err_from_is_err_and c.from_residual.result c.from_residual.ensures.1 in
    let none : pages_in c.loop-term.here c.term-item.result.pages c.split_at.result.0.now ≡ None = search rules in
    let long : length c.split_at.result.0.now ≡ 4096 * c.term-item.result.pages = omega (arith, c.split_at.ensures.front_len) in
    taking-bad c.args.run.now c.loop-term.run c.args.terms.now c.loop-term.term-index c.term-item.result c.args.pages.now
    c.loop-term.rest.now c.split_at.result.0.now c.split_at.result.1.now c.args.at c.loop-term.here c.loop-term.invariant lt c.term-item.is
    (sym c.split_at.ensures.by_index.0) long none

pub loop-term-preserved : goal.loop-term-preserved
loop-term-preserved c =
    let lt : c.loop-term.term-index < length c.args.terms.now = search rules in
    let long : length c.split_at.result.0.now ≡ 4096 * c.term-item.result.pages = omega (arith, c.split_at.ensures.front_len) in
    taking-more c.args.run.now c.loop-term.run c.take_term.new.run c.args.terms.now c.loop-term.term-index c.term-item.result
    c.args.pages.now c.loop-term.rest.now c.split_at.result.0.now c.split_at.result.1.now c.args.at c.loop-term.here
    (c.loop-term.here + length c.split_at.result.0.now) c.loop-term.invariant lt c.term-item.is (sym c.split_at.ensures.by_index.0) long refl
    c.in_ok-take_term.ensures.takes

pub returns-clause-takes : goal.returns-clause-takes
returns-clause-takes c =
    let le : length c.args.terms.now ≤ c.loop-term.term-index = search rules in
    taking-all c.args.run.now c.loop-term.run c.args.terms.now c.loop-term.term-index c.args.pages.now c.loop-term.rest.now c.args.at
    c.loop-term.here c.loop-term.invariant le
