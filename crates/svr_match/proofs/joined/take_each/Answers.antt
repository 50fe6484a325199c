use Rattle.std.proofs.Common.{◌<◌, ◌≡◌, ◌≤◌, List, Option, ℕ, length, get_or, subst, arith, ◌∙◌}
use Rattle.svr_iter.specs.Layout.{TakesAt}
use Rattle.svr_iter.specs.Merging.{Up-to}
use Rattle.svr_iter.proofs.Asking.{asks_err}
use Rattle.svr_match.specs.Joined.{any_of}
use Rattle.svr_match.specs.JoinedLaws.{any-up}
use Rattle.svr_match.proofs.Matching.{ids_in}
use Rattle.svr_match.proofs.Together.{any-more}
use Rattle.svr_match.proofs.Turning.{Run-asks, Run-fault, Run-memory-behind, Run-more, Run-up_to}
use Rattle.svr_match.proofs.joined.take_each.Goals as goal

pub take_at-requires-clause-up_to : goal.take_at-requires-clause-up_to
take_at-requires-clause-up_to g c =
    let lt : c.loop-list.list-index < length c.loop-list.list-items = omega (arith, c.loop-list-test.true, c.loop-list.auto.list-items) in
    Run-up_to c.loop-list.invariant.run c.list-item.result lt c.requires.up_to

pub returns-in_err-take_at-clause-asks : goal.returns-in_err-take_at-clause-asks
returns-in_err-take_at-clause-asks g c =
    let lt : c.loop-list.list-index < length c.loop-list.list-items = omega (arith, c.loop-list-test.true, c.loop-list.auto.list-items) in
    asks_err _ _ _ _ _ _ c.from_residual.result c.from_residual.ensures.1
    (Run-fault c.loop-list.invariant.run c.list-item.result _ lt c.in_err-take_at.ensures.asks)

pub add_ids-requires-clause-ids : goal.add_ids-requires-clause-ids
add_ids-requires-clause-ids g c =
    let run = c.loop-list.invariant.run in
    rw run.holds (Up-to (any_of (ids_in run.turns)) (any-up (ids_in run.turns)))

pub returns-in_err-add_ids-clause-asks : goal.returns-in_err-add_ids-clause-asks
returns-in_err-add_ids-clause-asks g c =
    let lt : c.loop-list.list-index < length c.loop-list.list-items = omega (arith, c.loop-list-test.true, c.loop-list.auto.list-items) in
    asks_err _ _ _ _ _ _ c.from_residual-in_err-add_ids.result c.from_residual-in_err-add_ids.ensures.1
    (Run-memory-behind c.loop-list.invariant.run c.list-item.result _ lt c.in_ok-take_at.ensures.asks)

pub loop-list-preserved : goal.loop-list-preserved
loop-list-preserved g c =
    let lt : c.loop-list.list-index < length c.loop-list.list-items = omega (arith, c.loop-list-test.true, c.loop-list.auto.list-items) in
    let takes = subst (λ (told : Option (List ℕ)). TakesAt g.P.Postings.groups g.P.Postings.next g.P.Postings.may g.P.Postings.pages told
    c.args.key
    (get_or c.loop-list.list-items c.loop-list.list-index c.list-item.result) c.take_at.new.list c.take_at.new.ids.items)
    c.loop-list.invariant.told c.in_ok-take_at.ensures.takes in
    record {
      run = Run-more c.loop-list.invariant.run c.list-item.result c.take_at.new.list c.take_at.new.ids.items
          (λ all. c.add_ids.new.ids.items ≡ any_of all) _ lt takes
          c.in_ok-take_at.ensures.asks
          (any-more c.loop-list.ids.items c.add_ids.new.ids.items c.take_at.new.ids.items c.in_ok-add_ids.ensures);
      told = c.in_ok-take_at.ensures.reader.same_told ∙ c.loop-list.invariant.told;
      ready = c.in_ok-take_at.ensures.reader.is_ready;
      later = omega (arith, c.in_ok-take_at.ensures.reader.later, c.loop-list.invariant.later);
    }

pub returns-clause-asks : goal.returns-clause-asks
returns-clause-asks g c =
    let le : length c.loop-list.list-items ≤ c.loop-list.list-index =
    omega (arith, c.loop-list-test.false, c.loop-list.auto.list-items) in
    Run-asks _ c.loop-list.invariant.run le
