use Rattle.std.proofs.Common.{◌<◌, ◌≡◌, ◌≤◌, List, Option, ℕ, filter, length, get_or, ap, subst, arith, ◌∙◌, refl}
use Rattle.std.proofs.lemmas.List.Kept.{IsStrictlyIncreasing-filter}
use Rattle.svr_listing.specs.Joined.{is_in}
use Rattle.svr_iter.specs.Layout.{TakesAt}
use Rattle.svr_iter.specs.Merging.{Up-from}
use Rattle.svr_iter.proofs.Asking.{asks_err}
use Rattle.svr_match.specs.Joined.{any_of}
use Rattle.svr_match.proofs.Together.{some-more, some-none}
use Rattle.svr_match.proofs.Turning.{Run-asks, Run-fault, Run-memory, Run-memory-behind, Run-more, Run-start, Run-up_to}
use Rattle.svr_match.proofs.joined.keep_some.Goals as goal

pub loop-list-init : goal.loop-list-init
loop-list-init g c = record {
  run = rw c.deref_mut-list-items.ensures.value
      (Run-start _ _ _ _ _ _ _ _ _ _ (some-none c.clear.new.self.items c.args.ids.now c.clear.ensures.items));
  told = refl;
  ready = c.requires.ready;
  later = omega arith;
}

pub returns-in_err-copy_ids-clause-asks : goal.returns-in_err-copy_ids-clause-asks
returns-in_err-copy_ids-clause-asks g c =
    let lt : c.loop-list.list-index < length c.loop-list.list-items = omega (arith, c.loop-list-test.true, c.loop-list.auto.list-items) in
    asks_err _ _ _ _ _ _ c.from_residual.result c.from_residual.ensures.1
    (Run-memory c.loop-list.invariant.run c.list-item.result lt)

pub keep_at-requires-clause-up_to : goal.keep_at-requires-clause-up_to
keep_at-requires-clause-up_to g c =
    let lt : c.loop-list.list-index < length c.loop-list.list-items = omega (arith, c.loop-list-test.true, c.loop-list.auto.list-items) in
    Run-up_to c.loop-list.invariant.run c.list-item.result lt c.requires.up_to

pub returns-in_err-keep_at-clause-asks : goal.returns-in_err-keep_at-clause-asks
returns-in_err-keep_at-clause-asks g c =
    let lt : c.loop-list.list-index < length c.loop-list.list-items = omega (arith, c.loop-list-test.true, c.loop-list.auto.list-items) in
    asks_err _ _ _ _ _ _ c.from_residual-in_err-keep_at.result c.from_residual-in_err-keep_at.ensures.1
    (Run-fault c.loop-list.invariant.run c.list-item.result _ lt c.in_err-keep_at.ensures.asks)

pub add_ids-requires-clause-ids : goal.add_ids-requires-clause-ids
add_ids-requires-clause-ids g c = rw c.loop-list.invariant.run.holds (IsStrictlyIncreasing-filter _ c.args.ids.now c.requires.ascending)

pub add_ids-requires-clause-others : goal.add_ids-requires-clause-others
add_ids-requires-clause-others g c =
    let keeps = c.in_ok-keep_at.ensures.keeps in
    rw (keeps.kept, c.in_ok-copy_ids.ensures) (IsStrictlyIncreasing-filter (λ id. is_in id keeps.ids) c.args.ids.now c.requires.ascending)

pub returns-in_err-add_ids-clause-asks : goal.returns-in_err-add_ids-clause-asks
returns-in_err-add_ids-clause-asks g c =
    let lt : c.loop-list.list-index < length c.loop-list.list-items = omega (arith, c.loop-list-test.true, c.loop-list.auto.list-items) in
    asks_err _ _ _ _ _ _ c.from_residual-in_err-add_ids.result c.from_residual-in_err-add_ids.ensures.1
    (Run-memory-behind c.loop-list.invariant.run c.list-item.result _ lt c.in_ok-keep_at.ensures.asks)

pub loop-list-preserved : goal.loop-list-preserved
loop-list-preserved g c =
    let lt : c.loop-list.list-index < length c.loop-list.list-items = omega (arith, c.loop-list-test.true, c.loop-list.auto.list-items) in
    let keeps = c.in_ok-keep_at.ensures.keeps in
    let takes = subst (λ (told : Option (List ℕ)). TakesAt g.P.Postings.groups g.P.Postings.next g.P.Postings.may g.P.Postings.pages told
    c.args.key
    (get_or c.loop-list.list-items c.loop-list.list-index c.list-item.result) c.keep_at.new.list keeps.ids) c.loop-list.invariant.told
    keeps.takes in
    let mine : c.keep_at.new.ids.items ≡ filter (λ id. is_in id keeps.ids) c.args.ids.now =
    keeps.kept ∙ ap (filter (λ id. is_in id keeps.ids)) c.in_ok-copy_ids.ensures in
    record {
      run = Run-more c.loop-list.invariant.run c.list-item.result c.keep_at.new.list keeps.ids
          (λ all. c.add_ids.new.ids.items ≡ filter (λ id. is_in id (any_of all)) c.args.ids.now) _ lt takes
          c.in_ok-keep_at.ensures.asks
          (some-more c.args.ids.now c.loop-list.kept.items c.add_ids.new.ids.items c.keep_at.new.ids.items keeps.ids
          (Up-from c.args.ids.now c.requires.ascending) mine c.in_ok-add_ids.ensures);
      told = c.in_ok-keep_at.ensures.reader.same_told ∙ c.loop-list.invariant.told;
      ready = c.in_ok-keep_at.ensures.reader.is_ready;
      later = omega (arith, c.in_ok-keep_at.ensures.reader.later, c.loop-list.invariant.later);
    }

pub returns-clause-asks : goal.returns-clause-asks
returns-clause-asks g c =
    let le : length c.loop-list.list-items ≤ c.loop-list.list-index =
    omega (arith, c.loop-list-test.false, c.loop-list.auto.list-items) in
    Run-asks _ c.loop-list.invariant.run le
