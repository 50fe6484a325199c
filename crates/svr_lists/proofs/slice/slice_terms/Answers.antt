use Rattle.std.proofs.Common.{refl, ◌≡◌, ◌+◌, ◌-◌, ◌<◌, ◌≤◌, ℕ, suc, List, option_map, Bor, length, ◌∙◌, arith, rules}
use Rattle.svr_iter.proofs.Asking.{given_all}
use Rattle.svr_lists.proofs.Asked.{asks-made, asks-stopped, first-stopped, given-more, given-none}
use Rattle.svr_lists.proofs.Making.{made-all, made-more, made-none}
use Rattle.svr_lists.proofs.Sliced.{slices-full, slices-left, slices-more, slices-none, slices-taken}
use Rattle.svr_lists.proofs.slice.slice_terms.Goals as goal

pub returns-then-len-ge-FULL_BYTES-clause-slice : goal.returns-then-len-ge-FULL_BYTES-clause-slice
returns-then-len-ge-FULL_BYTES-clause-slice g c bytes told =
    let many : 4194304 ≤ length c.loop-taken.pages.items = search rules in
    slices-full c.args.index.now c.args.run.now c.args.most (c.args.most - c.loop-taken.taken) bytes
    (option_map (λ (t : Bor (List ℕ)). t.now) c.loop-taken.after) c.loop-taken.terms.items c.loop-taken.pages.items c.slice_made.result
    (c.loop-taken.invariant.slices bytes told) many c.slice_made.ensures.terms c.slice_made.ensures.pages

pub returns-in_default-clause-slice : goal.returns-in_default-clause-slice
returns-in_default-clause-slice g c bytes told =
    slices-left c.args.index.now c.args.run.now c.args.most (c.args.most - c.loop-taken.taken) bytes
    (option_map (λ (t : Bor (List ℕ)). t.now) c.loop-taken.after) c.loop-taken.terms.items c.loop-taken.pages.items
    c.slice_made-in_default.result (c.loop-taken.invariant.slices bytes told) c.in_default.ensures c.slice_made-in_default.ensures.terms
    c.slice_made-in_default.ensures.pages

pub loop-taken-preserved : goal.loop-taken-preserved
loop-taken-preserved g c =
    let lt : c.loop-taken.taken < c.args.most = search rules in
    let one : c.args.most - c.loop-taken.taken ≡ suc (c.args.most - (c.loop-taken.taken + 1)) = omega (arith, lt) in
    let few : length c.loop-taken.pages.items < 4194304 = search rules in
    record {
      slices = λ bytes told.
          slices-more c.args.index.now c.args.run.now c.args.most (c.args.most - c.loop-taken.taken)
          (c.args.most - (c.loop-taken.taken + 1)) bytes (option_map (λ (t : Bor (List ℕ)). t.now) c.loop-taken.after) c.in-Some.term.now
          c.loop-taken.terms.items c.push_term.new.terms.items c.loop-taken.pages.items c.push_term.new.pages.items one
          (c.loop-taken.invariant.slices bytes told) c.in-Some.ensures few
          (c.in_ok-push_term.ensures.puts bytes (c.loop-taken.invariant.told ∙ told));
      made = made-more c.args.run.now.last (option_map (λ (t : Bor (List ℕ)). t.now) c.loop-taken.after) c.loop-taken.taken
          c.in-Some.term.now c.loop-taken.terms.items c.push_term.new.terms.items c.loop-taken.pages.items c.push_term.new.pages.items
          c.loop-taken.invariant.made c.in_ok-push_term.ensures.adds;
      given = given-more g.R.PageReader.gives c.args.index.now c.in-Some.term.now c.in_ok-push_term.ensures.adds.pairs
          c.loop-taken.terms.items c.push_term.new.terms.items c.args.reader.now c.loop-taken.reader c.push_term.new.reader
          c.in_ok-push_term.ensures.adds.puts.terms_are c.loop-taken.invariant.given
          (given_all g.R.PageReader.gives g.R.PageReader.fails _ _ _ _ c.in_ok-push_term.ensures.asks);
      told = c.in_ok-push_term.ensures.reader.same_told ∙ c.loop-taken.invariant.told;
      ready = c.in_ok-push_term.ensures.reader.is_ready;
      later = omega (arith, c.in_ok-push_term.ensures.reader.later, c.loop-taken.invariant.later);
    }

pub returns-clause-slice : goal.returns-clause-slice
returns-clause-slice g c bytes told =
    let none : c.args.most - c.loop-taken.taken ≡ 0 = search rules in
    slices-taken c.args.index.now c.args.run.now c.args.most (c.args.most - c.loop-taken.taken) bytes
    (option_map (λ (t : Bor (List ℕ)). t.now) c.loop-taken.after) c.loop-taken.terms.items c.loop-taken.pages.items c.slice_made-2.result
    (c.loop-taken.invariant.slices bytes told) none c.slice_made-2.ensures.terms c.slice_made-2.ensures.pages

pub returns-then-len-ge-FULL_BYTES-clause-made : goal.returns-then-len-ge-FULL_BYTES-clause-made
returns-then-len-ge-FULL_BYTES-clause-made g c =
    let le : c.loop-taken.taken ≤ c.args.most = search rules in
    made-all c.args.run.now.last (option_map (λ (t : Bor (List ℕ)). t.now) c.loop-taken.after) c.loop-taken.taken c.args.most
    c.loop-taken.terms.items c.loop-taken.pages.items c.slice_made.result c.loop-taken.invariant.made le c.slice_made.ensures.terms
    c.slice_made.ensures.pages

pub returns-then-len-ge-FULL_BYTES-clause-asks : goal.returns-then-len-ge-FULL_BYTES-clause-asks
returns-then-len-ge-FULL_BYTES-clause-asks g c =
    asks-made g.R.PageReader.gives g.R.PageReader.fails (g.R.PageReader.told c.args.reader.now) c.args.index.now c.args.run.now c.args.most
    c.loop-taken.terms.items c.args.reader.now c.loop-taken.reader c.slice_made.result c.loop-taken.invariant.given c.slice_made.ensures.terms
    (λ bytes told. returns-then-len-ge-FULL_BYTES-clause-slice g c bytes told)

pub returns-in_default-clause-made : goal.returns-in_default-clause-made
returns-in_default-clause-made g c =
    let le : c.loop-taken.taken ≤ c.args.most = search rules in
    made-all c.args.run.now.last (option_map (λ (t : Bor (List ℕ)). t.now) c.loop-taken.after) c.loop-taken.taken c.args.most
    c.loop-taken.terms.items c.loop-taken.pages.items c.slice_made-in_default.result c.loop-taken.invariant.made le c.slice_made-in_default.ensures.terms
    c.slice_made-in_default.ensures.pages

pub returns-in_default-clause-asks : goal.returns-in_default-clause-asks
returns-in_default-clause-asks g c =
    asks-made g.R.PageReader.gives g.R.PageReader.fails (g.R.PageReader.told c.args.reader.now) c.args.index.now c.args.run.now c.args.most
    c.loop-taken.terms.items c.args.reader.now c.loop-taken.reader c.slice_made-in_default.result c.loop-taken.invariant.given c.slice_made-in_default.ensures.terms
    (λ bytes told. returns-in_default-clause-slice g c bytes told)

pub returns-clause-made : goal.returns-clause-made
returns-clause-made g c =
    let le : c.loop-taken.taken ≤ c.args.most = search rules in
    made-all c.args.run.now.last (option_map (λ (t : Bor (List ℕ)). t.now) c.loop-taken.after) c.loop-taken.taken c.args.most
    c.loop-taken.terms.items c.loop-taken.pages.items c.slice_made-2.result c.loop-taken.invariant.made le c.slice_made-2.ensures.terms
    c.slice_made-2.ensures.pages

pub returns-clause-asks : goal.returns-clause-asks
returns-clause-asks g c =
    asks-made g.R.PageReader.gives g.R.PageReader.fails (g.R.PageReader.told c.args.reader.now) c.args.index.now c.args.run.now c.args.most
    c.loop-taken.terms.items c.args.reader.now c.loop-taken.reader c.slice_made-2.result c.loop-taken.invariant.given c.slice_made-2.ensures.terms
    (λ bytes told. returns-clause-slice g c bytes told)

pub returns-in_err-push_term-clause-asks : goal.returns-in_err-push_term-clause-asks
returns-in_err-push_term-clause-asks g c =
    let lt : c.loop-taken.taken < c.args.most = search rules in
    let one : c.args.most - c.loop-taken.taken ≡ suc (c.args.most - (c.loop-taken.taken + 1)) = omega (arith, lt) in
    let few : length c.loop-taken.pages.items < 4194304 = search rules in
    asks-stopped g.R.PageReader.gives g.R.PageReader.fails (g.R.PageReader.told c.args.reader.now) c.args.index.now c.args.run.now c.args.most
    c.in-Some.term.now c.loop-taken.terms.items c.args.reader.now c.loop-taken.reader c.push_term.new.reader c.in_err-push_term.field-0.0
    c.from_residual.result c.loop-taken.invariant.given c.in_err-push_term.ensures.asks (search rules)
    (λ bytes told. first-stopped c.args.index.now c.args.run.now c.args.most (c.args.most - c.loop-taken.taken)
    (c.args.most - (c.loop-taken.taken + 1)) bytes (option_map (λ (t : Bor (List ℕ)). t.now) c.loop-taken.after) c.in-Some.term.now
    c.loop-taken.terms.items c.loop-taken.pages.items one (c.loop-taken.invariant.slices bytes told) c.in-Some.ensures few)

pub loop-taken-init : goal.loop-taken-init
loop-taken-init g c = record {
  slices = λ bytes told.
      slices-none c.args.index.now c.args.run.now c.args.most (c.args.most - 0) bytes
      (option_map (λ (t : Bor (List ℕ)). t.now) c.last-after.result) c.new-terms.result.items c.new-pages.result.items
      c.last-after.ensures.value (omega arith) c.new-terms.ensures.items c.new-pages.ensures.items;
  made = made-none c.args.run.now.last (option_map (λ (t : Bor (List ℕ)). t.now) c.last-after.result) c.new-terms.result.items
      c.new-pages.result.items c.last-after.ensures.value c.new-terms.ensures.items c.new-pages.ensures.items;
  given = given-none g.R.PageReader.gives c.args.index.now c.new-terms.result.items c.args.reader.now c.new-terms.ensures.items;
  told = refl;
  ready = c.requires.ready;
  later = omega arith;
}
