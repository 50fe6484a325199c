use Rattle.std.proofs.Common.{rules, ◌≡◌, ◌++◌, ℕ, List, Option, Some, drop, refl, sym, subst, arith, ◌∙◌}
use Rattle.svr_iter.proofs.Asking.{asks_err}
use Rattle.svr_postpage.specs.declared.page_ref.PageRef.{PageRef}
use Rattle.svr_postpage.specs.declared.pair.Pair.{Pair}
use Rattle.svr_long.specs.Cursor.{first_key_of}
use Rattle.svr_long.specs.Heads.{heads}
use Rattle.svr_long.specs.Layout.{Steps}
use Rattle.svr_long.proofs.Ending.{Run-asks, Run-fault, Run-first, Run-group, Run-less, Run-pages, Steps-less, other_key}
use Rattle.svr_long.proofs.Running.{Run, Run-start, Run-step}
use Rattle.svr_long.proofs.cursor.LongCursorLongSource.take_group.Goals as goal

pub loop-self-init : goal.loop-self-init
loop-self-init g c =
    let pairs : List Pair = c.args.self.now.buffer in
    let pages : List PageRef = drop c.args.self.now.at c.args.self.now.pages.now in
    let first : first_key_of (pairs ++ heads pages) ≡ Some c.in-Some.key = search rules in
    record {
      run = subst (λ (ids : List ℕ). Run g.R.PageReader.gives (g.R.PageReader.told c.args.reader.now) c.in-Some.key pairs pages c.args.reader.now
          pairs pages ids c.args.reader.now) (sym {A = List ℕ} c.clear.ensures.items)
          (Run-start g.R.PageReader.gives (g.R.PageReader.told c.args.reader.now) c.in-Some.key pairs pages c.args.reader.now
          c.args.self.now.in_order first);
      told = refl;
      ready = c.requires.ready;
      later = omega arith;
    }

pub loop-self-smaller : goal.loop-self-smaller
loop-self-smaller g c =
    Steps-less g.R.PageReader.gives (g.R.PageReader.told c.loop-self.reader) c.loop-self.self.buffer c.step.new.self.buffer
    (drop c.loop-self.self.at c.loop-self.self.pages.now) (drop c.step.new.self.at c.step.new.self.pages.now) c.loop-self.ids.items
    c.step.new.ids.items c.loop-self.reader c.step.new.reader c.in_ok-step.ensures.steps

pub loop-self-preserved : goal.loop-self-preserved
loop-self-preserved g c =
    let pairs : List Pair = c.loop-self.self.buffer in
    let pages : List PageRef = drop c.loop-self.self.at c.loop-self.self.pages.now in
    let here : first_key_of (pairs ++ heads pages) ≡ Some c.in-Some.key = search rules in
    let steps : Steps g.R.PageReader.gives (g.R.PageReader.told c.args.reader.now) pairs pages c.step.new.self.buffer
    (drop c.step.new.self.at c.step.new.self.pages.now) c.loop-self.ids.items c.step.new.ids.items c.loop-self.reader c.step.new.reader =
    subst (λ (told : Option (List ℕ)). Steps g.R.PageReader.gives told pairs pages c.step.new.self.buffer
    (drop c.step.new.self.at c.step.new.self.pages.now) c.loop-self.ids.items c.step.new.ids.items c.loop-self.reader c.step.new.reader)
    c.loop-self.invariant.told c.in_ok-step.ensures.steps in
    record {
      run = Run-step g.R.PageReader.gives (g.R.PageReader.told c.args.reader.now) c.in-Some.key c.args.self.now.buffer
          (drop c.args.self.now.at c.args.self.now.pages.now) c.args.reader.now pairs c.step.new.self.buffer pages
          (drop c.step.new.self.at c.step.new.self.pages.now) c.loop-self.ids.items c.step.new.ids.items c.loop-self.reader c.step.new.reader
          here steps c.loop-self.invariant.run;
      told = c.in_ok-step.ensures.reader.same_told ∙ c.loop-self.invariant.told;
      ready = c.in_ok-step.ensures.reader.is_ready;
      later = omega (arith, c.in_ok-step.ensures.reader.later, c.loop-self.invariant.later);
    }

pub returns-in_err-step-clause-asks : goal.returns-in_err-step-clause-asks
returns-in_err-step-clause-asks g c =
    let pairs : List Pair = c.args.self.now.buffer in
    let pages : List PageRef = drop c.args.self.now.at c.args.self.now.pages.now in
    let first : first_key_of (pairs ++ heads pages) ≡ Some c.in-Some.key = search rules in
    let here : first_key_of (c.loop-self.self.buffer ++ heads (drop c.loop-self.self.at c.loop-self.self.pages.now)) ≡ Some c.in-Some.key = search rules in
    asks_err g.R.PageReader.gives g.R.PageReader.fails _ c.args.reader.now c.step.new.reader _ c.from_residual.result c.from_residual.ensures.1
    (Run-fault g.R.PageReader.gives (g.R.PageReader.told c.args.reader.now) c.in-Some.key pairs pages c.args.reader.now
    c.loop-self.self.buffer (drop c.loop-self.self.at c.loop-self.self.pages.now) c.loop-self.ids.items c.loop-self.reader
    c.args.self.now.in_order first c.loop-self.invariant.run g.R.PageReader.fails _ c.step.new.reader here c.in_err-step.ensures.fails)

pub returns-clause-takes : goal.returns-clause-takes
returns-clause-takes g c =
    let pairs : List Pair = c.args.self.now.buffer in
    let pages : List PageRef = drop c.args.self.now.at c.args.self.now.pages.now in
    let left : List Pair = c.loop-self.self.buffer in
    let rest : List PageRef = drop c.loop-self.self.at c.loop-self.self.pages.now in
    let first : first_key_of (pairs ++ heads pages) ≡ Some c.in-Some.key = search rules in
    let over : first_key_of (left ++ heads rest) ≡ Some c.in-Some.key → ⊥ =
    λ e. other_key c.next_key-in-loop-self.result c.in-Some.key c.loop-self-test.ensures (c.next_key-in-loop-self.ensures.key ∙ e) in
    record {
      first = Run-first g.R.PageReader.gives (g.R.PageReader.told c.args.reader.now) c.in-Some.key pairs pages c.args.reader.now left rest
          c.loop-self.ids.items c.loop-self.reader c.args.self.now.in_order first c.loop-self.invariant.run over;
      lawful = Run-group g.R.PageReader.gives (g.R.PageReader.told c.args.reader.now) c.in-Some.key pairs pages c.args.reader.now left rest
          c.loop-self.ids.items c.loop-self.reader c.args.self.now.in_order first c.loop-self.invariant.run;
      next_less = Run-less g.R.PageReader.gives (g.R.PageReader.told c.args.reader.now) c.in-Some.key pairs pages c.args.reader.now left rest
          c.loop-self.ids.items c.loop-self.reader c.args.self.now.in_order first c.loop-self.invariant.run over;
      same_may = refl;
      same_pages = Run-pages g.R.PageReader.gives (g.R.PageReader.told c.args.reader.now) c.in-Some.key pairs pages c.args.reader.now left rest
          c.loop-self.ids.items c.loop-self.reader c.args.self.now.in_order first c.loop-self.invariant.run;
    }

pub returns-clause-asks : goal.returns-clause-asks
returns-clause-asks g c =
    let pairs : List Pair = c.args.self.now.buffer in
    let pages : List PageRef = drop c.args.self.now.at c.args.self.now.pages.now in
    let left : List Pair = c.loop-self.self.buffer in
    let rest : List PageRef = drop c.loop-self.self.at c.loop-self.self.pages.now in
    let first : first_key_of (pairs ++ heads pages) ≡ Some c.in-Some.key = search rules in
    let over : first_key_of (left ++ heads rest) ≡ Some c.in-Some.key → ⊥ =
    λ e. other_key c.next_key-in-loop-self.result c.in-Some.key c.loop-self-test.ensures (c.next_key-in-loop-self.ensures.key ∙ e) in
    Run-asks g.R.PageReader.gives (g.R.PageReader.told c.args.reader.now) c.in-Some.key pairs pages c.args.reader.now left rest
    c.loop-self.ids.items c.loop-self.reader c.args.self.now.in_order first c.loop-self.invariant.run over g.R.PageReader.fails tt
