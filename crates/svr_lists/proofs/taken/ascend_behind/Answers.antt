use Rattle.std.proofs.Common.{◌<◌, ◌≤◌, ℕ, List, length, drop, option_map, Bor, sym, ◌∙◌, rules}
use Rattle.std.proofs.lemmas.List.{drop_all}
use Rattle.svr_lists.proofs.Taking.{ascend-end, ascend-goes, ascend-stops}
use Rattle.svr_lists.proofs.taken.ascend_behind.Goals as goal

pub returns-then-not-is_after : goal.returns-then-not-is_after
returns-then-not-is_after c =
    let lt : c.loop-term.term-index < length c.args.terms.now = search rules in
    ascend-stops (option_map (λ (t : Bor (List ℕ)). t.now) c.args.last) (option_map (λ (t : Bor (List ℕ)). t.now) c.loop-term.behind)
    c.args.terms.now c.loop-term.term-index c.term-item.result lt c.term-item.is (sym c.is_after.ensures ∙ c.if-not-is_after.true)
    c.loop-term.invariant

pub loop-term-preserved : goal.loop-term-preserved
loop-term-preserved c =
    let lt : c.loop-term.term-index < length c.args.terms.now = search rules in
    ascend-goes (option_map (λ (t : Bor (List ℕ)). t.now) c.args.last) (option_map (λ (t : Bor (List ℕ)). t.now) c.loop-term.behind)
    c.args.terms.now c.loop-term.term-index c.term-item.result lt c.term-item.is (sym c.is_after.ensures ∙ c.if-not-is_after.false)
    c.loop-term.invariant

pub returns : goal.returns
returns c =
    let le : length c.args.terms.now ≤ c.loop-term.term-index = search rules in
    sym (ascend-end (option_map (λ (t : Bor (List ℕ)). t.now) c.loop-term.behind) (drop c.loop-term.term-index c.args.terms.now)
    (drop_all c.loop-term.term-index c.args.terms.now le)) ∙ c.loop-term.invariant
