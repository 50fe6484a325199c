use Rattle.std.proofs.Common.{◌≡◌, ◌≤◌, ◌-◌, ◌^◌, ℕ, List, option_map, Bor, subst, rules}
use Rattle.svr_lists.specs.Layout.{CountsOn}
use Rattle.svr_lists.proofs.Begun.{counts-all, counts-end, counts-more}
use Rattle.svr_lists.proofs.merge.terms_behind.Goals as goal

pub returns-in_default : goal.returns-in_default
returns-in_default c =
    let low : c.loop-count.count ≤ 2 ^ 64 - 1 = search rules in
    counts-all c.args.index.now (option_map (λ (t : Bor (List ℕ)). t.now) c.args.first)
    (option_map (λ (t : Bor (List ℕ)). t.now) c.loop-count.after) c.loop-count.count low c.loop-count.invariant c.in_default.ensures

pub loop-count-preserved : goal.loop-count-preserved
loop-count-preserved c =
    counts-more c.args.index.now (option_map (λ (t : Bor (List ℕ)). t.now) c.args.first)
    (option_map (λ (t : Bor (List ℕ)). t.now) c.loop-count.after) c.in-Some.term.now c.loop-count.count c.loop-count.invariant c.in-Some.ensures

pub returns : goal.returns
returns c =
    let all : c.loop-count.count ≡ 2 ^ 64 - 1 = search rules in
    counts-end c.args.index.now (option_map (λ (t : Bor (List ℕ)). t.now) c.args.first)
    (option_map (λ (t : Bor (List ℕ)). t.now) c.loop-count.after)
    (subst (CountsOn c.args.index.now (option_map (λ (t : Bor (List ℕ)). t.now) c.args.first)
    (option_map (λ (t : Bor (List ℕ)). t.now) c.loop-count.after)) all c.loop-count.invariant)
