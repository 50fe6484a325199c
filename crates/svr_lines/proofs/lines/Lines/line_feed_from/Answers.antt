use Rattle.std.proofs.Common.{ℕ, List, length, ap, subst}
use Rattle.svr_lines.specs.Layout.Feeds.{NoFeed, FirstFeed}
use Rattle.svr_lines.proofs.Feeds.{part_ahead, FirstFeed-drop, NoFeed-drop}
use Rattle.svr_lines.proofs.lines.Lines.line_feed_from.Goals as goal

pub returns-in-Some-clause-found : goal.returns-in-Some-clause-found
returns-in-Some-clause-found c =
    let a = c.self.inside in
    FirstFeed-drop c.args.self.now.ahead c.args.from c.in-Some.at c.requires
    (subst (λ (xs : List ℕ). FirstFeed xs 0 c.in-Some.at)
    (part_ahead a.buffer.items c.deref.result.now c.args.self.now.ahead a.start a.end c.args.from c.deref.ensures.value
    (ap (λ r. r.ahead) c.self.view_is) c.self.invariant.order c.requires)
    c.in-Some.ensures.found)

pub returns-in-None-clause-none : goal.returns-in-None-clause-none
returns-in-None-clause-none c =
    let a = c.self.inside in
    NoFeed-drop c.args.self.now.ahead c.args.from c.requires
    (subst (λ (xs : List ℕ). NoFeed xs 0 (length xs))
    (part_ahead a.buffer.items c.deref.result.now c.args.self.now.ahead a.start a.end c.args.from c.deref.ensures.value
    (ap (λ r. r.ahead) c.self.view_is) c.self.invariant.order c.requires)
    c.in-None.ensures.none)
