use Rattle.std.proofs.Common.{sym, ap, ◌∙◌}
use Rattle.svr_core.specs.Kept.{CoreValue}
use Rattle.svr_core.proofs.Answered.{answered, asked}
use Rattle.svr_core.proofs.served.Core.search.Goals as goal

pub returns-clause-answer : goal.returns-clause-answer
returns-clause-answer g c =
    let kept = ap (λ (n : CoreValue). n.kept) (sym c.self.view_is) ∙ c.in-Some.is in
    let q = c.args.query.now in
    answered c.args.self.now c.in-Some.catalog kept (g.R.PageReader.told c.args.reader.now) c.search.result q.terms q.mode q.k c.search.ensures.exact

pub returns-clause-asks : goal.returns-clause-asks
returns-clause-asks g c =
    let kept = ap (λ (n : CoreValue). n.kept) (sym c.self.view_is) ∙ c.in-Some.is in
    asked c.args.self.now c.in-Some.catalog kept (g.R.PageReader.told c.args.reader.now) g.R.PageReader.gives g.R.PageReader.fails
    c.args.query.now c.args.reader.now c.search.new.reader c.search.result c.search.ensures.asks
