use Rattle.std.proofs.Common.{ℕ, Option, IfOk, subst}
use Rattle.std.specs.Option.{ForSome}
use Rattle.svr_index.specs.Asked.{AsksFor}
use Rattle.svr_listing.specs.Listing.{score_in}
use Rattle.svr_catalog.specs.Answers.{AnswersByBytes, AnswersExactly}
use Rattle.svr_catalog.specs.Catalog.{documents_in}
use Rattle.svr_catalog.proofs.Searched.{scores-are, search-by, search-exact}
use Rattle.svr_catalog.proofs.catalog.Catalog.search.Goals as goal

pub returns-clause-answer : goal.returns-clause-answer
returns-clause-answer g c =
    let contents = c.self.inside.contents in
    subst (λ v. IfOk c.search.result (λ answer. ForSome (g.R.PageReader.told c.args.reader.now) (λ bytes.
    AnswersByBytes v c.args.terms.now c.args.mode c.args.k bytes answer))) c.self.view_is
    (search-by c.self.inside.schema contents.tables contents.lists contents.scores c.self.invariant.scores c.args.terms.now c.args.mode
    c.args.k (g.R.PageReader.told c.args.reader.now) c.search.result c.search.ensures.answer)

pub returns-clause-exact : goal.returns-clause-exact
returns-clause-exact g c =
    let contents = c.self.inside.contents in
    subst (λ v. IfOk c.search.result (λ answer. ForSome (g.R.PageReader.told c.args.reader.now) (λ bytes.
    AnswersExactly v c.args.terms.now c.args.mode c.args.k bytes answer))) c.self.view_is
    (search-exact c.self.inside.schema contents.tables contents.lists contents.scores c.self.invariant.scores c.args.terms.now c.args.mode
    c.args.k (g.R.PageReader.told c.args.reader.now) c.search.result c.search.ensures.answer c.search.ensures.best)

pub returns-clause-asks : goal.returns-clause-asks
returns-clause-asks g c =
    let contents = c.self.inside.contents in
    subst (λ v. AsksFor (g.R.PageReader.told c.args.reader.now) g.R.PageReader.gives g.R.PageReader.fails v.lists.index c.args.terms.now
    c.args.mode c.args.k (score_in (documents_in v.catalog)) c.args.reader.now c.search.new.reader c.search.result) c.self.view_is
    (subst (λ (score : ℕ → Option ℕ). AsksFor (g.R.PageReader.told c.args.reader.now) g.R.PageReader.gives g.R.PageReader.fails
    contents.lists.index c.args.terms.now c.args.mode c.args.k score c.args.reader.now c.search.new.reader c.search.result)
    (scores-are c.self.inside.schema contents.tables contents.scores c.self.invariant.scores) c.search.ensures.asks)
