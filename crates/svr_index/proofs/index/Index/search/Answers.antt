use Rattle.std.proofs.Common.{IfOk, sym, subst}
use Rattle.std.proofs.lemmas.Result.{IfOk-weaker}
use Rattle.std.specs.Option.{ForSome}
use Rattle.svr_num.specs.declared.mode.Mode.{Mode}
use Rattle.svr_num.specs.declared.mode.Mode.TheVariants as mode
use Rattle.svr_topk.specs.declared.search.Answer.{Answer}
use Rattle.svr_index.specs.Search.{AnswersBy}
use Rattle.svr_index.proofs.Searching.{best-found}
use Rattle.svr_index.proofs.Told.{answers-told}
use Rattle.svr_index.proofs.index.Index.search.Goals as goal

pub returns-in-All-clause-answer : goal.returns-in-All-clause-answer
returns-in-All-clause-answer g c =
    subst (λ (m : Mode). IfOk c.search_all.result (λ answer. ForSome (g.R.PageReader.told c.args.reader.now) (λ bytes.
    AnswersBy c.args.self.now c.args.terms.now m c.args.k (g.S.Scores.score_of c.args.scores.now) bytes answer.hits answer.groups)))
    (sym c.in-All.is)
    (answers-told g.R.PageReader.told g.R.PageReader.gives g.R.PageReader.fails g.met.R.PageReader.same_told g.met.R.PageReader.sound
    c.args.self.now c.args.terms.now mode.All c.args.k (g.S.Scores.score_of c.args.scores.now) c.args.reader.now c.search_all.new.reader
    (λ (answer : Answer). answer.hits) (λ (answer : Answer). answer.groups) c.search_all.result c.requires.some c.requires.bounded
    c.search_all.ensures.asks c.search_all.ensures.answer)

pub returns-in-All-clause-best : goal.returns-in-All-clause-best
returns-in-All-clause-best g c =
    IfOk-weaker c.search_all.result _ _
    (λ answer is bytes at.
    best-found c.args.self.now c.args.terms.now c.args.mode c.args.k (g.S.Scores.score_of c.args.scores.now) bytes answer.hits answer.groups
    c.requires.some_terms (is bytes at))
    (returns-in-All-clause-answer g c)

pub returns-in-Any-clause-answer : goal.returns-in-Any-clause-answer
returns-in-Any-clause-answer g c =
    subst (λ (m : Mode). IfOk c.search_any.result (λ answer. ForSome (g.R.PageReader.told c.args.reader.now) (λ bytes.
    AnswersBy c.args.self.now c.args.terms.now m c.args.k (g.S.Scores.score_of c.args.scores.now) bytes answer.hits answer.groups)))
    (sym c.in-Any.is)
    (answers-told g.R.PageReader.told g.R.PageReader.gives g.R.PageReader.fails g.met.R.PageReader.same_told g.met.R.PageReader.sound
    c.args.self.now c.args.terms.now mode.Any c.args.k (g.S.Scores.score_of c.args.scores.now) c.args.reader.now c.search_any.new.reader
    (λ (answer : Answer). answer.hits) (λ (answer : Answer). answer.groups) c.search_any.result c.requires.some c.requires.bounded
    c.search_any.ensures.asks c.search_any.ensures.answer)

pub returns-in-Any-clause-best : goal.returns-in-Any-clause-best
returns-in-Any-clause-best g c =
    IfOk-weaker c.search_any.result _ _
    (λ answer is bytes at.
    best-found c.args.self.now c.args.terms.now c.args.mode c.args.k (g.S.Scores.score_of c.args.scores.now) bytes answer.hits answer.groups
    c.requires.some_terms (is bytes at))
    (returns-in-Any-clause-answer g c)
