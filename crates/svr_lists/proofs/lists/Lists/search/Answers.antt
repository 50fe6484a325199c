use Rattle.std.proofs.Common.{IfOk, ap, subst, sym}
use Rattle.std.specs.Option.{ForSome}
use Rattle.svr_index.specs.Index.{Indexed}
use Rattle.svr_index.specs.Search.{AreWithinBounds, FindsBest}
use Rattle.svr_topk.specs.declared.search.Answer.{Answer}
use Rattle.svr_lists.specs.Lists.{ListsValue}
use Rattle.svr_lists.proofs.Scored.{within-bounds}
use Rattle.svr_lists.proofs.lists.Lists.search.Goals as goal

pub search-requires-clause-bounded : goal.search-requires-clause-bounded
search-requires-clause-bounded g c =
    subst (λ (i : Indexed). AreWithinBounds i (g.S.Scores.score_of c.args.scores.now)) (sym (ap (λ (v : ListsValue). v.index) c.self.view_is))
    (within-bounds (g.S.Scores.score_of c.args.scores.now) c.args.self.now c.requires.at_scores)

pub returns-clause-best : goal.returns-clause-best
returns-clause-best g c =
    subst (λ (i : Indexed). IfOk c.search.result (λ (answer : Answer). ForSome (g.R.PageReader.told c.args.reader.now) (λ bytes.
    FindsBest i c.args.terms.now c.args.mode c.args.k (g.S.Scores.score_of c.args.scores.now) bytes answer.hits)))
    (ap (λ (v : ListsValue). v.index) c.self.view_is) c.search.ensures.best
