use Rattle.std.proofs.Common.{subst}
use Rattle.svr_index.specs.Index.{Goes}
use Rattle.svr_lists.specs.Lists.{FollowsDocument, GoesAway, ListsValue}
use Rattle.svr_lists.proofs.Changing.{follows-by, goes-differs}
use Rattle.svr_lists.proofs.lists.Lists.goes.Goals as goal

pub returns-clause-follows : goal.returns-clause-follows
returns-clause-follows g c =
    let old : ListsValue = record { index = c.self.inside.index; merge = c.self.inside.merge } in
    let new : ListsValue = record { index = c.doc_out.new.self; merge = c.touch.new.merge } in
    subst (λ (v : ListsValue). FollowsDocument v new c.args.id GoesAway) c.self.view_is
    (follows-by old new c.args.id GoesAway Goes c.doc_out.ensures.follows (λ _ _ _ _ none. none) goes-differs c.touch.ensures)
