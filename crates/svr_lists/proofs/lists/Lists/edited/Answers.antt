use Rattle.std.proofs.Common.{subst, sym}
use Rattle.svr_listing.proofs.Terms.{same_term}
use Rattle.svr_tokens.specs.Tokens.{tokens_of}
use Rattle.svr_index.specs.Index.{IsEdited}
use Rattle.svr_lists.specs.Lists.{FollowsDocument, IsRewritten, ListsValue}
use Rattle.svr_lists.proofs.Changing.{follows-by, follows-same, rewritten-differs, rewritten-terms}
use Rattle.svr_lists.proofs.lists.Lists.edited.Goals as goal

pub returns-then-eq-clause-follows : goal.returns-then-eq-clause-follows
returns-then-eq-clause-follows g c =
    follows-same c.args.self.now c.args.id c.args.old.now c.args.new.now (same_term c.args.old.now c.args.new.now (sym c.if-eq.ensures))

pub returns-clause-follows : goal.returns-clause-follows
returns-clause-follows g c =
    let old : ListsValue = record { index = c.self.inside.index; merge = c.self.inside.merge } in
    let new : ListsValue = record { index = c.text_edited.new.index; merge = c.touch.new.merge } in
    let change = IsRewritten c.args.old.now c.args.new.now in
    subst (λ (v : ListsValue). FollowsDocument v new c.args.id change) c.self.view_is
    (follows-by old new c.args.id change (IsEdited (tokens_of c.args.old.now) (tokens_of c.args.new.now)) c.in_ok-text_edited.ensures.follows
    (λ before now were are edited. rewritten-terms before now c.args.id c.args.old.now c.args.new.now were are edited)
    (rewritten-differs c.args.old.now c.args.new.now (sym c.if-eq.ensures)) c.touch.ensures)
