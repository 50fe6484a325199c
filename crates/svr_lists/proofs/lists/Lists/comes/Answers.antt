use Rattle.std.proofs.Common.{Some, None, subst, sym}
use Rattle.svr_chunks.specs.Chosen.{chosen_rules}
use Rattle.svr_listing.specs.Changes.{moved_to}
use Rattle.svr_tokens.specs.Tokens.{tokens_of}
use Rattle.svr_index.specs.Index.{Comes}
use Rattle.svr_lists.specs.Lists.{ComesWithText, FollowsDocument, IsAtScores, ListsValue}
use Rattle.svr_lists.proofs.Changing.{comes-differs, follows-by, with-terms}
use Rattle.svr_lists.proofs.Scored.{at-changed, at-now}
use Rattle.svr_lists.proofs.lists.Lists.comes.Goals as goal

pub returns-clause-follows : goal.returns-clause-follows
returns-clause-follows g c =
    let old : ListsValue = record { index = c.self.inside.index; merge = c.self.inside.merge } in
    let new : ListsValue = record { index = c.text_in.new.index; merge = c.touch.new.merge } in
    let change = ComesWithText c.args.score c.args.text.now in
    subst (λ (v : ListsValue). FollowsDocument v new c.args.id change) c.self.view_is
    (follows-by old new c.args.id change (Comes c.args.score (tokens_of c.args.text.now)) c.in_ok-text_in.ensures.follows
    (λ before now were are comes. with-terms now c.args.id c.args.score c.args.text.now are comes.is)
    (comes-differs c.args.score c.args.text.now) c.touch.ensures)

pub returns-clause-at_scores : goal.returns-clause-at_scores
returns-clause-at_scores g c was is at sets =
    let old : ListsValue = record { index = c.self.inside.index; merge = c.self.inside.merge } in
    let new : ListsValue = record { index = c.text_in.new.index; merge = c.touch.new.merge } in
    at-changed old new c.args.id was is (Some c.args.score) (Some (moved_to (chosen_rules c.self.inside.index.method) c.args.score))
    c.in_ok-text_in.ensures.entries c.touch.ensures (at-now c.self.inside.index.method c.args.score None c.requires.score)
    (subst (IsAtScores was) (sym c.self.view_is) at) sets
