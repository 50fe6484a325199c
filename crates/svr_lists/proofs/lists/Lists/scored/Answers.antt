use Rattle.std.proofs.Common.{Some, subst, sym}
use Rattle.svr_chunks.specs.Chosen.{chosen_rules}
use Rattle.svr_idmap.specs.Ids.{value_at}
use Rattle.svr_listing.specs.Changes.{entry_now}
use Rattle.svr_tokens.specs.Tokens.{tokens_of}
use Rattle.svr_index.specs.Index.{IsScored}
use Rattle.svr_lists.specs.Lists.{FollowsDocument, IsAtScores, IsRescored, ListsValue}
use Rattle.svr_lists.proofs.Changing.{follows-by, scored-differs, scored-terms}
use Rattle.svr_lists.proofs.Scored.{at-changed, at-now}
use Rattle.svr_lists.proofs.lists.Lists.scored.Goals as goal

pub returns-clause-follows : goal.returns-clause-follows
returns-clause-follows g c =
    let old : ListsValue = record { index = c.self.inside.index; merge = c.self.inside.merge } in
    let new : ListsValue = record { index = c.text_scored.new.index; merge = c.touch.new.merge } in
    let change = IsRescored c.args.score c.args.text.now in
    subst (λ (v : ListsValue). FollowsDocument v new c.args.id change) c.self.view_is
    (follows-by old new c.args.id change (IsScored c.args.score (tokens_of c.args.text.now)) c.in_ok-text_scored.ensures.follows
    (λ before now were are scored. scored-terms before now c.args.id c.args.score c.args.text.now were are scored)
    (scored-differs c.args.score c.args.text.now) c.touch.ensures)

pub returns-clause-at_scores : goal.returns-clause-at_scores
returns-clause-at_scores g c was is at sets =
    let old : ListsValue = record { index = c.self.inside.index; merge = c.self.inside.merge } in
    let new : ListsValue = record { index = c.text_scored.new.index; merge = c.touch.new.merge } in
    let entry = value_at c.self.inside.index.entries c.args.id in
    at-changed old new c.args.id was is (Some c.args.score) (Some (entry_now (chosen_rules c.self.inside.index.method) c.args.score entry))
    c.in_ok-text_scored.ensures.entries c.touch.ensures (at-now c.self.inside.index.method c.args.score entry c.requires.score)
    (subst (IsAtScores was) (sym c.self.view_is) at) sets
