use Rattle.std.proofs.Common.{ℕ, List, subst}
use Rattle.svr_tokens.specs.Tokens.{tokens_of}
use Rattle.svr_index.specs.Index.{Follows, IsEdited}
use Rattle.svr_lists.proofs.change.text_edited.Goals as goal

pub returns-clause-follows : goal.returns-clause-follows
returns-clause-follows g c =
    subst (λ (ts : List (List ℕ)). Follows c.args.index.now c.content_change.new.self c.args.id (IsEdited ts (tokens_of c.args.new.now)))
    c.in_ok-before.ensures.value
    (subst (λ (ts : List (List ℕ)). Follows c.args.index.now c.content_change.new.self c.args.id (IsEdited c.in_ok-before.before ts))
    c.in_ok-now.ensures.value c.in_ok-content_change.ensures.follows)
