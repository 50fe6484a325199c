use Rattle.std.proofs.Common.{ℕ, List, subst, refl}
use Rattle.svr_tokens.specs.Tokens.{tokens_of}
use Rattle.svr_index.specs.Index.{Follows, IsScored}
use Rattle.svr_lists.proofs.change.text_scored.Goals as goal

pub returns-then-stays-clause-follows : goal.returns-then-stays-clause-follows
returns-then-stays-clause-follows g c = c.if-stays.ensures.kept refl (tokens_of c.args.text.now)

pub returns-clause-follows : goal.returns-clause-follows
returns-clause-follows g c =
    subst (λ (ts : List (List ℕ)). Follows c.args.index.now c.score_change.new.self c.args.id (IsScored c.args.score ts))
    c.in_ok-terms.ensures.value c.in_ok-score_change.ensures.follows
