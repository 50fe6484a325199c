use Rattle.std.proofs.Common.{ℕ, List, subst}
use Rattle.svr_index.specs.Index.{Comes, Follows}
use Rattle.svr_lists.proofs.change.text_in.Goals as goal

pub returns-clause-follows : goal.returns-clause-follows
returns-clause-follows g c =
    subst (λ (ts : List (List ℕ)). Follows c.args.index.now c.doc_in.new.self c.args.id (Comes c.args.score ts)) c.in_ok-terms.ensures.value
    c.in_ok-doc_in.ensures.follows
