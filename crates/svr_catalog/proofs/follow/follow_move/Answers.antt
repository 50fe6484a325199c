use Rattle.std.proofs.Common.{◌≡◌, ℕ, Option, ◌∙◌, sym, subst}
use Rattle.svr_lists.specs.Lists.{SetsScore}
use Rattle.svr_catalog.proofs.follow.follow_move.Goals as goal

pub returns-in-Some-old-clause-at_scores : goal.returns-in-Some-old-clause-at_scores
returns-in-Some-old-clause-at_scores g c =
    let id : c.id_in.result ≡ c.args.to.now.id = c.id_in.ensures.value ∙ (rw c.in-Some-row.is at c.requires.id) in
    λ old new at sets. c.scored.ensures.at_scores old new at (subst (λ (o : Option ℕ). SetsScore old new c.id_in.result o) c.in-Some.is
    (subst (λ (n : ℕ). SetsScore old new n c.args.to.now.new) (sym id) sets))

pub returns-in-None-clause-at_scores : goal.returns-in-None-clause-at_scores
returns-in-None-clause-at_scores g c =
    let id : c.id_in-in-None.result ≡ c.args.to.now.id = c.id_in-in-None.ensures.value ∙ (rw c.in-Some-row.is at c.requires.id) in
    λ old new at sets. c.comes.ensures.at_scores old new at (subst (λ (o : Option ℕ). SetsScore old new c.id_in-in-None.result o) c.in-Some.is
    (subst (λ (n : ℕ). SetsScore old new n c.args.to.now.new) (sym id) sets))
