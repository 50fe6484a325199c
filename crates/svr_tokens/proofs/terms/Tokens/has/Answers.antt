use Rattle.std.proofs.Common.{◌∙◌, ◌↔◌, IsTrue, subst, sym}
use Rattle.std.specs.List.{Contains}
use Rattle.svr_tokens.proofs.Laws.{has_term-iff}
use Rattle.svr_tokens.proofs.Search.{found}
use Rattle.svr_tokens.proofs.terms.Tokens.has.Goals as goal

pub returns-clause-value : goal.returns-clause-value
returns-clause-value c =
    c.is_ok.ensures.value ∙ found c.args.self.now c.args.term.now c.binary_search.result (rw (← c.self.view_is) c.self.invariant)
    (rw (← c.self.view_is, ← c.as_slice.ensures.value) c.binary_search.ensures.bound)
    (rw (← c.self.view_is, ← c.as_slice.ensures.value) c.binary_search.ensures.position)

pub returns-clause-member : goal.returns-clause-member
returns-clause-member c =
    subst (λ b. IsTrue b ↔ Contains c.args.self.now c.args.term.now) (sym (returns-clause-value c)) (has_term-iff c.args.self.now c.args.term.now)
