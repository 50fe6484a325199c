use Rattle.std.proofs.Common.{ℕ, refl, sym, ap, ◌∙◌}
use Rattle.svr_index.proofs.Following.{follows-stays, rules-stay, unedited, was_listed}
use Rattle.svr_index.specs.Index.{Indexed}
use Rattle.svr_short.specs.Short.{mark_in}
use Rattle.svr_index.proofs.index.Index.stays.Goals as goal

pub returns-in-Some-clause-kept : goal.returns-in-Some-clause-kept
returns-in-Some-clause-kept c is_so terms tokens l now is stood differs scored =
    let was = was_listed c.args.self.now l c.self.inside.keys c.args.id c.in-Some.entry stood (ap (λ (i : Indexed). i.entries) c.self.view_is)
    c.in-Some.ensures.value in
    follows-stays tokens c.args.self.now c.args.self.now l now c.args.id terms terms scored.was.it scored.is.it
    c.in-Some.entry is stood differs scored.was.is scored.is.is scored.was.terms_are scored.is.terms_are was
    (ap (λ (n : ℕ). l.rules.stays n c.in-Some.entry.key) scored.is.score_is
    ∙ rules-stay c.args.self.now l c.self.inside.method c.args.score c.in-Some.entry.key _ stood (ap (λ (i : Indexed). i.method) c.self.view_is)
    (sym is_so ∙ c.stays.ensures))
    refl refl refl (λ _ _ _ _. refl)
    (unedited terms terms c.in-Some.entry.key (λ term key. mark_in c.args.self.now.marks term key c.args.id) refl)
