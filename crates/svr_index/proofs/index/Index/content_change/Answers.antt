use Rattle.std.proofs.Common.{rules, ℕ, refl, sym, subst, ap, ◌∙◌}
use Rattle.svr_index.specs.Index.{Indexed, StandsFor}
use Rattle.svr_index.proofs.Following.{follows-stays, stays-there, was_listed}
use Rattle.svr_index.proofs.index.Index.content_change.Goals as goal

pub returns-clause-follows : goal.returns-clause-follows
returns-clause-follows g c tokens l now is stood_now differs edited =
    let before : Indexed = record { method = c.self.inside.method; entries = c.self.inside.keys; marks = c.self.inside.short; pages = c.self.inside.long } in
    let stood : StandsFor before l = subst (λ (i : Indexed). StandsFor i l) (sym c.self.view_is) stood_now in
    let was = was_listed before l before.entries c.args.id c.in-Some.entry stood refl c.in-Some.ensures.value in
    follows-stays tokens before _ l now c.args.id c.args.old.now c.args.new.now edited.was.it edited.is.it c.in-Some.entry is stood differs
    edited.was.is edited.is.is edited.was.terms_are edited.is.terms_are was
    (ap (λ (n : ℕ). l.rules.stays n c.in-Some.entry.key) (edited.is.score_is ∙ sym edited.was.score_is)
    ∙ stays-there tokens l c.args.id edited.was.it c.in-Some.entry is edited.was.is was)
    refl refl refl (search rules) (search rules)
