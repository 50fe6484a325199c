use Rattle.std.proofs.Common.{inl, inr, sym, ap, ◌∙◌}
use Rattle.serde_json.specs.View.{view}
use Rattle.svr_json.specs.Parts.{has_members}
use Rattle.svr_schema.specs.Components.{members_of}
use Rattle.svr_schema.proofs.read_component.has_over_members.Goals as goal

pub returns-in-Min : goal.returns-in-Min
returns-in-Min c =
    let d = view c.args.value.now in
    let found = c.has_members-in-Min.ensures in
    elim c.in-Min.is [
      | inl e ↦ found ∙ ap (λ h. has_members (members_of h) d) (sym e)
      | inr o ↦ elim o [
        | inl e ↦ found ∙ ap (λ h. has_members (members_of h) d) (sym e)
        | inr e ↦ found ∙ ap (λ h. has_members (members_of h) d) (sym e)
      ]
    ]
