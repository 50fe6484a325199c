use Rattle.std.proofs.Common.{◌≡◌, ◌∙◌, ap, subst, sym}
use Rattle.std.specs.List.{Contains}
use Rattle.svr_groups.specs.Values.{without_value}
use Rattle.svr_groups.proofs.Kept.{IsGroup-without_value, kept_sum, remove-placed, wide_sum, widened}
use Rattle.svr_groups.proofs.group.Group.remove.Goals as goal

pub overflow_sub-self : goal.overflow_sub-self
overflow_sub-self c =
    let there = subst (λ xs. Contains xs c.args.value) (sym c.self.view_is) c.requires in
    rw (
      kept_sum c.self.inside.sum c.self.inside.values.items c.self.invariant,
      widened c.args.value c.from.result c.ranges.value c.from.ensures,
    )
    (wide_sum _ _ (IsGroup-without_value c.self.inside.sum c.args.value c.self.inside.values.items c.self.invariant there))

pub invariant_of-self : goal.invariant_of-self
invariant_of-self c =
    let there = subst (λ xs. Contains xs c.args.value) (sym c.self.view_is) c.requires in
    let items : c.remove.new.self.items ≡ without_value c.args.value c.self.inside.values.items =
    c.remove.ensures.items ∙ remove-placed c.args.value _ _ c.place-place.result c.ranges.value c.self.view_is c.place-place.ensures
    c.requires c.self.invariant.ordered in
    let group = IsGroup-without_value c.self.inside.sum c.args.value c.self.inside.values.items c.self.invariant there in
    rw (
      kept_sum c.self.inside.sum c.self.inside.values.items c.self.invariant,
      widened c.args.value c.from.result c.ranges.value c.from.ensures,
      kept_sum _ _ group,
      items,
    ) group

pub returns : goal.returns
returns c =
    c.remove.ensures.items ∙ remove-placed c.args.value _ _ c.place-place.result c.ranges.value c.self.view_is c.place-place.ensures
    c.requires c.self.invariant.ordered
    ∙ ap (without_value c.args.value) c.self.view_is
