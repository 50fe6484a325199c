use Rattle.std.proofs.Common.{◌≡◌, ◌≤◌, ◌^◌, ◌∙◌, ap, length, subst, sym}
use Rattle.svr_groups.specs.Values.{with_value}
use Rattle.svr_groups.proofs.Kept.{IsGroup-with_value, insert-placed, kept_sum, wide_sum, widened}
use Rattle.svr_groups.proofs.group.Group.add.Goals as goal

pub overflow_add-self : goal.overflow_add-self
overflow_add-self c =
    let room = subst (λ xs. length xs ≤ 2 ^ 18) (sym c.self.view_is) c.requires in
    rw (
      kept_sum c.self.inside.sum c.self.inside.values.items c.self.invariant,
      widened c.args.value c.from.result c.ranges.value c.from.ensures,
    )
    (wide_sum _ _ (IsGroup-with_value c.self.inside.sum c.args.value c.self.inside.values.items c.self.invariant c.ranges.value room))

pub invariant_of-self-2 : goal.invariant_of-self-2
invariant_of-self-2 c =
    let room = subst (λ xs. length xs ≤ 2 ^ 18) (sym c.self.view_is) c.requires in
    let items : c.insert.new.self.items ≡ with_value c.args.value c.self.inside.values.items =
    c.in_ok-insert.ensures.items
    ∙ insert-placed c.args.value _ _ c.place-place.result c.ranges.value c.self.view_is c.place-place.ensures in
    let group = IsGroup-with_value c.self.inside.sum c.args.value c.self.inside.values.items c.self.invariant c.ranges.value room in
    rw (
      kept_sum c.self.inside.sum c.self.inside.values.items c.self.invariant,
      widened c.args.value c.from.result c.ranges.value c.from.ensures,
      kept_sum _ _ group,
      items,
    ) group

pub returns-clause-ok : goal.returns-clause-ok
returns-clause-ok c =
    c.in_ok-insert.ensures.items ∙ insert-placed c.args.value _ _ c.place-place.result c.ranges.value c.self.view_is c.place-place.ensures
    ∙ ap (with_value c.args.value) c.self.view_is
