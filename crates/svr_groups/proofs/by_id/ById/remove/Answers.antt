use Rattle.std.proofs.Common.{◌≡◌, ◌∙◌, [], ap, nat_cmp, rules, subst, sym}
use Rattle.std.specs.BTreeMap.{is_at}
use Rattle.std.specs.Map.{remove_entry, set_value}
use Rattle.svr_groups.specs.Layout.{HasValues}
use Rattle.svr_groups.proofs.Entries.{HasValues-removed, HasValues-set_value, set_value-again, some-left}
use Rattle.svr_groups.proofs.by_id.ById.remove.Goals as goal

pub invariant_of-self : goal.invariant_of-self
invariant_of-self c =
    let test = is_at (nat_cmp c.args.id) in
    subst HasValues
    (sym (c.remove-then-is_empty.ensures.changed ∙ ap (remove_entry test) c.replace-group.ensures.changed))
    (HasValues-removed test c.self.inside.groups c.empty.result c.self.invariant)

pub invariant_of-self-else-is_empty : goal.invariant_of-self-else-is_empty
invariant_of-self-else-is_empty c =
    let test = is_at (nat_cmp c.args.id) in
    let groups = c.self.inside.groups in
    let apart : c.remove.new.self ≡ [] → ⊥ = search rules in
    let twice = c.replace.ensures.changed ∙ ap (λ es. set_value test es c.remove.new.self) c.replace-group.ensures.changed
    ∙ set_value-again test groups c.empty.result c.remove.new.self in
    subst HasValues (sym twice) (HasValues-set_value test groups c.remove.new.self c.self.invariant (some-left c.remove.new.self apart))
