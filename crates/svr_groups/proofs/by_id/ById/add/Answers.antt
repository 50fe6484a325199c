use Rattle.std.proofs.Common.{◌∙◌, ap, nat_cmp, subst, sym}
use Rattle.std.specs.BTreeMap.{is_at}
use Rattle.std.specs.Map.{set_value}
use Rattle.std.proofs.lemmas.Map.Steps.{set_value_same}
use Rattle.std.proofs.lemmas.Result.{on_err_weaker}
use Rattle.svr_groups.specs.Layout.{HasValues}
use Rattle.svr_groups.proofs.Entries.{HasValues-set_value, set_value-again, some-added, some-found}
use Rattle.svr_groups.proofs.by_id.ById.add.Goals as goal

pub invariant_of-self : goal.invariant_of-self
invariant_of-self c =
    let test = is_at (nat_cmp c.args.id) in
    let groups = c.self.inside.groups in
    let twice = c.replace.ensures.changed ∙ ap (λ es. set_value test es c.add-added.new.self) c.replace-group.ensures.changed
    ∙ set_value-again test groups c.empty.result c.add-added.new.self in
    let some = some-found test groups c.replace-group.result c.self.invariant c.replace-group.ensures.before in
    subst HasValues (sym twice)
    (HasValues-set_value test groups c.add-added.new.self c.self.invariant
    (some-added c.add-added.result _ c.replace-group.result c.add-added.new.self c.add-added.ensures.ok c.add-added.ensures.err some))

pub returns-clause-err : goal.returns-clause-err
returns-clause-err c =
    let test = is_at (nat_cmp c.args.id) in
    let groups = c.self.inside.groups in
    let twice = c.replace.ensures.changed ∙ ap (λ es. set_value test es c.add-added.new.self) c.replace-group.ensures.changed
    ∙ set_value-again test groups c.empty.result c.add-added.new.self in
    on_err_weaker c.add-added.result
    (λ same. twice ∙ ap (set_value test groups) same
    ∙ set_value_same test groups c.replace-group.result (sym c.replace-group.ensures.before) ∙ c.self.view_is)
    c.add-added.ensures.err
