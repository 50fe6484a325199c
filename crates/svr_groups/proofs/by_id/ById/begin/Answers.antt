use Rattle.std.proofs.Common.{◌≡◌, ◌<◌, [], ◌∷◌, List, ℤ, ap, length, rules, subst, sym, arith}
use Rattle.std.specs.Ordering.{nat_cmp}
use Rattle.std.proofs.lemmas.Map.Views.{All-values-insert_entry}
use Rattle.svr_groups.specs.Layout.{HasValues}
use Rattle.svr_groups.specs.Values.{with_value}
use Rattle.svr_groups.proofs.by_id.ById.begin.Goals as goal

pub invariant_of-self-2 : goal.invariant_of-self-2
invariant_of-self-2 c =
    let one : c.in_ok-group.group ≡ c.args.value ∷ [] = search rules in
    let some : 0 < length c.in_ok-group.group = omega (arith, ap length one) in
    subst HasValues (sym c.in_ok-insert.ensures.changed)
    (All-values-insert_entry nat_cmp c.args.id c.in_ok-group.group (λ (values : List ℤ). 0 < length values) c.self.inside.groups
    c.self.invariant some)

pub returns-clause-ok : goal.returns-clause-ok
unfolding with_value
returns-clause-ok c = record { here = search rules; others = search rules }
