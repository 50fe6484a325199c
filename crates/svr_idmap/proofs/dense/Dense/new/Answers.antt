use Rattle.std.proofs.Common.{◌≡◌, [], ap, arith, rules, sym, subst}
use Rattle.svr_idmap.specs.Layout.{IsDense, entries_from}
use Rattle.svr_idmap.proofs.dense.Dense.new.Goals as goal

pub invariant_of-result : goal.invariant_of-result
unfolding entries_from
invariant_of-result g c =
    let none : c.new.result.items ≡ [] = search rules in
    subst (λ items. IsDense items 0) (sym none) (record { few = omega arith; counted = omega arith })

pub returns : goal.returns
unfolding entries_from
returns g c =
    let none : c.new.result.items ≡ [] = search rules in
    ap (entries_from 0) none
