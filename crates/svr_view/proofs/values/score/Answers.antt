use Rattle.std.proofs.Common.{◌≡◌, ◌<◌, ◌≤◌, arith, length, refl, sym, ◌∙◌, subst, rules}
use Rattle.std.specs.Int.{w128}
use Rattle.std.proofs.Common.{to_z, of_z}
use Rattle.std.proofs.lemmas.Int.{to_z-of_z}
use Rattle.svr_num.specs.Aggregates.{IsValue}
use Rattle.svr_view.proofs.Filled.{IsValue-more, IsValue-none, values_by-more}
use Rattle.svr_view.proofs.values.score.Goals as goal
use Rattle.svr_view.specs.Layout.{values_by}

pub loop-c-init : goal.loop-c-init
unfolding values_by
loop-c-init c = (refl, IsValue-none, search rules)

pub loop-c-preserved : goal.loop-c-preserved
loop-c-preserved c =
    let kept : to_z w128 (of_z w128 c.value.result) ≡ c.value.result = to_z-of_z w128 c.value.result (record { sfits = c.value.type_inv }) in
    let same = c.as_slice-component-items.ensures in
    let few : length c.as_slice-component-items.result.now ≤ 8 = subst (λ ks. length ks ≤ 8) (sym same) c.requires.lawful.few_components in
    let room : c.loop-c.c < length c.loop-c.values = omega (arith, few, c.loop-c-test.true, c.loop-c.invariant.2) in (
      values_by-more c.args.groups.now c.args.row.now c.as_slice-component-items.result.now c.loop-c.values c.loop-c.c
          c.component-item.result _ c.loop-c-test.true room c.component-item.is c.loop-c.invariant.0 (kept ∙ c.value.ensures.value),
      IsValue-more c.loop-c.values c.loop-c.c _ room c.loop-c.invariant.1 (subst IsValue (sym kept) c.value.ensures.within),
      search rules,
    )
