use Rattle.std.proofs.Common.{◌≡◌, ◌∙◌, List, ℤ, rules, subst, sym}
use Rattle.std.specs.Prelude.{int_lt}
use Rattle.std.specs.List.Sorted.{IsPartitionedBy}
use Rattle.std.proofs.lemmas.List.Sorted.{IsPartitionPoint-from_clause}
use Rattle.svr_groups.specs.Layout.{IsPlaceOf}
use Rattle.svr_groups.proofs.Order.{IsPartitionedBy-less}
use Rattle.svr_groups.proofs.group.Group.place.Goals as goal

pub returns : goal.returns
returns c =
    let same : c.deref.result.now ≡ c.args.self.now = c.deref.ensures.value ∙ c.self.view_is in
    let parted = subst (IsPartitionedBy (λ (x : ℤ). int_lt x c.args.value)) (sym c.deref.ensures.value)
    (IsPartitionedBy-less c.args.value c.self.inside.values.items c.self.invariant.ordered) in
    let point = IsPartitionPoint-from_clause (λ (x : ℤ). int_lt x c.args.value) _ _ c.partition_point.ensures.partitioned parted
    (λ a r q k. search rules) in
    subst (λ (xs : List ℤ). IsPlaceOf c.args.value xs c.partition_point.result) same
    (record { within = c.partition_point.ensures.bound; before = point.0; behind = point.1 })
