use Rattle.std.proofs.Common.{◌≡◌, ◌∙◌, ap, length, pos, subst, sym, arith}
use Rattle.std.specs.Int.{w64, w128}
use Rattle.std.proofs.lemmas.Int.{to_z-of_z, to_z_pos}
use Rattle.svr_num.specs.Aggregates.{IsValue, aggregate_of, sum_of}
use Rattle.svr_num.specs.declared.aggregate.Aggregate.TheVariants as how
use Rattle.svr_groups.proofs.Bounds.{IsValue-aggregate_of}
use Rattle.svr_groups.proofs.Kept.{IsValue-sum, kept_sum}
use Rattle.svr_groups.proofs.group.Group.value.Goals as goal

pub returns-in-Sum-clause-value : goal.returns-in-Sum-clause-value
unfolding aggregate_of
returns-in-Sum-clause-value c =
    rw c.in-Sum.is
    (kept_sum c.self.inside.sum c.self.inside.values.items c.self.invariant ∙ c.self.invariant.summed ∙ ap sum_of c.self.view_is)

pub returns-in-Sum-clause-within : goal.returns-in-Sum-clause-within
returns-in-Sum-clause-within c =
    subst IsValue (sym (kept_sum c.self.inside.sum c.self.inside.values.items c.self.invariant))
    (IsValue-sum c.self.inside.sum c.self.inside.values.items c.self.invariant)

pub returns-in-Count-clause-value : goal.returns-in-Count-clause-value
unfolding aggregate_of
returns-in-Count-clause-value c =
    let count : c.len.result ≡ length c.args.self.now = omega (arith, c.self.inside.values.ok.0, ap length c.self.view_is) in
    rw c.in-Count.is (to_z_pos w128 c.len.result (let small = c.len.type_inv in omega arith) ∙ ap pos count)

pub returns-in-Avg-clause-within : goal.returns-in-Avg-clause-within
returns-in-Avg-clause-within c =
    let items = c.self.inside.values.items in
    let is = rw (to_z-of_z w64 c.args.empty c.ranges.empty) at c.average.ensures in
    let kept = to_z-of_z w128 c.average.result (record { sfits = c.average.type_inv }) in
    subst IsValue (sym (kept ∙ is ∙ ap (aggregate_of how.Avg c.args.empty) (sym c.self.view_is)))
    (IsValue-aggregate_of how.Avg c.args.empty items c.ranges.empty c.self.invariant.fit c.self.invariant.few)
