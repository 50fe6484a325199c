use Rattle.std.proofs.Common.{◌≡◌, ◌<◌, ◌∙◌, ap, length, sym, arith}
use Rattle.std.proofs.lemmas.Bool.Decides.{nat_tests}
use Rattle.svr_num.specs.Aggregates.{aggregate_of}
use Rattle.svr_num.specs.declared.aggregate.Aggregate.TheVariants as how
use Rattle.svr_groups.proofs.Folds.{aggregate_of-average_none}
use Rattle.svr_groups.proofs.Kept.{average-kept, widened}
use Rattle.svr_groups.proofs.group.Group.average.Goals as goal

pub returns-then-is_empty : goal.returns-then-is_empty
returns-then-is_empty c =
    let none : length c.self.inside.values.items ≡ 0 = grind (arith, nat_tests, c.self.inside.values.ok.0) in
    widened c.args.empty c.from.result c.ranges.empty c.from.ensures
    ∙ sym (aggregate_of-average_none c.args.empty c.self.inside.values.items none) ∙ ap (aggregate_of how.Avg c.args.empty) c.self.view_is

pub returns : goal.returns
returns c =
    let count : c.len.result ≡ length c.self.inside.values.items = omega (arith, c.self.inside.values.ok.0) in
    let some : 0 < c.len.result = grind (arith, nat_tests) in
    average-kept c.self.inside.sum c.floor_div.result c.args.empty c.self.inside.values.items c.len.result c.self.invariant count some
    (record { sfits = c.floor_div.type_inv }) c.floor_div.ensures.value
    ∙ ap (aggregate_of how.Avg c.args.empty) c.self.view_is
