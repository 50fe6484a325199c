use Rattle.std.proofs.Common.{◌≡◌, ◌∙◌, ap, rules, slice_get, sym, unwrap_or}
use Rattle.std.specs.Int.{w64}
use Rattle.std.proofs.lemmas.Int.{to_z-of_z}
use Rattle.svr_num.specs.Aggregates.{aggregate_of}
use Rattle.svr_num.specs.declared.aggregate.Aggregate.TheVariants as how
use Rattle.svr_groups.proofs.Folds.{aggregate_of-min}
use Rattle.svr_groups.proofs.group.Group.least.Goals as goal

pub returns : goal.returns
returns c =
    let is : c.unwrap_or.result ≡ unwrap_or (slice_get c.self.inside.values.items 0) c.args.empty = search rules in
    to_z-of_z w64 c.unwrap_or.result (record { sfits = c.unwrap_or.type_inv }) ∙ is
    ∙ sym (aggregate_of-min c.args.empty c.self.inside.values.items c.self.invariant.ordered)
    ∙ ap (aggregate_of how.Min c.args.empty) c.self.view_is
