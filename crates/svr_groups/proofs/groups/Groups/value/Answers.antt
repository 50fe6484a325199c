use Rattle.std.proofs.Common.{◌∙◌, ap, sym}
use Rattle.std.specs.Int.{w64, w128}
use Rattle.std.proofs.lemmas.Int.{to_z-of_z}
use Rattle.svr_num.specs.Aggregates.{aggregate_of}
use Rattle.svr_groups.proofs.Sets.{values_at-read}
use Rattle.svr_groups.proofs.groups.Groups.value.Goals as goal

pub returns-clause-value : goal.returns-clause-value
returns-clause-value c =
    let is = rw (to_z-of_z w64 c.args.empty c.ranges.empty) at c.value.ensures.value in
    let here = values_at-read c.self.inside.components.items c.args.self.now c.args.c c.index.result.now c.self.view_is c.requires
    c.index.ensures c.args.id in
    to_z-of_z w128 c.value.result (record { sfits = c.value.type_inv }) ∙ is ∙ ap (aggregate_of c.args.how c.args.empty) (sym here)
