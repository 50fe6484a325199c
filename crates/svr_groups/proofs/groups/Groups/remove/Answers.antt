use Rattle.std.specs.Int.{w64}
use Rattle.std.proofs.lemmas.Int.{to_z-of_z}
use Rattle.svr_groups.specs.Values.{without_value}
use Rattle.svr_groups.proofs.Sets.{SetsValues-read, values_at-read}
use Rattle.svr_groups.proofs.groups.Groups.remove.Goals as goal

pub remove-requires : goal.remove-requires
remove-requires c =
    rw (
      to_z-of_z w64 c.args.value c.ranges.value,
      ← (values_at-read c.self.inside.components.items c.args.self.now c.args.c c.index_mut.result.now c.self.view_is c.requires.component
          c.index_mut.ensures.value c.args.id),
    ) c.requires.there

pub returns : goal.returns
returns c =
    let sets = rw (to_z-of_z w64 c.args.value c.ranges.value) at c.remove.ensures in
    SetsValues-read c.self.inside.components.items c.args.self.now c.args.c c.index_mut.result.now c.self.view_is c.requires.component
    c.index_mut.ensures.value c.args.id c.remove.new.self (without_value c.args.value) sets
