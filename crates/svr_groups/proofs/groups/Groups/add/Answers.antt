use Rattle.std.specs.Int.{w64}
use Rattle.std.proofs.lemmas.Int.{to_z-of_z}
use Rattle.std.proofs.lemmas.Result.{on_ok_weaker}
use Rattle.svr_groups.specs.Values.{with_value}
use Rattle.svr_groups.proofs.Sets.{SetsValues-read, values_at-read}
use Rattle.svr_groups.proofs.groups.Groups.add.Goals as goal

pub add-requires : goal.add-requires
add-requires c =
    rw (← (values_at-read c.self.inside.components.items c.args.self.now c.args.c c.index_mut.result.now c.self.view_is c.requires.component
    c.index_mut.ensures.value c.args.id)) c.requires.few

pub returns-clause-ok : goal.returns-clause-ok
returns-clause-ok c =
    on_ok_weaker c.add.result
    (λ sets.
    SetsValues-read c.self.inside.components.items c.args.self.now c.args.c c.index_mut.result.now c.self.view_is c.requires.component
    c.index_mut.ensures.value c.args.id c.add.new.self (with_value c.args.value) (rw (to_z-of_z w64 c.args.value c.ranges.value) at sets))
    c.add.ensures.ok
