use Rattle.std.proofs.Common.{◌≡◌, [], rules}
use Rattle.svr_groups.proofs.Kept.{IsGroup-none}
use Rattle.svr_groups.proofs.group.Group.empty.Goals as goal

pub invariant_of-result : goal.invariant_of-result
invariant_of-result c =
    let items : c.new.result.items ≡ [] = search rules in
    rw items IsGroup-none
