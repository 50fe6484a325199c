use Rattle.std.proofs.Common.{◌≡◌, [], ◌∷◌, rules}
use Rattle.svr_groups.proofs.Kept.{IsGroup-one, widened}
use Rattle.svr_groups.proofs.group.Group.of.Goals as goal

pub invariant_of-result : goal.invariant_of-result
invariant_of-result c =
    let items : c.push.new.self.items ≡ c.args.value ∷ [] = search rules in
    rw (widened c.args.value c.from.result c.ranges.value c.from.ensures, items) (IsGroup-one c.args.value c.ranges.value)
