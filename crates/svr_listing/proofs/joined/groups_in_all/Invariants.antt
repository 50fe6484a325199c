use Rattle.std.proofs.Common.{◌≡◌, map, take}
use Rattle.svr_listing.specs.Joined.{common_at}
use Rattle.svr_listing.proofs.joined.groups_in_all.Given as goal

abbrev pub invariant-loop-key : goal.invariant-loop-key
invariant-loop-key l = l.groups.items ≡ map (λ key. record { key = key; ids = common_at key l.lists }) (take l.key-index l.key-items)
