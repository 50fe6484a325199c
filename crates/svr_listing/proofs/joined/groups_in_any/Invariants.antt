use Rattle.std.proofs.Common.{◌≡◌, map, take}
use Rattle.svr_listing.specs.Joined.{any_at}
use Rattle.svr_listing.proofs.joined.groups_in_any.Given as goal

abbrev pub invariant-loop-key : goal.invariant-loop-key
invariant-loop-key l = l.groups.items ≡ map (λ key. record { key = key; ids = any_at key l.lists }) (take l.key-index l.key-items)
