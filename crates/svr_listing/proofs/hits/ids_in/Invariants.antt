use Rattle.std.proofs.Common.{◌≡◌, take}
use Rattle.svr_listing.specs.Groups.{ids_in}
use Rattle.svr_listing.proofs.hits.ids_in.Given as goal

abbrev pub invariant-loop-group : goal.invariant-loop-group
invariant-loop-group l = l.ids.items ≡ ids_in (take l.group-index l.groups)
