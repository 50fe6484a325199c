use Rattle.std.proofs.Common.{◌≡◌, take}
use Rattle.std.specs.List.{filter_map}
use Rattle.svr_merge.specs.Images.{pair_by}
use Rattle.svr_merge.proofs.pages.pairs_in.Given as goal

abbrev pub invariant-loop-id : goal.invariant-loop-id
invariant-loop-id l = l.pairs.items ≡ filter_map (pair_by l.keys) (take l.id-index l.ids)
