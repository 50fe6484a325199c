use Rattle.std.proofs.Common.{◌+◌, ◌-◌, ◌≤◌, ◌^◌, vec_len}
use Rattle.svr_idmap.specs.Layout.{KeepsEntries}
use Rattle.svr_idmap.proofs.dense.make_place.Given as goal

abbrev pub invariant-loop-values : goal.invariant-loop-values
invariant-loop-values g l = (vec_len l.values ≤ 2 ^ 18) × KeepsEntries l.initial.values.items l.values.items

abbrev pub decreases-loop-values : goal.decreases-loop-values
decreases-loop-values g l = l.id + 1 - vec_len l.values
