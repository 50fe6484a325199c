use Rattle.std.proofs.Common.{ℕ, ◌-◌, ◌≤◌, ◌<◌, length, slice_index}
use Rattle.svr_iter.proofs.ids.place_of.Given as goal

abbrev pub invariant-loop-low : goal.invariant-loop-low
invariant-loop-low l = record {
  within : l.low ≤ length l.ids;
  some : 1 ≤ l.ahead;
  below : (j : ℕ) → j < l.low → slice_index l.ids j < l.id;
}

abbrev pub decreases-loop-low : goal.decreases-loop-low
decreases-loop-low l = length l.ids - l.low
