use Rattle.std.proofs.Common.{ℕ, ◌-◌, ◌≤◌, ◌<◌, length, slice_index}
use Rattle.svr_iter.proofs.ids.place_between.Given as goal

abbrev pub invariant-loop-low : goal.invariant-loop-low
invariant-loop-low l = record {
  ordered : l.low ≤ l.high;
  within : l.high ≤ length l.ids;
  below : (j : ℕ) → j < l.low → slice_index l.ids j < l.id;
  at : l.high < length l.ids → l.id ≤ slice_index l.ids l.high;
}

abbrev pub decreases-loop-low : goal.decreases-loop-low
decreases-loop-low l = l.high - l.low
