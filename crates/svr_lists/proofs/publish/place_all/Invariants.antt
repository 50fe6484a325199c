use Rattle.std.proofs.Common.{◌≤◌, length, drop}
use Rattle.svr_index.specs.Index.{KeepsEntries}
use Rattle.svr_lists.specs.Layout.{PlacesThese}
use Rattle.svr_lists.proofs.publish.place_all.Given as goal

abbrev pub invariant-loop-at : goal.invariant-loop-at
invariant-loop-at g l = record {
  within : l.at ≤ length l.fn.documents;
  places : PlacesThese l.fn.index l.index l.fn.documents (drop l.at l.fn.documents);
  kept : KeepsEntries l.fn.index l.index;
}

abbrev pub decreases-loop-at : goal.decreases-loop-at
decreases-loop-at g l = l.at
