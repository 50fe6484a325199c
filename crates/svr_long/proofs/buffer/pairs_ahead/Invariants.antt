use Rattle.std.proofs.Common.{◌≡◌, ◌≤◌, length, take}
use Rattle.svr_postpage.specs.Pages.{pairs_of}
use Rattle.svr_long.specs.Cursor.{kept}
use Rattle.svr_long.proofs.buffer.pairs_ahead.Given as goal

abbrev pub invariant-loop-end : goal.invariant-loop-end
invariant-loop-end l = record {
  within : l.end ≤ length (pairs_of l.bytes);
  ahead : kept l.pages (take l.end (pairs_of l.bytes)) ≡ kept l.pages (pairs_of l.bytes);
}

abbrev pub decreases-loop-end : goal.decreases-loop-end
decreases-loop-end l = l.end
