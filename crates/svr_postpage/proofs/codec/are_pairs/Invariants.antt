use Rattle.std.proofs.Common.{◌≡◌, ◌+◌, ◌*◌, ◌-◌, None, drop}
use Rattle.svr_postpage.specs.Layout.{are_pairs}
use Rattle.svr_postpage.specs.Pages.{pairs_in_bytes}
use Rattle.svr_postpage.proofs.codec.are_pairs.Given as goal

abbrev pub invariant-loop-i : goal.invariant-loop-i
invariant-loop-i l =
    are_pairs l.last (pairs_in_bytes (l.count - l.i) (drop (4 + 16 * l.i) l.bytes)) ≡ are_pairs None (pairs_in_bytes l.count (drop 4 l.bytes))
