use Rattle.std.proofs.Common.{◌≡◌, ◌+◌, ◌*◌, ◌≤◌, ◌++◌, length, take, flat_map}
use Rattle.svr_request.specs.Replies.{more_text}
use Rattle.svr_request.proofs.print.print_more.Given as goal

abbrev pub invariant-loop-hit : goal.invariant-loop-hit
invariant-loop-hit l =
    (l.into ≡ l.fn.into ++ flat_map more_text (take l.hit-index l.hits)) × (length l.into ≤ length l.fn.into + 44 * l.hit-index)
