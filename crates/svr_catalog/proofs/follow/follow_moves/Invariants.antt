use Rattle.std.proofs.Common.{◌≡◌, take}
use Rattle.svr_lists.specs.Lists.{last_in}
use Rattle.svr_rows.specs.Changes.{changed}
use Rattle.svr_catalog.specs.Layout.{IsMidway, documents_from}
use Rattle.svr_catalog.proofs.Moves.{seen_in}
use Rattle.svr_catalog.proofs.follow.follow_moves.Given as goal

-- the documents of the moves so far are halfway, and the last sliced term is that of before
abbrev pub invariant-loop-to : goal.invariant-loop-to
invariant-loop-to g l =
    IsMidway (documents_from l.schema l.tables) (documents_from l.schema (changed l.tables l.change)) (seen_in (take l.to-index l.moves))
    l.fn.lists l.lists
    × (last_in l.lists ≡ last_in l.fn.lists)
