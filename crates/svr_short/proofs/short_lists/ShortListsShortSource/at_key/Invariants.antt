use Rattle.std.proofs.Common.{◌≡◌, ◌++◌, map}
use Rattle.svr_short.proofs.Marking.{marked}
use Rattle.svr_short.proofs.short_lists.ShortListsShortSource.at_key.Given as goal

abbrev pub invariant-loop-place : goal.invariant-loop-place
invariant-loop-place l = l.into.items ++ map marked l.place-iterator ≡ map marked l.initial.place-iterator
