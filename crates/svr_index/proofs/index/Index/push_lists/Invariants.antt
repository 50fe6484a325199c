use Rattle.std.proofs.Common.{◌++◌, ℕ, List, slice_range}
use Rattle.svr_index.specs.Layout.{AreListsOf}
use Rattle.svr_index.proofs.index.Index.push_lists.Given as goal

abbrev pub invariant-loop-i : goal.invariant-loop-i
invariant-loop-i l = (before : List (List ℕ)) → AreListsOf l.self before l.initial.lists.items
    → AreListsOf l.self (before ++ slice_range l.terms l.from l.i) l.lists.items
