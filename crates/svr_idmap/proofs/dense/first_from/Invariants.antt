use Rattle.std.proofs.Common.{◌≡◌, drop}
use Rattle.svr_idmap.specs.Layout.{entries_from}
use Rattle.svr_idmap.proofs.Walks.{entry_from, first_entry}
use Rattle.svr_idmap.proofs.dense.first_from.Given as goal

-- what stands from here on begins with what is looked for
abbrev pub invariant-loop-id : goal.invariant-loop-id
invariant-loop-id g l = entry_from l.from (entries_from 0 l.values) ≡ first_entry (entries_from l.id (drop l.id l.values))
