use Rattle.std.proofs.Common.{◌≡◌, map, drop}
use Rattle.svr_iter.specs.Keys.{greater, greatest}
use Rattle.svr_match.proofs.taking.next_of.Given as goal

abbrev pub invariant-loop-list : goal.invariant-loop-list
invariant-loop-list g l = greater l.best (greatest (map g.P.Postings.next (drop l.list-index l.lists)))
    ≡ greatest (map g.P.Postings.next l.lists)
