use Rattle.std.proofs.Common.{drop}
use Rattle.svr_lists.proofs.Taking.{IsTaking}
use Rattle.svr_lists.proofs.taken.take_all.Given as goal

abbrev pub invariant-loop-term : goal.invariant-loop-term
invariant-loop-term l = IsTaking l.fn.run l.run l.terms (drop l.term-index l.terms) l.pages l.rest l.at l.here
