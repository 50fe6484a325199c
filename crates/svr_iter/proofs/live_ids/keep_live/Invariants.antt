use Rattle.svr_listing.specs.Joined.{is_in}
use Rattle.svr_iter.specs.Marks.{ids_of, live_ids}
use Rattle.svr_iter.proofs.KeptIds.{AreKept, IsPassed}
use Rattle.svr_iter.proofs.live_ids.keep_live.Given as goal

abbrev pub invariant-loop-at : goal.invariant-loop-at
invariant-loop-at g l = record {
  kept : AreKept (λ id. is_in id (live_ids (g.K.KeySource.entry l.keys) l.key l.marks l.posted)) l.fn.ids.items l.at l.kept l.ids.items;
  posted : IsPassed l.posted l.i l.fn.ids.items l.at;
  marked : IsPassed (ids_of l.marks) l.j l.fn.ids.items l.at;
}
