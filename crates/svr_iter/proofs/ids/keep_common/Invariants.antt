use Rattle.svr_listing.specs.Joined.{is_in}
use Rattle.svr_iter.proofs.KeptIds.{AreKept, IsPassed}
use Rattle.svr_iter.proofs.ids.keep_common.Given as goal

abbrev pub invariant-loop-at : goal.invariant-loop-at
invariant-loop-at l = record {
  kept : AreKept (λ id. is_in id l.others) l.fn.ids.items l.at l.kept l.ids.items;
  passed : IsPassed l.others l.place l.fn.ids.items l.at;
}
