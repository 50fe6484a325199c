use Rattle.std.proofs.Common.{sym, arith}
use Rattle.svr_listing.proofs.Computing.{with_id-new, with_id-there}
use Rattle.svr_listing.proofs.joined.new_place_of_id.Goals.{else-at-ids-via-then-at-ids+else-ids-at, else-at-ids-via-else-at-ids}
use Rattle.svr_listing.proofs.joined.new_place_of_id.Goals as goal

pub returns-then-ids-at-clause-there : goal.returns-then-ids-at-clause-there
returns-then-ids-at-clause-there c =
    sym (with_id-there c.args.id c.args.ids.now c.place_of_id-at.result c.place_of_id-at.ensures.value
    c.if-at-ids.true c.if-ids-at.true)

pub returns-else-at-ids-clause-new : goal.returns-else-at-ids-clause-new
returns-else-at-ids-clause-new c =
    sym (with_id-new c.args.id c.args.ids.now c.place_of_id-at.result c.place_of_id-at.ensures.value
    (λ lt. elim c.else-at-ids.branch [
      | else-at-ids-via-then-at-ids+else-ids-at w ↦ w.if-ids-at.false
      | else-at-ids-via-else-at-ids w ↦ absurd (omega arith)
    ]))
