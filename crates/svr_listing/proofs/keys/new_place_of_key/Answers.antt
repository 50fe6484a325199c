use Rattle.std.proofs.Common.{sym, arith}
use Rattle.svr_listing.proofs.Computing.{with_key-new, with_key-there}
use Rattle.svr_listing.proofs.keys.new_place_of_key.Goals.{else-at-keys-via-then-at-keys+else-keys-at, else-at-keys-via-else-at-keys}
use Rattle.svr_listing.proofs.keys.new_place_of_key.Goals as goal

pub returns-then-keys-at-clause-there : goal.returns-then-keys-at-clause-there
returns-then-keys-at-clause-there c =
    sym (with_key-there c.args.key c.args.keys.now c.place_of_key-at.result c.place_of_key-at.ensures.value
    c.if-at-keys.true c.if-keys-at.true)

pub returns-else-at-keys-clause-new : goal.returns-else-at-keys-clause-new
returns-else-at-keys-clause-new c =
    sym (with_key-new c.args.key c.args.keys.now c.place_of_key-at.result c.place_of_key-at.ensures.value
    (λ lt. elim c.else-at-keys.branch [
      | else-at-keys-via-then-at-keys+else-keys-at w ↦ w.if-keys-at.false
      | else-at-keys-via-else-at-keys w ↦ absurd (omega arith)
    ]))
