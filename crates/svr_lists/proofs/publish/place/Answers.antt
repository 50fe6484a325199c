use Rattle.std.proofs.Common.{ℕ, List, subst}
use Rattle.svr_index.specs.Index.{Places}
use Rattle.svr_lists.proofs.Publishing.{places-moved}
use Rattle.svr_lists.proofs.publish.place.Goals as goal

pub returns-in_ok-place_moved-in-Some-true-clause-places : goal.returns-in_ok-place_moved-in-Some-true-clause-places
returns-in_ok-place_moved-in-Some-true-clause-places g c =
    places-moved c.args.index.now c.place_moved.new.self c.args.document.now
    (subst (λ (ts : List (List ℕ)). Places c.args.index.now c.place_moved.new.self c.args.document.now.id ts)
    c.in_ok-terms-in-Some-true.ensures.value c.in_ok-place_moved-in-Some-true.ensures.places)
