use Rattle.std.proofs.Common.{ap₂, ◌∙◌}
use Rattle.svr_listing.specs.Layout.{with_keys}
use Rattle.svr_listing.proofs.Computing.{keys_in-first}
use Rattle.svr_listing.proofs.joined.+keys_in.Goals as goal

pub returns : goal.returns
returns t c =
    c.in_ok-insert_keys.ensures
    ∙ ap₂ with_keys c.as_slice.ensures c.in_ok-keys.ensures
    ∙ keys_in-first c.args.lists.now c.in-Some.list.now c.in-Some.rest.now c.in-Some.ensures.cases
