use Rattle.std.proofs.Common.{◌≡◌, rules}
use Rattle.svr_listing.specs.Layout.{with_pair_keys}
use Rattle.svr_listing.specs.Listing.{held, posted}
use Rattle.svr_listing.specs.Plain.{listing_of}
use Rattle.svr_listing.proofs.Computing.{keys-step}
use Rattle.svr_listing.proofs.listing.PlainListing.+keys.Goals as goal

pub returns : goal.returns
returns t c =
    let l = listing_of c.args.self.now in
    let first : c.insert_pair_keys.new.keys.items
    ≡ with_pair_keys (held (listing_of c.args.self.now) c.in-Some.term.now) c.in_ok-found.found.items =
    search rules in
    let second : c.insert_pair_keys-2.new.keys.items
    ≡ with_pair_keys (posted (listing_of c.args.self.now) c.in-Some.term.now) c.insert_pair_keys.new.keys.items =
    search rules in
    keys-step l c.args.terms.now c.in-Some.term.now c.in-Some.rest.now c.in_ok-found.found.items c.insert_pair_keys.new.keys.items
    c.insert_pair_keys-2.new.keys.items c.in-Some.ensures.cases c.in_ok-found.ensures first second
