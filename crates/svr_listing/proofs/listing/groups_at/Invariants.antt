use Rattle.std.proofs.Common.{◌≡◌, take}
use Rattle.svr_listing.specs.Listing.{groups_by, matches}
use Rattle.svr_listing.proofs.listing.groups_at.Given as goal

abbrev pub invariant-loop-key : goal.invariant-loop-key
invariant-loop-key l = l.groups.items ≡ groups_by l.documents (λ d. matches l.mode l.terms d.document) (take l.key-index l.keys)
