-- What the plain program's values stand for.
use Rattle.std.specs.Prelude.{◌≤◌, ⊤}
use Rattle.svr_listing.specs.Methods.{Rules, chunk_rules, id_rules, score_rules, threshold_rules}
use Rattle.svr_listing.specs.Listing.{Listing}
use Rattle.svr_listing.specs.declared.listing.PlainListing.{PlainListing}
use Rattle.svr_listing.specs.declared.method.ListingMethod.{ListingMethod}
use Rattle.svr_listing.specs.declared.method.ListingMethod.TheVariants as method

-- the rules of a method
abbrev pub rules_of : ListingMethod → Rules
rules_of method.Id = id_rules
rules_of method.Score = score_rules
rules_of (method.Threshold num den) = threshold_rules num den
rules_of (method.Chunk bounds) = chunk_rules bounds

-- the ratio of a threshold has a divisor
abbrev pub HasDivisor : ListingMethod → Type 0
HasDivisor (method.Threshold num den) = 1 ≤ den
HasDivisor _ = ⊤

-- the listing that a plain one is
abbrev pub listing_of : PlainListing → Listing
listing_of plain = record { rules = rules_of plain.method; documents = plain.documents; lists = plain.lists }
