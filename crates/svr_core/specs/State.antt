-- What is served, and the state of it and its journal.
use Rattle.std.specs.Prelude.{◌≡◌, ◌⊎◌, ℕ, Bool, true, List, Option, None}
use Rattle.svr_catalog.specs.Catalog.{Catalog}
use Rattle.svr_listing.specs.Methods.{id_rules}
use Rattle.svr_listing.specs.Served as listing

-- a schema with the rows of its tables, once it is set; where its documents are listed; how many changes were accepted; and whether each
-- slice among its records was the next one of its merge
pub record Served : Type 0 where
  pub catalog : Option Catalog
  pub listed : listing.Served
  pub changes : ℕ
  pub lawful : Bool

-- what is served, and the bodies of its journal's records, the oldest first
pub record State : Type 0 where
  pub served : Served
  pub bodies : List (List ℕ)

-- nothing was accepted
abbrev pub empty : Served
empty = record { catalog = None; listed = listing.nothing_listed id_rules; changes = 0; lawful = true }

-- without the merge that is begun, if one is
abbrev pub settled : Served → Served
settled s = record s { listed = listing.after s.listed listing.merge_forgotten }

-- the same is served, or the first with a merge that is begun, and the other without it
abbrev pub IsWithMerge : Served → Served → Type 0
IsWithMerge r s = (s ≡ settled r) ⊎ (r ≡ s)
