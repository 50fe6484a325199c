-- What a core keeps, and what is served by it.
use Rattle.std.specs.Prelude.{◌≡◌, ℕ, true, List, Option, option_map}
use Rattle.std.specs.Option.{ForSome, option_and_then}
use Rattle.svr_lists.specs.Lists.{last_in}
use Rattle.svr_catalog.specs.Catalog.{Catalog}
use Rattle.svr_catalog.specs.Stands.{CatalogValue, Stands}
use Rattle.svr_core.specs.State.{Served}

-- a catalog with its lists, once a schema is set, and how many changes were accepted
pub record CoreValue : Type 0 where
  pub kept : Option CatalogValue
  pub changes : ℕ

-- the catalog that is set
abbrev pub catalog_of : CoreValue → Option Catalog
catalog_of core = option_map (λ v. v.catalog) core.kept

-- the last sliced term of the merge that is begun, if one is
abbrev pub last_of : CoreValue → Option (Option (List ℕ))
last_of core = option_and_then (λ v. last_in v.lists) core.kept

-- this is served by it: its catalog, its number of changes, how far the merge is, and, where each slice was the next one of its merge,
-- where its documents are listed
pub record ServesAs (core : CoreValue) (s : Served) : Type 0 where
  pub catalog : catalog_of core ≡ s.catalog
  pub changes : core.changes ≡ s.changes
  pub last : last_of core ≡ option_map (λ m. m.last) s.listed.merge
  pub lists : s.lawful ≡ true → ForSome core.kept (λ v. Stands v s.listed)
