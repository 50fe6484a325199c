-- What a catalog is to its callers, and which listing, with its merge, it stands for.
use Rattle.std.specs.Prelude.{◌≡◌}
use Rattle.svr_listing.specs.Listing.{documents_of}
use Rattle.svr_listing.specs.Served.{IsServed, Served}
use Rattle.svr_lists.specs.Lists.{ListsValue, StandsForServed}
use Rattle.svr_tokens.specs.Tokens.{tokens_of}
use Rattle.svr_catalog.specs.Catalog.{Catalog, documents_in}

-- a schema with its rows, and the lists of the documents that they make
pub record CatalogValue : Type 0 where
  pub catalog : Catalog
  pub lists : ListsValue

-- the lists are those of a listing of the documents, with its merge
pub record Stands (v : CatalogValue) (s : Served) : Type 0 where
  pub served : IsServed tokens_of s
  pub documents : documents_of s.listing ≡ documents_in v.catalog
  pub lists : StandsForServed v.lists s
