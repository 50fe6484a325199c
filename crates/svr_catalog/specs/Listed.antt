-- The listing, with its merge, of a catalog's documents after a change of rows.
use Rattle.std.specs.Prelude.{ℕ, List, [], ◌∷◌}
use Rattle.svr_listing.specs.Served.{Served, after, change}
use Rattle.svr_rows.specs.declared.change.Change.TheVariants.{Insert}
use Rattle.svr_rows.specs.declared.row.Row.{Row}
use Rattle.svr_catalog.specs.Catalog.{Catalog, catalog_with, documents_in}

-- where a catalog's documents are listed, by where they were before the change that made it
abbrev pub listed_after : Catalog → Served → Served
listed_after now s = after s (change (documents_in now))

-- after a load of rows into a table, which acts as their inserts one after the other
unfoldable pub listed_with_rows : Catalog → Served → ℕ → List Row → Served
listed_with_rows c s at [] = s
listed_with_rows c s at (row ∷ rows) =
    listed_with_rows (catalog_with c (Insert at row)) (listed_after (catalog_with c (Insert at row)) s) at rows
