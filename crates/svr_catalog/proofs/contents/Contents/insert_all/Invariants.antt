use Rattle.std.proofs.Common.{◌≡◌, List, ◌++◌, reverse, vec_len}
use Rattle.svr_lists.specs.Lists.{last_in}
use Rattle.svr_rows.specs.declared.row.Row.{Row}
use Rattle.svr_rows.specs.Changes.{inserted}
use Rattle.svr_catalog.specs.Layout.{CarriesRows, IsCatalog}
use Rattle.svr_catalog.proofs.contents.Contents.insert_all.Given as goal

-- the rows in front of the rest are added
abbrev pub invariant-loop-row : goal.invariant-loop-row
invariant-loop-row g l =
    (front : List Row) × (front ++ reverse l.rest.items ≡ l.fn.rows.items)
    × (l.self.tables ≡ inserted l.fn.self.tables l.table front) × IsCatalog l.schema l.self
    × CarriesRows l.schema l.fn.self l.self l.table front × (last_in l.self.lists ≡ last_in l.fn.self.lists)

abbrev pub decreases-loop-row : goal.decreases-loop-row
decreases-loop-row g l = vec_len l.rest
