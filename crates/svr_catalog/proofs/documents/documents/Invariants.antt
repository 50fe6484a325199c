use Rattle.std.proofs.Common.{◌≡◌, ◌<◌, ◌≤◌, ◌++◌, length, map}
use Rattle.std.specs.List.{All}
use Rattle.svr_listing.specs.Methods.{greatest}
use Rattle.svr_lists.specs.Publish.{shown_row}
use Rattle.svr_rows.specs.Rows.{rows_above, rows_in}
use Rattle.svr_catalog.proofs.Shown.{row_shown}
use Rattle.svr_catalog.proofs.documents.documents.Given as goal

-- the documents so far, with those of the rows that are left, are all
abbrev pub invariant-loop-row : goal.invariant-loop-row
invariant-loop-row l =
    let rows = rows_in l.tables l.schema.text_table in
    (map shown_row l.documents.items ++ map (row_shown l.schema l.tables) (rows_above rows l.after) ≡ map (row_shown l.schema l.tables) rows)
    × All (λ d. d.id < 9223372036854775808) l.documents.items × All (λ d. d.score ≤ greatest) l.documents.items

abbrev pub decreases-loop-row : goal.decreases-loop-row
decreases-loop-row l = length (rows_above (rows_in l.tables l.schema.text_table) l.after)
