-- A change leaves as many tables as there were.
use Rattle.std.proofs.Common.{◌≡◌, ◌∙◌, ap, ℕ, zero, suc, List, [], ◌∷◌, length, refl, arith, Result, Ok, Err, OnOk, OnErr}
use Rattle.svr_rows.specs.declared.change.Change.{Change}
use Rattle.svr_rows.specs.declared.change.Change.TheVariants.{Insert, Update, Delete}
use Rattle.svr_rows.specs.declared.row.Row.{Row}
use Rattle.svr_rows.specs.Changes.{changed, with_rows}
use Rattle.svr_rows.specs.Rows.{TableRows, rows_in, with_row, without_row}

pub length-with_rows : (tables : List TableRows) (at : ℕ) (rows : List Row) → length (with_rows tables at rows) ≡ length tables
unfolding with_rows
length-with_rows [] at rows = refl
length-with_rows (t ∷ tables) zero rows = refl
length-with_rows (t ∷ tables) (suc at) rows = omega (arith, length-with_rows tables at rows)

pub length-changed : (tables : List TableRows) (change : Change) → length (changed tables change) ≡ length tables
length-changed tables (Insert at row) = length-with_rows tables at (with_row (rows_in tables at) row)
length-changed tables (Update at row) = length-with_rows tables at (with_row (rows_in tables at) row)
length-changed tables (Delete at id) = length-with_rows tables at (without_row (rows_in tables at) id)

pub as_many-apply : {T E : Type 0} (old new : List TableRows) (change : Change) (result : Result T E)
    → OnOk result (new ≡ changed old change) → OnErr result (new ≡ old) → length old ≡ 2 → length new ≡ 2
as_many-apply old new change (Ok x) changed same two = ap length changed ∙ length-changed old change ∙ two
as_many-apply old new change (Err e) changed same two = ap length same ∙ two
