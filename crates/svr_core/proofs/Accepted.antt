-- What a change that is not refused finds in the tables.
use Rattle.std.proofs.Common.{◌≡◌, ◌<◌, ◌≤◌, ◌+◌, ℕ, Bool, true, false, cond, nat_lt, List, [], ◌∷◌, length}
use Rattle.std.proofs.Common.{Option, Some, None, refl, arith}
use Rattle.std.specs.List.{All, AllByRecursion}
use Rattle.std.proofs.lemmas.Bool.Decides.{nat_tests}
use Rattle.std.proofs.lemmas.Option.{slice_get_within}
use Rattle.svr_schema.specs.declared.component.Cell.{Cell}
use Rattle.svr_schema.specs.declared.component.Cell.TheVariants as cell
use Rattle.svr_rows.specs.declared.change.Change.{Change}
use Rattle.svr_rows.specs.declared.change.Change.TheVariants.{Insert, Update, Delete}
use Rattle.svr_rows.specs.declared.row.Row.{Row}
use Rattle.svr_rows.specs.Changes.{refusal_of}
use Rattle.svr_rows.specs.Kept.{CanPut, IsTableRows}
use Rattle.svr_rows.specs.Rows.{TableRows, long_text_from}
use Rattle.svr_rows.proofs.Fits.{HasId-from_fits, length-lawful}
use Rattle.svr_rows.proofs.Sums.{IsTableRows-at}
use Rattle.svr_rows.proofs.Tested.{CanPut-insert, CanPut-update, IsLawfulRow-from_none}
use Rattle.svr_record.specs.Limits.{CellFits, ChangeFits, RowFits}
use Rattle.svr_core.specs.Steps.{DeletesId}

-- ---- rows that a record may hold

past_fault : (b : Bool) (rest : Option ℕ) (place : ℕ) → cond b (Some place) rest ≡ None → (b ≡ false) × (rest ≡ None)
past_fault true rest place h = absurd (let e : Some place ≡ None = h in cc)
past_fault false rest place h = (refl, h)

cells-short : (start : ℕ) (cells : List Cell) → long_text_from start cells ≡ None → AllByRecursion CellFits cells
unfolding long_text_from
cells-short start [] h = tt
cells-short start (cell.Int n ∷ cells) h = (tt, cells-short (start + 1) cells h)
cells-short start (cell.Text t ∷ cells) h =
    let apart = past_fault (nat_lt 65536 (length t)) (long_text_from (start + 1) cells) start h in
    let few : length t ≤ 65536 = grind (arith, nat_tests, apart.0) in
    (few, cells-short (start + 1) cells apart.1)

RowFits-put : (tables : List TableRows) (place : ℕ) (row : Row) → All IsTableRows tables → CanPut tables place row → RowFits row
RowFits-put tables place row lawful h =
    let columns = (IsTableRows-at tables place h.table lawful h.there).columns in
    let fits = IsLawfulRow-from_none h.table row h.fits in
    record {
      few = length-lawful h.table.kinds row columns fits.fits;
      id = HasId-from_fits h.table.kinds row columns fits.fits;
      cells = cells-short 0 row.cells fits.short;
    }

pub ChangeFits-accepted : (tables : List TableRows) (change : Change) → All IsTableRows tables → refusal_of tables change ≡ None
    → DeletesId change → ChangeFits change
ChangeFits-accepted tables (Insert place row) lawful h deletes = RowFits-put tables place row lawful (CanPut-insert tables place row h)
ChangeFits-accepted tables (Update place row) lawful h deletes = RowFits-put tables place row lawful (CanPut-update tables place row h)
ChangeFits-accepted tables (Delete place id) lawful h deletes = deletes

pub place-put : (tables : List TableRows) (place : ℕ) (row : Row) → CanPut tables place row → place < length tables
place-put tables place row h = slice_get_within tables place h.table h.there
