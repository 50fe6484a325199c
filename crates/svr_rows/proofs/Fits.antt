-- Cells against columns.
use Rattle.std.proofs.Common.{◌≡◌, ℕ, suc, ◌+◌, ◌≤◌, ◌==◌, ◌*◌, if◌then◌else◌, cond, min}
use Rattle.std.proofs.Common.{length, Bool, true, false, not, List, [], ◌∷◌, map, zip, position, Option, Some, None}
use Rattle.std.proofs.Common.{pos, negsuc, nat_lt, codes, refl, sym, ap, ap₂, ◌∙◌, add-one, zero-add, arith}
use Rattle.std.specs.Option.{option_or}
use Rattle.std.specs.List.{filter_map, position_from, sum_by}
use Rattle.std.proofs.lemmas.Bool.{and_parts, false≢true}
use Rattle.std.proofs.lemmas.Bool.Decides.{nat_tests}
use Rattle.std.proofs.lemmas.Iterator.Adapters.{position_from-zero}
use Rattle.std.proofs.lemmas.List.{length-map}
use Rattle.std.proofs.lemmas.Map.Keys.{sorted_from_strictly_increasing}
use Rattle.std.specs.Str.{bytes_eq}
use Rattle.std.proofs.lemmas.List.Sums.{sum_by-cons}
use Rattle.svr_schema.specs.declared.component.Cell.{Cell}
use Rattle.svr_schema.specs.declared.component.Cell.TheVariants as cell
use Rattle.svr_schema.specs.declared.table.ColumnKind.{ColumnKind}
use Rattle.svr_schema.specs.declared.table.ColumnKind.TheVariants as kind
use Rattle.svr_rows.specs.declared.row.Row.{Row}
use Rattle.svr_rows.specs.declared.row.Given.{Given}
use Rattle.svr_rows.specs.declared.row.Given.TheVariants as given
use Rattle.svr_schema.specs.declared.table.Column.{Column}
use Rattle.svr_schema.specs.declared.table.Table.{Table}
use Rattle.svr_schema.specs.Lookups.{is_kind}
use Rattle.svr_schema.specs.Lawful.{IsTable, begins_with_id}
use Rattle.svr_rows.specs.Rows.{HasId, IsRowOf, bad_column, begins_negative, cell_bytes, cell_in, fits, kinds_of, long_text_from}
use Rattle.svr_rows.specs.Rows.{misfit_from, no_rows, row_bytes}
use Rattle.svr_rows.specs.Kept.{IsColumns, IsLawfulRow, IsTableRows}

-- ---- the first misfit, by place

-- the fault of lists of m columns and n cells which fit as far as both go, counted on from start
abbrev pub ending_from : ℕ → ℕ → ℕ → Option ℕ
ending_from start m n = if m == n then None else Some (start + min m n)

abbrev pub misfits : Option Cell → ColumnKind → Bool
misfits c k = not (fits c k)

ending_from-suc : (start m n : ℕ) → ending_from (start + 1) m n ≡ ending_from start (suc m) (suc n)
ending_from-suc start m n = rw (← add-one m, ← add-one n) (grind (arith, nat_tests))

ending_from-none : (start n : ℕ) → Some start ≡ ending_from start 0 (n + 1)
ending_from-none start n = grind (arith, nat_tests)

ending_from-short : (start m : ℕ) → Some start ≡ ending_from start (m + 1) 0
ending_from-short start m = grind (arith, nat_tests)

module _ {A B : Type 0} (kind_of : A → ColumnKind) (cell_of : B → Option Cell) where
  step : (b : Bool) (start : ℕ) (found rest : Option ℕ)
      → option_or (cond (not b) (Some start) found) rest ≡ cond b (option_or found rest) (Some start)
  step true start found rest = refl
  step false start found rest = refl

  pub misfit_from-zip : (start : ℕ) (xs : List A) (ys : List B) → misfit_from start (map kind_of xs) (map cell_of ys)
      ≡ option_or (position_from (λ p. misfits (cell_of p.1) (kind_of p.0)) start (zip xs ys)) (ending_from start (length xs) (length ys))
  unfolding misfit_from
  misfit_from-zip start [] [] = refl
  misfit_from-zip start [] (y ∷ ys) = rw (← add-one (length ys)) (ending_from-none start (length ys))
  misfit_from-zip start (x ∷ xs) [] = rw (← add-one (length xs)) (ending_from-short start (length xs))
  misfit_from-zip start (x ∷ xs) (y ∷ ys) =
      ap (λ r. cond (fits (cell_of y) (kind_of x)) r (Some start))
      (misfit_from-zip (start + 1) xs ys
      ∙ ap (λ e. option_or (position_from (λ p. misfits (cell_of p.1) (kind_of p.0)) (start + 1) (zip xs ys)) e)
      (ending_from-suc start (length xs) (length ys)))
      ∙ sym (step (fits (cell_of y) (kind_of x)) start (position_from (λ p. misfits (cell_of p.1) (kind_of p.0)) (start + 1) (zip xs ys))
      (ending_from start (suc (length xs)) (suc (length ys))))

  pub bad_column-zip : (xs : List A) (ys : List B) (found : Option ℕ) → begins_negative (map cell_of ys) ≡ false
      → found ≡ position (λ p. misfits (cell_of p.1) (kind_of p.0)) (zip xs ys)
      → bad_column (map kind_of xs) (map cell_of ys)
      ≡ option_or found (if length xs == length ys then None else Some (min (length xs) (length ys)))
  bad_column-zip xs ys found positive e =
      ap (λ b. cond b (Some 0) (misfit_from 0 (map kind_of xs) (map cell_of ys))) positive
      ∙ misfit_from-zip 0 xs ys
      ∙ ap₂ (λ f n. option_or f (if length xs == length ys then None else Some n))
      (sym (position_from-zero (λ p. misfits (cell_of p.1) (kind_of p.0)) (zip xs ys)) ∙ sym e) (zero-add (min (length xs) (length ys)))

pub map-same : {A : Type 0} (xs : List A) → map (λ x. x) xs ≡ xs
map-same [] = refl
map-same (x ∷ xs) = ap (λ ys. x ∷ ys) (map-same xs)

-- ---- long texts

pub long_text_from-position : (start : ℕ) (cells : List Cell)
    → long_text_from start cells ≡ position_from (λ c. nat_lt 65536 (cell_bytes c)) start cells
unfolding long_text_from
long_text_from-position start [] = refl
long_text_from-position start (cell.Int n ∷ cells) = long_text_from-position (start + 1) cells
long_text_from-position start (cell.Text t ∷ cells) = ap (λ r. cond (nat_lt 65536 (length t)) (Some start) r)
    (long_text_from-position (start + 1) cells)

pub long_text_from-zero : (cells : List Cell) (found : Option ℕ) → found ≡ position (λ c. nat_lt 65536 (cell_bytes c)) cells
    → long_text_from 0 cells ≡ found
long_text_from-zero cells found e = long_text_from-position 0 cells ∙ sym (position_from-zero (λ c. nat_lt 65536 (cell_bytes c)) cells)
    ∙ sym e

-- ---- what a row that fits is

past_test : (b : Bool) (rest : Option ℕ) (place : ℕ) → cond b rest (Some place) ≡ None → (b ≡ true) × (rest ≡ None)
past_test true rest place h = (refl, h)
past_test false rest place h = absurd (let e : Some place ≡ None = h in cc)

past_fault : (b : Bool) (rest : Option ℕ) (place : ℕ) → cond b (Some place) rest ≡ None → (b ≡ false) × (rest ≡ None)
past_fault true rest place h = absurd (let e : Some place ≡ None = h in cc)
past_fault false rest place h = (refl, h)

length-fitting : (start : ℕ) (kinds : List ColumnKind) (cells : List (Option Cell)) → misfit_from start kinds cells ≡ None
    → length cells ≡ length kinds
unfolding misfit_from
length-fitting start [] [] h = refl
length-fitting start [] (c ∷ cells) h = absurd (let e : Some start ≡ None = h in cc)
length-fitting start (k ∷ kinds) [] h = absurd (let e : Some start ≡ None = h in cc)
length-fitting start (k ∷ kinds) (c ∷ cells) h = ap suc
    (length-fitting (start + 1) kinds cells (past_test (fits c k) (misfit_from (start + 1) kinds cells) start h).1)

id_cell : (others : List ColumnKind) (cells : List Cell) → begins_negative (map Some cells) ≡ false
    → misfit_from 0 (kind.Int ∷ others) (map Some cells) ≡ None
    → (n : ℕ) × (rest : List Cell) × (cells ≡ cell.Int (pos n) ∷ rest)
unfolding misfit_from
id_cell others [] positive h = absurd (let e : Some 0 ≡ None = h in cc)
id_cell others (cell.Int (pos n) ∷ cells) positive h = (n, cells, refl)
id_cell others (cell.Int (negsuc n) ∷ cells) positive h = absurd (false≢true (sym positive))
id_cell others (cell.Text t ∷ cells) positive h = absurd (let e : Some 0 ≡ None = h in cc)

pub HasId-from_fits : (kinds : List ColumnKind) (row : Row) → IsColumns kinds → IsRowOf kinds row → HasId row
HasId-from_fits kinds row columns h =
    let apart = past_fault (begins_negative (map Some row.cells)) (misfit_from 0 kinds (map Some row.cells)) 0 h in
    id_cell columns.others row.cells apart.0 (rw columns.id_first at apart.1)

-- ---- how many bytes it has

bytes-short : (start : ℕ) (cells : List Cell) → long_text_from start cells ≡ None → sum_by cell_bytes cells ≤ length cells * 65536
unfolding long_text_from
bytes-short start [] h = omega arith
bytes-short start (cell.Int n ∷ cells) h =
    let rest = bytes-short (start + 1) cells h in
    rw (sum_by-cons cell_bytes (cell.Int n) cells) (omega (arith, rest))
bytes-short start (cell.Text t ∷ cells) h =
    let apart = past_fault (nat_lt 65536 (length t)) (long_text_from (start + 1) cells) start h in
    let rest = bytes-short (start + 1) cells apart.1 in
    let few : length t ≤ 65536 = grind (arith, nat_tests, apart.0) in
    rw (sum_by-cons cell_bytes (cell.Text t) cells) (omega (arith, rest, few))

pub length-lawful : (kinds : List ColumnKind) (row : Row) → IsColumns kinds → IsRowOf kinds row → length row.cells ≤ 8
length-lawful kinds row columns h =
    let apart = past_fault (begins_negative (map Some row.cells)) (misfit_from 0 kinds (map Some row.cells)) 0 h in
    omega (arith, length-fitting 0 kinds (map Some row.cells) apart.1, length-map row.cells (λ c. Some c), columns.few)

pub row_bytes-lawful : (kinds : List ColumnKind) (row : Row) → IsColumns kinds → IsLawfulRow kinds row → row_bytes row ≤ 524288
row_bytes-lawful kinds row columns h = omega (arith, bytes-short 0 row.cells h.short, length-lawful kinds row columns h.fits)

-- ---- a row made of values

cells-fitting : (start : ℕ) (kinds : List ColumnKind) (values : List Given) → misfit_from start kinds (map cell_in values) ≡ None
    → map Some (filter_map cell_in values) ≡ map cell_in values
unfolding misfit_from
cells-fitting start [] [] h = refl
cells-fitting start [] (v ∷ values) h = absurd (let e : Some start ≡ None = h in cc)
cells-fitting start (k ∷ kinds) [] h = refl
cells-fitting start (k ∷ kinds) (given.Int n ∷ values) h =
    ap (λ cs. Some (cell.Int n) ∷ cs)
    (cells-fitting (start + 1) kinds values
    (past_test (fits (Some (cell.Int n)) k) (misfit_from (start + 1) kinds (map cell_in values)) start h).1)
cells-fitting start (k ∷ kinds) (given.Text t ∷ values) h =
    ap (λ cs. Some (cell.Text t) ∷ cs)
    (cells-fitting (start + 1) kinds values
    (past_test (fits (Some (cell.Text t)) k) (misfit_from (start + 1) kinds (map cell_in values)) start h).1)
cells-fitting start (k ∷ kinds) (given.Other ∷ values) h = absurd (let e : Some start ≡ None = h in cc)

pub cells-made : (kinds : List ColumnKind) (values : List Given) → bad_column kinds (map cell_in values) ≡ None
    → map Some (filter_map cell_in values) ≡ map cell_in values
cells-made kinds values h = cells-fitting 0 kinds values
    (past_fault (begins_negative (map cell_in values)) (misfit_from 0 kinds (map cell_in values)) 0 h).1

-- ---- the columns of a table

is_int : (k : ColumnKind) → is_kind k kind.Int ≡ true → k ≡ kind.Int
is_int kind.Int h = refl
is_int kind.Text h = absurd (false≢true h)

id_kind : (columns : List Column) → begins_with_id columns ≡ true
    → (others : List ColumnKind) × (map (λ c. c.kind) columns ≡ kind.Int ∷ others)
unfolding begins_with_id
id_kind [] h = absurd (false≢true h)
id_kind (c ∷ columns) h =
    let int = is_int c.kind (and_parts (bytes_eq c.name (codes "id")) (is_kind c.kind kind.Int) h).1 in
    (map (λ c. c.kind) columns, ap (λ k. k ∷ map (λ c. c.kind) columns) int)

pub IsColumns-from_table : (t : Table) → IsTable t → IsColumns (kinds_of t)
IsColumns-from_table t h =
    let first = id_kind t.columns h.id_first in
    record { others = first.0; id_first = first.1; few = omega (arith, length-map t.columns (λ c. c.kind), h.few) }

pub IsTableRows-no_rows : (t : Table) → IsTable t → IsTableRows (no_rows t)
IsTableRows-no_rows t h = record {
  columns = IsColumns-from_table t h;
  ascending = sorted_from_strictly_increasing []
      (λ k i. absurd (omega (arith, i)));
  lawful = λ k d i. absurd (omega (arith, i));
  few = omega arith;
}
