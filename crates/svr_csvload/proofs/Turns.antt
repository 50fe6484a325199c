-- What each record adds to the rows of those before it.
use Rattle.std.proofs.Common.{ℤ, map, subst, ◌≡◌, ◌+◌, ℕ, Bool, true, false, cond, List, [], ◌∷◌, ◌++◌, length, filter_map}
use Rattle.std.proofs.Common.{Option, Some, None, option_map, Result, Ok, Err, append_assoc, length-append, refl, sym, ap, arith}
use Rattle.std.specs.Option.{is_none, option_and_then}
use Rattle.std.specs.List.{All, cons_option, position_from}
use Rattle.std.specs.Str.{is_utf8}
use Rattle.std.proofs.lemmas.List.Elements.{All-cons, All-nil, All-same}
use Rattle.svr_num.specs.Digits.{int_in}
use Rattle.svr_schema.specs.declared.component.Cell.{Cell}
use Rattle.svr_schema.specs.declared.component.Cell.TheVariants as cell
use Rattle.svr_schema.specs.declared.table.ColumnKind.TheVariants as kind
use Rattle.svr_schema.specs.declared.table.ColumnKind.{ColumnKind}
use Rattle.svr_rows.specs.declared.row.Row.{Row}
use Rattle.svr_rows.specs.Rows.{IsRowOf, begins_negative, fits, misfit_from}
use Rattle.svr_csvload.specs.Blocks.{bad_record, cells_in, field_cell, in_front, record_row, row_with, rows_in_records, rows_unless}

position_from-suc : {X : Type 0} (p : X → Bool) (i : ℕ) (xs : List X)
    → position_from p (i + 1) xs ≡ option_map (λ k. k + 1) (position_from p i xs)
position_from-suc p i [] = refl
position_from-suc p i (x ∷ xs) = elim (p x)
    as (λ b. cond b (Some (i + 1)) (position_from p (i + 1 + 1) xs)
    ≡ option_map (λ k. k + 1) (cond b (Some i) (position_from p (i + 1) xs))) [
      | true ↦ refl
      | false ↦ position_from-suc p (i + 1) xs
    ]

-- what records make behind those that made these rows
abbrev pub after : List Row → Result (List Row) ℕ → Result (List Row) ℕ
after rows (Ok more) = Ok (rows ++ more)
after rows (Err number) = Err (length rows + number)

pub after-start : (r : Result (List Row) ℕ) → r ≡ after [] r
after-start (Ok rows) = refl
after-start (Err n) = ap Err (omega arith)

pub after-after : (rows : List Row) (row : Row) (r : Result (List Row) ℕ) → after rows (after (row ∷ []) r) ≡ after (rows ++ row ∷ []) r
after-after rows row (Ok more) = ap Ok (sym (append_assoc rows (row ∷ []) more))
after-after rows row (Err n) = ap Err (simp length-append (omega arith))

pub rows_in_records-end : (kinds : List ColumnKind) → rows_in_records kinds [] ≡ Ok []
unfolding rows_in_records
rows_in_records-end kinds = refl

one_row : (row : Row) (more : List Row) (o : Option ℕ)
    → rows_unless (option_map (λ k. k + 1) o) (row ∷ more) ≡ after (row ∷ []) (rows_unless o more)
one_row row more None = refl
one_row row more (Some k) = ap Err (omega arith)

pub rows_in_records-row : (kinds : List ColumnKind) (r : List (List ℕ)) (rs : List (List (List ℕ))) (row : Row)
    → record_row kinds r ≡ Some row
    → rows_in_records kinds (r ∷ rs) ≡ after (row ∷ []) (rows_in_records kinds rs)
unfolding rows_in_records
rows_in_records-row kinds r rs row e =
    rw (e, position_from-suc (λ r. is_none (record_row kinds r)) 1 rs)
    (one_row row (filter_map (record_row kinds) rs) (bad_record kinds rs))

pub rows_in_records-bad : (kinds : List ColumnKind) (r : List (List ℕ)) (rs : List (List (List ℕ))) → record_row kinds r ≡ None
    → rows_in_records kinds (r ∷ rs) ≡ Err 1
unfolding rows_in_records
rows_in_records-bad kinds r rs e = rw e refl

-- each row that a record makes is one of the columns
fits-int : (o : Option ℤ) (c : Cell) → option_map (λ n. cell.Int n) o ≡ Some c → fits (Some c) kind.Int ≡ true
fits-int None c e = cc
fits-int (Some n) c e = let same : cell.Int n ≡ c = cc in rw (← same) refl

fits-text : (b : Bool) (f : List ℕ) (c : Cell) → cond b (Some (cell.Text f)) None ≡ Some c → fits (Some c) kind.Text ≡ true
fits-text false f c e = cc
fits-text true f c e = let same : cell.Text f ≡ c = cc in rw (← same) refl

fits-field : (k : ColumnKind) (f : List ℕ) (c : Cell) → field_cell k f ≡ Some c → fits (Some c) k ≡ true
fits-field kind.Int f c e = fits-int (int_in f) c e
fits-field kind.Text f c e = fits-text (is_utf8 f) f c e

one_fits : (k : ColumnKind) (kinds : List ColumnKind) (f : List ℕ) (more : Option (List Cell)) (cells : List Cell) (at : ℕ)
    → ((rest : List Cell) → more ≡ Some rest → misfit_from (at + 1) kinds (map Some rest) ≡ None)
    → (o : Option Cell) → field_cell k f ≡ o → in_front o more ≡ Some cells → misfit_from at (k ∷ kinds) (map Some cells) ≡ None
unfolding misfit_from
one_fits k kinds f (Some rest) cells at h (Some c) e g =
    let same : c ∷ rest ≡ cells = cc in
    rw (← same) (rw (fits-field k f c e) (h rest refl))
one_fits k kinds f None cells at h (Some c) e g = cc
one_fits k kinds f more cells at h None e g = cc

cells_in-fit : (kinds : List ColumnKind) (fields : List (List ℕ)) (cells : List Cell) (at : ℕ) → cells_in kinds fields ≡ Some cells
    → misfit_from at kinds (map Some cells) ≡ None
unfolding cells_in misfit_from
cells_in-fit [] [] cells at e = let same : [] ≡ cells = cc in rw (← same) refl
cells_in-fit [] (f ∷ fields) cells at e = cc
cells_in-fit (k ∷ kinds) [] cells at e = cc
cells_in-fit (k ∷ kinds) (f ∷ fields) cells at e =
    one_fits k kinds f (cells_in kinds fields) cells at (λ rest g. cells_in-fit kinds fields rest (at + 1) g) (field_cell k f) refl e

with_id : (kinds : List ColumnKind) (cells : List Cell) (row : Row) (b : Bool) → begins_negative (map Some cells) ≡ b
    → misfit_from 0 kinds (map Some cells) ≡ None → cond b None (Some (record { cells = cells })) ≡ Some row → IsRowOf kinds row
with_id kinds cells row true e h g = cc
with_id kinds cells row false e h g =
    let same : record { cells = cells } ≡ row = cc in
    subst (IsRowOf kinds) same (rw e h)

row_fits : (kinds : List ColumnKind) (o : Option (List Cell)) (row : Row)
    → ((cells : List Cell) → o ≡ Some cells → misfit_from 0 kinds (map Some cells) ≡ None)
    → option_and_then row_with o ≡ Some row → IsRowOf kinds row
row_fits kinds None row h e = cc
row_fits kinds (Some cells) row h e = with_id kinds cells row (begins_negative (map Some cells)) refl (h cells refl) e

pub IsRowOf-record_row : (kinds : List ColumnKind) (r : List (List ℕ)) (row : Row) → record_row kinds r ≡ Some row → IsRowOf kinds row
IsRowOf-record_row kinds r row e = row_fits kinds (cells_in kinds r) row (λ cells g. cells_in-fit kinds r cells 0 g) e

all_fit-next : (kinds : List ColumnKind) (r : List (List ℕ)) (more : List Row) (o : Option Row) → record_row kinds r ≡ o
    → All (IsRowOf kinds) more → All (IsRowOf kinds) (cons_option o more)
all_fit-next kinds r more None e h = h
all_fit-next kinds r more (Some row) e h = All-cons (IsRowOf kinds) row more (IsRowOf-record_row kinds r row e) h

all_fit : (kinds : List ColumnKind) (rs : List (List (List ℕ))) → All (IsRowOf kinds) (filter_map (record_row kinds) rs)
all_fit kinds [] = All-nil (IsRowOf kinds)
all_fit kinds (r ∷ rs) = all_fit-next kinds r (filter_map (record_row kinds) rs) (record_row kinds r) refl (all_fit kinds rs)

unless_ok : (o : Option ℕ) (all rows : List Row) → rows_unless o all ≡ Ok rows → rows ≡ all
unless_ok None all rows e = cc
unless_ok (Some n) all rows e = cc

pub rows_in_records-fit : (kinds : List ColumnKind) (rs : List (List (List ℕ))) (rows : List Row) → rows_in_records kinds rs ≡ Ok rows
    → All (IsRowOf kinds) rows
unfolding rows_in_records
rows_in_records-fit kinds rs rows e =
    All-same (IsRowOf kinds) rows (filter_map (record_row kinds) rs)
    (unless_ok (bad_record kinds rs) (filter_map (record_row kinds) rs) rows e) (all_fit kinds rs)
