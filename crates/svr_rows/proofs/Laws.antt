-- What changes keep, and inserts one after the other, for the crates above.
use Rattle.std.proofs.Common.{◌≡◌, ◌≢◌, ◌<◌, ℕ, zero, suc, ◌+◌, List, [], ◌∷◌, ◌++◌, length}
use Rattle.std.proofs.Common.{slice_get, option_map, Option, None, Some, refl, sym, ap, ◌∙◌, add-zero, arith}
use Rattle.std.proofs.lemmas.Option.{slice_get_within}
use Rattle.svr_rows.specs.declared.row.Row.{Row}
use Rattle.svr_rows.specs.declared.change.Change.TheVariants.{Insert}
use Rattle.svr_rows.specs.declared.change.RowRefusal.{RowRefusal}
use Rattle.svr_rows.specs.Rows.{TableRows, id_of, rows_in, with_row, without_row}
use Rattle.svr_rows.specs.Changes.{changed, inserted, load_refusal, numbered, refusal_from, refusal_of, with_rows, with_rows_of}
use Rattle.svr_rows.proofs.ById.{without_row-with_row}
use Rattle.svr_rows.proofs.Tested.{CanPut-insert, has_row-insert}

pub rows_in-with_rows : (tables : List TableRows) (place : ℕ) (rows : List Row) → place < length tables
    → rows_in (with_rows tables place rows) place ≡ rows
unfolding with_rows
rows_in-with_rows [] place rows h = absurd (omega (arith, h))
rows_in-with_rows (t ∷ tables) zero rows h = refl
rows_in-with_rows (t ∷ tables) (suc place) rows h = rows_in-with_rows tables place rows (omega (arith, h))

pub rows_in-with_rows_apart : (tables : List TableRows) (place : ℕ) (rows : List Row) (table : ℕ) → table ≢ place
    → rows_in (with_rows tables place rows) table ≡ rows_in tables table
unfolding with_rows
rows_in-with_rows_apart [] place rows table h = refl
rows_in-with_rows_apart (t ∷ tables) zero rows zero h = absurd (h refl)
rows_in-with_rows_apart (t ∷ tables) zero rows (suc table) h = refl
rows_in-with_rows_apart (t ∷ tables) (suc place) rows zero h = refl
rows_in-with_rows_apart (t ∷ tables) (suc place) rows (suc table) h = rows_in-with_rows_apart tables place rows table (λ e. h (ap suc e))

pub slice_get-with_rows : (tables : List TableRows) (place : ℕ) (rows : List Row)
    → slice_get (with_rows tables place rows) place ≡ option_map (λ t. with_rows_of t rows) (slice_get tables place)
unfolding with_rows
slice_get-with_rows [] place rows = refl
slice_get-with_rows (t ∷ tables) zero rows = refl
slice_get-with_rows (t ∷ tables) (suc place) rows = slice_get-with_rows tables place rows

pub with_rows-twice : (tables : List TableRows) (place : ℕ) (first rows : List Row)
    → with_rows (with_rows tables place first) place rows ≡ with_rows tables place rows
unfolding with_rows
with_rows-twice [] place first rows = refl
with_rows-twice (t ∷ tables) zero first rows = refl
with_rows-twice (t ∷ tables) (suc place) first rows = ap (λ ts. t ∷ ts) (with_rows-twice tables place first rows)

pub with_rows-same : (tables : List TableRows) (place : ℕ) → with_rows tables place (rows_in tables place) ≡ tables
unfolding with_rows
with_rows-same [] place = refl
with_rows-same (t ∷ tables) zero = refl
with_rows-same (t ∷ tables) (suc place) = ap (λ ts. t ∷ ts) (with_rows-same tables place)

-- to take out a row that was just inserted gives the tables before it
pub remove-inserted : (tables : List TableRows) (place : ℕ) (row : Row) → refusal_of tables (Insert place row) ≡ None
    → with_rows (changed tables (Insert place row)) place (without_row (rows_in (changed tables (Insert place row)) place) (id_of row))
    ≡ tables
remove-inserted tables place row h =
    let rows = rows_in tables place in
    let put = CanPut-insert tables place row h in
    let now = rows_in-with_rows tables place (with_row rows row) (slice_get_within tables place put.table put.there) in
    ap (with_rows (with_rows tables place (with_row rows row)) place)
    (ap (λ rs. without_row rs (id_of row)) now ∙ without_row-with_row rows row (has_row-insert tables place row h))
    ∙ with_rows-twice tables place (with_row rows row) rows ∙ with_rows-same tables place

-- ---- inserts one after the other

pub inserted-more : (tables : List TableRows) (place : ℕ) (rows : List Row) (row : Row)
    → inserted tables place (rows ++ row ∷ []) ≡ changed (inserted tables place rows) (Insert place row)
unfolding inserted
inserted-more tables place [] row = refl
inserted-more tables place (r ∷ rows) row = inserted-more (changed tables (Insert place r)) place rows row

pub not_numbered : (n : ℕ) (first : Option RowRefusal) (later : Option (ℕ × RowRefusal)) → numbered n first later ≡ None
    → (first ≡ None) × (later ≡ None)
not_numbered n None later h = (refl, h)
not_numbered n (Some why) later h = absurd (let e : Some (n, why) ≡ None = h in cc)

pub refusal_from-append : (n : ℕ) (tables : List TableRows) (place : ℕ) (front rows : List Row) → refusal_from n tables place front ≡ None
    → refusal_from n tables place (front ++ rows) ≡ refusal_from (n + length front) (inserted tables place front) place rows
unfolding refusal_from inserted
refusal_from-append n tables place [] rows h = ap (λ k. refusal_from k tables place rows) (sym (add-zero n))
refusal_from-append n tables place (row ∷ front) rows h =
    let after = changed tables (Insert place row) in
    let apart = not_numbered n (refusal_of tables (Insert place row)) (refusal_from (n + 1) after place front) h in
    let count : n + 1 + length front ≡ n + suc (length front) = omega arith in
    ap (λ o. numbered n o (refusal_from (n + 1) after place (front ++ rows))) apart.0
    ∙ refusal_from-append (n + 1) after place front rows apart.1
    ∙ ap (λ k. refusal_from k (inserted after place front) place rows) count

accepted-at : (n : ℕ) (tables : List TableRows) (place : ℕ) (front : List Row) (row : Row) (rest : List Row)
    → refusal_from n tables place (front ++ row ∷ rest) ≡ None → refusal_of (inserted tables place front) (Insert place row) ≡ None
unfolding refusal_from inserted
accepted-at n tables place [] row rest h =
    (not_numbered n (refusal_of tables (Insert place row)) (refusal_from (n + 1) (changed tables (Insert place row)) place rest) h).0
accepted-at n tables place (r ∷ front) row rest h =
    let after = changed tables (Insert place r) in
    accepted-at (n + 1) after place front row rest
    (not_numbered n (refusal_of tables (Insert place r)) (refusal_from (n + 1) after place (front ++ row ∷ rest)) h).1

-- each row of a load that isn't refused may be inserted after those before it
pub refusal_of-accepted : (tables : List TableRows) (place : ℕ) (front : List Row) (row : Row) (rest : List Row)
    → load_refusal tables place (front ++ row ∷ rest) ≡ None → refusal_of (inserted tables place front) (Insert place row) ≡ None
refusal_of-accepted tables place front row rest h = accepted-at 1 tables place front row rest h
