-- How many bytes texts have, before and after a change.
use Rattle.std.proofs.Common.{◌≡◌, ℕ, zero, suc, ◌+◌, ◌-◌, ◌≤◌, List, [], ◌∷◌, map, get_or, sum_by, set, slice_get}
use Rattle.std.proofs.Common.{unwrap_or, option_map, Option, Some, None, IfSome, is_some, false, refl, sym, ap, ap₂, ◌∙◌, subst, arith}
use Rattle.std.specs.Ordering.{nat_cmp}
use Rattle.std.specs.Cmp.{nat_cmp_total}
use Rattle.std.specs.List.{All}
use Rattle.std.specs.List.Sorted.{IsStrictlySortedBy}
use Rattle.std.specs.Map.{lookup, values_of}
use Rattle.std.specs.BTreeMap.{is_at}
use Rattle.std.proofs.lemmas.Option.{get_or_from_slice_get, slice_get_within}
use Rattle.std.proofs.lemmas.Bool.{false≢true}
use Rattle.std.proofs.lemmas.List.Elements.{All-map}
use Rattle.std.proofs.lemmas.List.Sums.{sum_by-cons}
use Rattle.std.proofs.lemmas.Map.Entries.{sum_by-insert_entry, sum_by-remove_entry}
use Rattle.std.proofs.lemmas.Map.Views.{IfSome-lookup_from_All}
use Rattle.svr_schema.specs.declared.table.ColumnKind.{ColumnKind}
use Rattle.svr_schema.specs.declared.table.Table.{Table}
use Rattle.svr_schema.specs.Lawful.{IsTable}
use Rattle.svr_rows.specs.declared.row.Row.{Row}
use Rattle.svr_rows.specs.Rows.{IsRowOf, TableRows, has_row, id_of, no_rows, row_at, row_bytes, text_bytes, with_row, without_row}
use Rattle.svr_rows.specs.Changes.{with_rows, with_rows_of}
use Rattle.svr_rows.specs.Kept.{by_id, bytes_at, CountsTexts, IsAscending, IsLawfulRow, IsTableRows}
use Rattle.svr_rows.proofs.ById.{insert_entry-by_id, is_some-row_at, keys_of-by_id, lookup-by_id, remove_entry-by_id, values_of-by_id}
use Rattle.svr_rows.proofs.Fits.{row_bytes-lawful, IsTableRows-no_rows}

-- ---- in one table

bytes_at-map : (row : Option Row) → bytes_at row ≡ unwrap_or (option_map row_bytes row) 0
bytes_at-map None = refl
bytes_at-map (Some row) = refl

sum-with_row : (rows : List Row) (row : Row) → IsAscending rows
    → sum_by row_bytes (with_row rows row) + bytes_at (row_at rows (id_of row)) ≡ sum_by row_bytes rows + row_bytes row
sum-with_row rows row ascending =
    let sorted = subst (λ ks. IsStrictlySortedBy nat_cmp ks) (sym (keys_of-by_id rows)) ascending in
    ap₂ (λ rs o. sum_by row_bytes rs + o)
    (sym (ap values_of (insert_entry-by_id rows row) ∙ values_of-by_id (with_row rows row)))
    (ap bytes_at (sym (lookup-by_id rows (id_of row))) ∙ bytes_at-map (lookup (is_at (nat_cmp (id_of row))) (by_id rows)))
    ∙ sum_by-insert_entry row_bytes nat_cmp_total (by_id rows) (id_of row) row sorted
    ∙ ap (λ rs. sum_by row_bytes rs + row_bytes row) (values_of-by_id rows)

sum-without_row : (rows : List Row) (id : ℕ) → IsAscending rows
    → sum_by row_bytes (without_row rows id) + bytes_at (row_at rows id) ≡ sum_by row_bytes rows
sum-without_row rows id ascending =
    ap₂ (λ rs o. sum_by row_bytes rs + o)
    (sym (ap values_of (remove_entry-by_id rows id ascending) ∙ values_of-by_id (without_row rows id)))
    (ap bytes_at (sym (lookup-by_id rows id)) ∙ bytes_at-map (lookup (is_at (nat_cmp id)) (by_id rows)))
    ∙ sum_by-remove_entry row_bytes (is_at (nat_cmp id)) (by_id rows)
    ∙ ap (sum_by row_bytes) (values_of-by_id rows)

none_if : (row : Option Row) → is_some row ≡ false → row ≡ None
none_if None h = refl
none_if (Some row) h = absurd (false≢true (sym h))

row_at-none : (rows : List Row) (id : ℕ) → has_row rows id ≡ false → row_at rows id ≡ None
row_at-none rows id none = none_if (row_at rows id) (is_some-row_at rows id ∙ none)

-- ---- in all tables

text_bytes-cons : (t : TableRows) (tables : List TableRows) → text_bytes (t ∷ tables) ≡ sum_by row_bytes t.rows + text_bytes tables
text_bytes-cons t tables = sum_by-cons (λ t. sum_by row_bytes t.rows) t tables

same_table : (t there : TableRows) → Some t ≡ Some there → t ≡ there
same_table t there e = cc

pub text_bytes-with_rows : (tables : List TableRows) (place : ℕ) (there : TableRows) (rows : List Row) → slice_get tables place ≡ Some there
    → text_bytes (with_rows tables place rows) + sum_by row_bytes there.rows ≡ text_bytes tables + sum_by row_bytes rows
unfolding with_rows
text_bytes-with_rows [] place there rows e = absurd (cc)
text_bytes-with_rows (t ∷ tables) zero there rows e =
    let same : sum_by row_bytes there.rows ≡ sum_by row_bytes t.rows = ap (λ t. sum_by row_bytes t.rows) (sym (same_table t there e)) in
    omega (arith, text_bytes-cons (with_rows_of t rows) tables, text_bytes-cons t tables, same)
text_bytes-with_rows (t ∷ tables) (suc place) there rows e =
    omega (arith, text_bytes-cons t (with_rows tables place rows), text_bytes-cons t tables, text_bytes-with_rows tables place there rows e)

module _ (tables : List TableRows) (place : ℕ) (there : TableRows) (e : slice_get tables place ≡ Some there)
    (lawful : IsTableRows there) where
  pub text_bytes-put : (row : Row)
      → text_bytes (with_rows tables place (with_row there.rows row)) + bytes_at (row_at there.rows (id_of row))
      ≡ text_bytes tables + row_bytes row
  text_bytes-put row = omega
      (arith, text_bytes-with_rows tables place there (with_row there.rows row) e, sum-with_row there.rows row lawful.ascending)

  pub text_bytes-remove : (id : ℕ)
      → text_bytes (with_rows tables place (without_row there.rows id)) + bytes_at (row_at there.rows id) ≡ text_bytes tables
  text_bytes-remove id = omega
      (arith, text_bytes-with_rows tables place there (without_row there.rows id) e, sum-without_row there.rows id lawful.ascending)

  pub CountsTexts-put : (row : Row) (bytes : ℕ) → CountsTexts bytes tables
      → text_bytes (with_rows tables place (with_row there.rows row)) ≤ 67108864
      → CountsTexts (bytes + row_bytes row - bytes_at (row_at there.rows (id_of row))) (with_rows tables place (with_row there.rows row))
  CountsTexts-put row bytes h few =
      let sum = text_bytes-put row in
      record { exact = omega (arith, sum, h.exact); few = omega (arith, sum, h.exact, few) }

  pub CountsTexts-remove : (id bytes : ℕ) → CountsTexts bytes tables
      → CountsTexts (bytes - bytes_at (row_at there.rows id)) (with_rows tables place (without_row there.rows id))
  CountsTexts-remove id bytes h =
      let sum = text_bytes-remove id in
      record { exact = omega (arith, sum, h.exact); few = omega (arith, h.few) }

  pub insert-counted : (row : Row) (bytes : ℕ) → CountsTexts bytes tables → has_row there.rows (id_of row) ≡ false
      → bytes + row_bytes row ≡ text_bytes (with_rows tables place (with_row there.rows row))
  insert-counted row bytes h new =
      let none = ap bytes_at (row_at-none there.rows (id_of row) new) in
      omega (arith, text_bytes-put row, h.exact, none)

  pub update-counted : (row before : Row) (bytes : ℕ) → CountsTexts bytes tables → row_at there.rows (id_of row) ≡ Some before
      → bytes - row_bytes before + row_bytes row ≡ text_bytes (with_rows tables place (with_row there.rows row))
  update-counted row before bytes h found =
      let old = ap bytes_at found in
      omega (arith, text_bytes-put row, text_bytes-remove (id_of row), h.exact, old)

  pub bytes_at-counted : (id bytes : ℕ) → CountsTexts bytes tables → bytes_at (row_at there.rows id) ≤ bytes
  bytes_at-counted id bytes h = omega (arith, text_bytes-remove id, h.exact)

-- ---- a row that stands in a table

pub IsTableRows-at : (tables : List TableRows) (place : ℕ) (there : TableRows) → All IsTableRows tables
    → slice_get tables place ≡ Some there → IsTableRows there
IsTableRows-at tables place there lawful e =
    subst IsTableRows (get_or_from_slice_get tables place there there e) (lawful place there (slice_get_within tables place there e))

pub IfSome-row_at : (t : TableRows) (id : ℕ) → IsTableRows t → IfSome (row_at t.rows id) (IsLawfulRow t.kinds)
IfSome-row_at t id lawful =
    let P : Option Row → Type 0 = λ o. IfSome o (IsLawfulRow t.kinds) in
    let all : All (IsLawfulRow t.kinds) (values_of (by_id t.rows)) = subst (λ rs. All (IsLawfulRow t.kinds) rs)
    (sym (values_of-by_id t.rows)) lawful.lawful in
    subst P (lookup-by_id t.rows id) (IfSome-lookup_from_All (IsLawfulRow t.kinds) (is_at (nat_cmp id)) (by_id t.rows) all)

bytes_at-lawful : (t : TableRows) (row : Option Row) → IsTableRows t → IfSome row (IsLawfulRow t.kinds) → bytes_at row ≤ 524288
bytes_at-lawful t None lawful h = omega arith
bytes_at-lawful t (Some row) lawful h = row_bytes-lawful t.kinds row lawful.columns h

pub bytes_at-few : (t : TableRows) (id : ℕ) → IsTableRows t → bytes_at (row_at t.rows id) ≤ 524288
bytes_at-few t id lawful = bytes_at-lawful t (row_at t.rows id) lawful (IfSome-row_at t id lawful)

-- ---- the same list, by place

pub set-with_rows : (tables : List TableRows) (place : ℕ) (there : TableRows) (rows : List Row) → slice_get tables place ≡ Some there
    → set tables place (with_rows_of there rows) ≡ with_rows tables place rows
unfolding with_rows
set-with_rows [] place there rows e = refl
set-with_rows (t ∷ tables) zero there rows e = ap (λ t. with_rows_of t rows ∷ tables) (sym (same_table t there e))
set-with_rows (t ∷ tables) (suc place) there rows e = ap (λ ts. t ∷ ts) (set-with_rows tables place there rows e)

-- what a look-up finds is a row of the table's columns
pub IsRowOf-found : {A : Type 0} (read : A → Row) (found : Option A) (row : Option Row) (kinds : List ColumnKind)
    → option_map read found ≡ row → IfSome row (IsLawfulRow kinds)
    → IfSome found (λ x. IsRowOf kinds (read x))
IsRowOf-found read None row kinds e h = tt
IsRowOf-found read (Some x) row kinds e h = let P : Option Row → Type 0 = λ o. IfSome o (IsLawfulRow kinds) in (subst P (sym e) h).fits

-- ---- tables without rows

text_bytes-no_rows : (tables : List Table) → text_bytes (map no_rows tables) ≡ 0
text_bytes-no_rows [] = refl
text_bytes-no_rows (t ∷ tables) = omega (arith, text_bytes-cons (no_rows t) (map no_rows tables), text_bytes-no_rows tables)

pub CountsTexts-no_rows : (tables : List Table) → CountsTexts 0 (map no_rows tables)
CountsTexts-no_rows tables = record { exact = sym (text_bytes-no_rows tables); few = omega arith }

pub IsTableRows-all_no_rows : (tables : List Table) → All IsTable tables → All IsTableRows (map no_rows tables)
IsTableRows-all_no_rows tables h = All-map IsTableRows no_rows tables (λ k t i. IsTableRows-no_rows (get_or tables k t) (h k t i))
