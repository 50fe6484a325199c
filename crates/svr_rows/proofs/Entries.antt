-- A table's map with each row at its id, before and after a change.
use Rattle.std.proofs.Common.{◌≡◌, ℕ, ◌<◌, length, false, List, [], ◌∷◌, is_some, refl, sym, ap, ◌∙◌, subst, arith}
use Rattle.std.proofs.Common.{Bor, None, Option, Some}
use Rattle.std.specs.Option.{option_copied}
use Rattle.std.specs.Ordering.{nat_cmp}
use Rattle.std.specs.List.Sorted.{IsStrictlySortedBy}
use Rattle.std.specs.Map.{lookup, values_of, remove_entry}
use Rattle.std.specs.BTreeMap.{is_at, insert_entry}
use Rattle.svr_schema.specs.declared.table.ColumnKind.{ColumnKind}
use Rattle.svr_rows.specs.declared.row.Row.{Row}
use Rattle.svr_rows.specs.Rows.{has_row, id_of, row_at, with_row, without_row}
use Rattle.svr_rows.specs.Kept.{by_id, kept_rows, IsColumns, IsKept, IsLawfulRow, IsTableRows}
use Rattle.svr_rows.proofs.ById.{insert_entry-by_id, is_some-row_at, lookup-by_id, remove_entry-by_id, values_of-by_id}
use Rattle.svr_rows.proofs.Lawful.{IsTableRows-put, IsTableRows-taken}

module _ (kinds : List ColumnKind) (entries : List (ℕ × Row)) (kept : IsKept kinds entries) where
  pub lookup-kept : (id : ℕ) → lookup (is_at (nat_cmp id)) entries ≡ row_at (values_of entries) id
  lookup-kept id = ap (lookup (is_at (nat_cmp id))) kept.keyed ∙ lookup-by_id (values_of entries) id

  pub is_some-lookup_kept : (id : ℕ) → is_some (lookup (is_at (nat_cmp id)) entries) ≡ has_row (values_of entries) id
  is_some-lookup_kept id = ap is_some (lookup-kept id) ∙ is_some-row_at (values_of entries) id

  insert_entry-kept : (row : Row) → insert_entry nat_cmp entries (id_of row) row ≡ by_id (with_row (values_of entries) row)
  insert_entry-kept row = ap (λ es. insert_entry nat_cmp es (id_of row) row) kept.keyed ∙ insert_entry-by_id (values_of entries) row

  remove_entry-kept : (id : ℕ) → remove_entry (is_at (nat_cmp id)) entries ≡ by_id (without_row (values_of entries) id)
  remove_entry-kept id = ap (λ es. remove_entry (is_at (nat_cmp id)) es) kept.keyed
      ∙ remove_entry-by_id (values_of entries) id kept.rows.ascending

  pub values_of-insert_entry : (row : Row) → values_of (insert_entry nat_cmp entries (id_of row) row) ≡ with_row (values_of entries) row
  values_of-insert_entry row = ap values_of (insert_entry-kept row) ∙ values_of-by_id (with_row (values_of entries) row)

  pub values_of-remove_entry : (id : ℕ) → values_of (remove_entry (is_at (nat_cmp id)) entries) ≡ without_row (values_of entries) id
  values_of-remove_entry id = ap values_of (remove_entry-kept id) ∙ values_of-by_id (without_row (values_of entries) id)

  -- other entries, which are rows by their ids
  IsKept-from : (now : List (ℕ × Row)) (rows : List Row) → now ≡ by_id rows → IsTableRows (record { kinds = kinds; rows = rows })
      → IsKept kinds now
  IsKept-from now rows e lawful =
      let same : values_of now ≡ rows = ap values_of e ∙ values_of-by_id rows in
      record {
        keyed = e ∙ ap by_id (sym same);
        rows = subst (λ rs. IsTableRows (record { kinds = kinds; rows = rs })) (sym same) lawful;
      }

  pub IsKept-insert_entry : (now : List (ℕ × Row)) (row : Row) → now ≡ insert_entry nat_cmp entries (id_of row) row → IsLawfulRow kinds row
      → (has_row (values_of entries) (id_of row) ≡ false → length (values_of entries) < 262144) → IsKept kinds now
  IsKept-insert_entry now row e lawful room =
      IsKept-from now (with_row (values_of entries) row) (e ∙ insert_entry-kept row)
      (IsTableRows-put (kept_rows kinds entries) row kept.rows lawful room)

  pub IsKept-remove_entry : (now : List (ℕ × Row)) (id : ℕ) → now ≡ remove_entry (is_at (nat_cmp id)) entries → IsKept kinds now
  IsKept-remove_entry now id e =
      IsKept-from now (without_row (values_of entries) id) (e ∙ remove_entry-kept id)
      (IsTableRows-taken (kept_rows kinds entries) id kept.rows)

pub IsKept-none : (kinds : List ColumnKind) (entries : List (ℕ × Row)) → entries ≡ [] → IsColumns kinds → IsKept kinds entries
unfolding IsStrictlySortedBy
IsKept-none kinds [] e columns = record {
  keyed = refl;
  rows = record {
    columns = columns;
    ascending = tt;
    lawful = λ k d h.
        absurd (omega (arith, h));
    few = omega arith;
  };
}
IsKept-none kinds (x ∷ entries) e columns = absurd (cc)

-- what is found behind a reference is found
pub is_some-copied : (found : Option (Bor Row)) → is_some found ≡ is_some (option_copied found)
is_some-copied None = refl
is_some-copied (Some row) = refl
