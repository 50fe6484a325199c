-- A walk over the rows of a table, by the next row above each id.
use Rattle.std.proofs.Common.{◌≡◌, ℕ, ◌<◌, ◌≤◌, nat_lt, Bool, true, false, cond, List, [], ◌∷◌, find, map, option_map}
use Rattle.std.proofs.Common.{Option, None, Some, IfSome, MatchOption, refl, sym, ap, ◌∙◌, subst, arith}
use Rattle.std.proofs.lemmas.Bool.Decides.{nat_tests}
use Rattle.std.proofs.lemmas.Cmp.{ranked}
use Rattle.std.proofs.lemmas.List.Elements.{All-head, All-tail}
use Rattle.std.specs.List.{All, AllByRecursion}
use Rattle.std.specs.List.Sorted.{IsStrictlySortedBy}
use Rattle.std.specs.Map.{values_of}
use Rattle.std.specs.Ordering.{nat_cmp}
use Rattle.std.specs.declared.cmp.Ordering.TheVariants.{Less}
use Rattle.svr_idmap.specs.Ids.{entry_after, is_above}
use Rattle.svr_schema.specs.declared.table.ColumnKind.{ColumnKind}
use Rattle.svr_rows.specs.declared.row.Row.{Row}
use Rattle.svr_rows.specs.Rows.{HasId, TableRows, id_of, row_after, rows_above}
use Rattle.svr_rows.specs.Kept.{by_id, IsAscending, IsColumns, IsKept, IsLawfulRow, IsTableRows}
use Rattle.svr_rows.proofs.Fits.{HasId-from_fits}

-- ---- the next row, of the map that has each row at its id

abbrev pub row_in : Option (ℕ × Row) → Option Row
row_in None = None
row_in (Some e) = Some e.1

after_step : (b : Bool) (r : Row) (found : Option (ℕ × Row)) (next : Option Row) → row_in found ≡ next
    → row_in (cond b (Some (id_of r, r)) found) ≡ cond b (Some r) next
after_step true r found next h = refl
after_step false r found next h = h

entry_after-by_id : (rows : List Row) (after : Option ℕ) → row_in (entry_after (by_id rows) after) ≡ row_after rows after
entry_after-by_id [] after = refl
entry_after-by_id (r ∷ rows) after =
    after_step (is_above after (id_of r)) r (entry_after (by_id rows) after) (row_after rows after) (entry_after-by_id rows after)

pub entry_after-kept : (kinds : List ColumnKind) (entries : List (ℕ × Row)) → IsKept kinds entries → (after : Option ℕ)
    → row_in (entry_after entries after) ≡ row_after (values_of entries) after
entry_after-kept kinds entries kept after =
    ap (λ es. row_in (entry_after es after)) kept.keyed ∙ entry_after-by_id (values_of entries) after

-- ---- what is found is a row of the table

found_step : (P : Row → Type 0) (b : Bool) (r : Row) (found : Option Row) → P r → IfSome found P → IfSome (cond b (Some r) found) P
found_step P true r found here there = here
found_step P false r found here there = there

found-all : (P : Row → Type 0) (test : Row → Bool) (rows : List Row) → All P rows → IfSome (find test rows) P
found-all P test [] all = tt
found-all P test (r ∷ rows) all =
    found_step P (test r) r (find test rows) (All-head P r rows all) (found-all P test rows (All-tail P r rows all))

pub IfSome-row_after : (t : TableRows) (after : Option ℕ) → IsTableRows t → IfSome (row_after t.rows after) (IsLawfulRow t.kinds)
IfSome-row_after t after lawful = found-all (IsLawfulRow t.kinds) (λ row. is_above after (id_of row)) t.rows lawful.lawful

pub HasId-found : {A : Type 0} (read : A → Row) (found : Option A) (row : Option Row) (kinds : List ColumnKind) → IsColumns kinds
    → option_map read found ≡ row → IfSome row (IsLawfulRow kinds) → IfSome found (λ x. HasId (read x))
HasId-found read None row kinds columns e h = tt
HasId-found read (Some x) row kinds columns e h =
    let P : Option Row → Type 0 = λ o. IfSome o (IsLawfulRow kinds) in
    HasId-from_fits kinds (read x) columns (subst P (sym e) h).fits

-- ---- the rows above an id are the next one, and those above that

all-pass : (after : Option ℕ) (rows : List Row) → AllByRecursion (λ k. is_above after k ≡ true) (map id_of rows) → rows_above rows after ≡ rows
all-pass after [] all = refl
all-pass after (r ∷ rows) all =
    ap (λ b. cond b (r ∷ rows_above rows after) (rows_above rows after)) all.0 ∙ ap (λ rs. r ∷ rs) (all-pass after rows all.1)

-- with nothing given all rows are above
pub rows_above-none : (rows : List Row) → rows_above rows None ≡ rows
rows_above-none [] = refl
rows_above-none (r ∷ rows) = ap (λ rs. r ∷ rs) (rows_above-none rows)

above_later : (after : Option ℕ) (m : ℕ) (ks : List ℕ) → ((k : ℕ) → m < k → is_above after k ≡ true)
    → AllByRecursion (λ k. nat_cmp m k ≡ Less) ks → AllByRecursion (λ k. is_above after k ≡ true) ks
above_later after m [] above all = tt
above_later after m (k ∷ ks) above all = (above k (ranked m k Less (sym all.0)), above_later after m ks above all.1)

above_test : (after : Option ℕ) (m n : ℕ) → is_above after m ≡ true → m < n → is_above after n ≡ true
above_test None m n h less = refl
above_test (Some low) m n h less = grind (arith, nat_tests, less, h)

above_less : (m n : ℕ) → m < n → nat_lt m n ≡ true
above_less m n less = grind (arith, nat_tests, less)

not_above : (m n : ℕ) → m ≤ n → nat_lt n m ≡ false
not_above m n less = grind (arith, nat_tests, less)

module _ (after : Option ℕ) (r : Row) (rows : List Row) (first : AllByRecursion (λ k. nat_cmp (id_of r) k ≡ Less) (map id_of rows)) where
  -- a row leaves what is above it as it was
  without_first : (row : Row) → id_of r ≤ id_of row → rows_above (r ∷ rows) (Some (id_of row)) ≡ rows_above rows (Some (id_of row))
  without_first row h =
      ap (λ b. cond b (r ∷ rows_above rows (Some (id_of row))) (rows_above rows (Some (id_of row)))) (not_above (id_of r) (id_of row) h)

  found_later : (next : Option Row) → IfSome next (λ x. nat_cmp (id_of r) (id_of x) ≡ Less)
      → MatchOption next (rows_above rows after ≡ []) (λ row. rows_above rows after ≡ row ∷ rows_above rows (Some (id_of row)))
      → MatchOption next (rows_above rows after ≡ []) (λ row. rows_above rows after ≡ row ∷ rows_above (r ∷ rows) (Some (id_of row)))
  found_later None later h = h
  found_later (Some x) later h =
      let less : id_of r < id_of x = ranked (id_of r) (id_of x) Less (sym later) in
      h ∙ ap (λ rs. x ∷ rs) (sym (without_first x (omega (arith, less))))

  walk_step : (b : Bool) → is_above after (id_of r) ≡ b → IfSome (row_after rows after) (λ x. nat_cmp (id_of r) (id_of x) ≡ Less)
      → MatchOption (row_after rows after) (rows_above rows after ≡ [])
      (λ row. rows_above rows after ≡ row ∷ rows_above rows (Some (id_of row)))
      → MatchOption (cond b (Some r) (row_after rows after)) (cond b (r ∷ rows_above rows after) (rows_above rows after) ≡ [])
      (λ row. cond b (r ∷ rows_above rows after) (rows_above rows after) ≡ row ∷ rows_above (r ∷ rows) (Some (id_of row)))
  walk_step true e later h =
      let before = all-pass after rows (above_later after (id_of r) (map id_of rows) (λ k less. above_test after (id_of r) k e less) first) in
      let behind = all-pass (Some (id_of r)) rows (above_later (Some (id_of r)) (id_of r) (map id_of rows) (above_less (id_of r)) first) in
      ap (λ rs. r ∷ rs) (before ∙ sym behind ∙ sym (without_first r (omega arith)))
  walk_step false e later h = found_later (row_after rows after) later h

later_step : (m : ℕ) (b : Bool) (x : Row) (found : Option Row) → nat_cmp m (id_of x) ≡ Less → IfSome found (λ y. nat_cmp m (id_of y) ≡ Less)
    → IfSome (cond b (Some x) found) (λ y. nat_cmp m (id_of y) ≡ Less)
later_step m true x found here there = here
later_step m false x found here there = there

found-less : (m : ℕ) (test : Row → Bool) (rows : List Row) → AllByRecursion (λ k. nat_cmp m k ≡ Less) (map id_of rows)
    → IfSome (find test rows) (λ y. nat_cmp m (id_of y) ≡ Less)
found-less m test [] all = tt
found-less m test (r ∷ rows) all = later_step m (test r) r (find test rows) all.0 (found-less m test rows all.1)

-- these are the rows above an id: the next one in front of those above it, or none
abbrev pub AreAbove : List Row → Option ℕ → Option Row → Type 0
AreAbove rows after next =
    MatchOption next (rows_above rows after ≡ []) (λ row. rows_above rows after ≡ row ∷ rows_above rows (Some (id_of row)))

-- in ascending rows, the next row stands in front of those above it
pub rows_above-next : (rows : List Row) (after : Option ℕ) → IsAscending rows → AreAbove rows after (row_after rows after)
unfolding IsStrictlySortedBy
rows_above-next [] after h = refl
rows_above-next (r ∷ rows) after h =
    walk_step after r rows h.0 (is_above after (id_of r)) refl (found-less (id_of r) (λ row. is_above after (id_of row)) rows h.0)
    (rows_above-next rows after h.1)

-- the same of what was found behind references
pub walked : {A : Type 0} (read : A → Row) (found : Option A) (rows : List Row) (after : Option ℕ) → option_map read found ≡ row_after rows after
    → IsAscending rows
    → MatchOption found (rows_above rows after ≡ []) (λ x. rows_above rows after ≡ read x ∷ rows_above rows (Some (id_of (read x))))
walked read None rows after e h = subst (AreAbove rows after) (sym e) (rows_above-next rows after h)
walked read (Some x) rows after e h = subst (AreAbove rows after) (sym e) (rows_above-next rows after h)
