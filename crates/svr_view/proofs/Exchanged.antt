-- A change of a table's rows as one row that goes and one that comes, and the values that count before and after it.
use Rattle.std.proofs.Common.{◌≡◌, ℕ, ◌<◌, ◌==◌, ℤ, Bool, true, false, not, cond, List, [], ◌∷◌, ◌++◌, map}
use Rattle.std.proofs.Common.{Option, Some, None, refl, sym, ap, ◌∙◌, subst, arith, nat_cmp}
use Rattle.std.specs.BTreeMap.{is_at}
use Rattle.std.specs.List.{AllByRecursion, filter}
use Rattle.std.specs.Map.{remove_entry, values_of}
use Rattle.std.specs.Ordering.{is_eq}
use Rattle.std.specs.declared.cmp.Ordering.TheVariants.{Less}
use Rattle.std.proofs.lemmas.Bool.Decides.{nat_tests}
use Rattle.std.proofs.lemmas.List.{map-append}
use Rattle.std.proofs.lemmas.List.Elements.{filter-append}
use Rattle.std.proofs.lemmas.Map.Keys.{sorted_head, sorted_tail}
use Rattle.svr_groups.specs.Values.{ascending_values, with_value, without_value}
use Rattle.svr_groups.proofs.Ascending.{ascending_values-insert, with_value-comm, without_value-with_value}
use Rattle.svr_rows.specs.declared.row.Row.{Row}
use Rattle.svr_rows.specs.Kept.{IsAscending, by_id}
use Rattle.svr_rows.specs.Rows.{id_of, row_at, with_row, without_row}
use Rattle.svr_rows.proofs.ById.{is_eq-nat_cmp, remove_entry-by_id, values_of-by_id, with_row-cases, with_row-none}
use Rattle.svr_schema.specs.declared.component.Filter.{Filter}
use Rattle.svr_view.specs.Layout.{with_values, without_values}
use Rattle.svr_view.specs.Score.{counted, counts_for, number_at}

-- the row, where there is one
abbrev pub listed : Option Row → List Row
listed None = []
listed (Some row) = row ∷ []

-- one row went from among the rows, and one came in its place
pub record Exchanged (old new : Option Row) (rows after : List Row) : Type 0 where
  pub front : List Row
  pub back : List Row
  pub before_is : rows ≡ front ++ (listed old ++ back)
  pub after_is : after ≡ front ++ (listed new ++ back)

exchanged-cons : (r : Row) (old new : Option Row) (rows after : List Row) → Exchanged old new rows after
    → Exchanged old new (r ∷ rows) (r ∷ after)
exchanged-cons r old new rows after h = record {
  front = r ∷ h.front;
  back = h.back;
  before_is = ap (λ rs. r ∷ rs) h.before_is;
  after_is = ap (λ rs. r ∷ rs) h.after_is;
}

-- ---- a look-up among rows in their order

row_at-here : (r : Row) (rows : List Row) (id : ℕ) → id_of r ≡ id → row_at (r ∷ rows) id ≡ Some r
row_at-here r rows id e =
    let same : (id_of r == id) ≡ true = grind (arith, nat_tests, e) in ap (λ b. cond b (Some r) (row_at rows id)) same

row_at-other : (r : Row) (rows : List Row) (id : ℕ) → (id_of r == id) ≡ false → row_at (r ∷ rows) id ≡ row_at rows id
row_at-other r rows id e = ap (λ b. cond b (Some r) (row_at rows id)) e

less_from_cmp : (a b : ℕ) → nat_cmp a b ≡ Less → (b == a) ≡ false
less_from_cmp a b h = sym (is_eq-nat_cmp a b) ∙ ap is_eq h

not_at : (id k n : ℕ) → id < k → nat_cmp k n ≡ Less → (n == id) ≡ false
not_at id k n below h = grind (arith, nat_tests, h)

-- no row has an id that is below all
row_at-below : (id k : ℕ) (rows : List Row) → id < k → AllByRecursion (λ n. nat_cmp k n ≡ Less) (map id_of rows) → row_at rows id ≡ None
row_at-below id k [] below all = refl
row_at-below id k (r ∷ rows) below all =
    row_at-other r rows id (not_at id k (id_of r) below all.0) ∙ row_at-below id k rows below all.1

below_all : (id : ℕ) (r : Row) (rows : List Row) → IsAscending (r ∷ rows) → id < id_of r → row_at (r ∷ rows) id ≡ None
below_all id r rows ascending below =
    let other : (id_of r == id) ≡ false = grind (arith, nat_tests, below) in
    row_at-other r rows id other
    ∙ row_at-below id (id_of r) rows below (sorted_head nat_cmp (id_of r) (map id_of rows) ascending)

tail_ascends : (r : Row) (rows : List Row) → IsAscending (r ∷ rows) → IsAscending rows
tail_ascends r rows h = sorted_tail nat_cmp (id_of r) (map id_of rows) h

-- ---- a row comes

pub exchanged-with_row : (rows : List Row) (row : Row) → IsAscending rows
    → Exchanged (row_at rows (id_of row)) (Some row) rows (with_row rows row)
exchanged-with_row [] row h = record { front = []; back = []; before_is = refl; after_is = with_row-none row }
exchanged-with_row (r ∷ rows) row h =
    let Q : List Row → Type 0 = λ after. Exchanged (row_at (r ∷ rows) (id_of row)) (Some row) (r ∷ rows) after in
    with_row-cases Q r row rows
    (λ below. subst (λ o. Exchanged o (Some row) (r ∷ rows) (row ∷ r ∷ rows)) (sym (below_all (id_of row) r rows h below))
    (record { front = []; back = r ∷ rows; before_is = refl; after_is = refl }))
    (λ same. subst (λ o. Exchanged o (Some row) (r ∷ rows) (row ∷ rows)) (sym (row_at-here r rows (id_of row) same))
    (record { front = []; back = rows; before_is = refl; after_is = refl }))
    (λ above.
    let other : (id_of r == id_of row) ≡ false = grind (arith, nat_tests, above) in
    subst (λ o. Exchanged o (Some row) (r ∷ rows) (r ∷ with_row rows row)) (sym (row_at-other r rows (id_of row) other))
    (exchanged-cons r (row_at rows (id_of row)) (Some row) rows (with_row rows row)
    (exchanged-with_row rows row (tail_ascends r rows h))))

-- ---- a row goes

without_first : (r : Row) (rows : List Row) (id : ℕ) → IsAscending (r ∷ rows) → (id_of r == id) ≡ true → without_row (r ∷ rows) id ≡ rows
without_first r rows id h e =
    sym (values_of-by_id (without_row (r ∷ rows) id)) ∙ ap values_of (sym (remove_entry-by_id (r ∷ rows) id h))
    ∙ ap (λ b. values_of (cond b (by_id rows) ((id_of r, r) ∷ remove_entry (is_at (nat_cmp id)) (by_id rows)))) (is_eq-nat_cmp id (id_of r) ∙ e)
    ∙ values_of-by_id rows

without_other : (r : Row) (rows : List Row) (id : ℕ) → (id_of r == id) ≡ false → without_row (r ∷ rows) id ≡ r ∷ without_row rows id
without_other r rows id e = ap (λ b. cond (not b) (r ∷ without_row rows id) (without_row rows id)) e

taken_step : (r : Row) (rows : List Row) (id : ℕ) (b : Bool) → (id_of r == id) ≡ b → IsAscending (r ∷ rows)
    → Exchanged (row_at rows id) None rows (without_row rows id)
    → Exchanged (row_at (r ∷ rows) id) None (r ∷ rows) (without_row (r ∷ rows) id)
taken_step r rows id true e h rest =
    subst (λ after. Exchanged (row_at (r ∷ rows) id) None (r ∷ rows) after) (sym (without_first r rows id h e))
    (subst (λ o. Exchanged o None (r ∷ rows) rows) (sym (ap (λ b. cond b (Some r) (row_at rows id)) e))
    (record { front = []; back = rows; before_is = refl; after_is = refl }))
taken_step r rows id false e h rest =
    subst (λ after. Exchanged (row_at (r ∷ rows) id) None (r ∷ rows) after) (sym (without_other r rows id e))
    (subst (λ o. Exchanged o None (r ∷ rows) (r ∷ without_row rows id)) (sym (row_at-other r rows id e))
    (exchanged-cons r (row_at rows id) None rows (without_row rows id) rest))

pub exchanged-without_row : (rows : List Row) (id : ℕ) → IsAscending rows → Exchanged (row_at rows id) None rows (without_row rows id)
exchanged-without_row [] id h = record { front = []; back = []; before_is = refl; after_is = refl }
exchanged-without_row (r ∷ rows) id h =
    taken_step r rows id (id_of r == id) refl h (exchanged-without_row rows id (tail_ascends r rows h))

-- ---- values in their order, with some more and without some

ascending-among : (xs vs ys : List ℤ) → ascending_values (xs ++ (vs ++ ys)) ≡ with_values vs (ascending_values (xs ++ ys))
ascending-among xs [] ys = refl
ascending-among xs (v ∷ vs) ys = ascending_values-insert xs (vs ++ ys) v ∙ ap (with_value v) (ascending-among xs vs ys)

with_values-with_value : (vs : List ℤ) (v : ℤ) (xs : List ℤ) → with_values vs (with_value v xs) ≡ with_value v (with_values vs xs)
with_values-with_value [] v xs = refl
with_values-with_value (u ∷ vs) v xs = ap (with_value u) (with_values-with_value vs v xs) ∙ with_value-comm u v (with_values vs xs)

-- some values came, and then those went that were there before
swapped : (us vs base : List ℤ) → without_values us (with_values vs (with_values us base)) ≡ with_values vs base
swapped [] vs base = refl
swapped (u ∷ us) vs base =
    ap (λ xs. without_values us (without_value u xs)) (with_values-with_value vs u (with_values us base))
    ∙ ap (without_values us) (without_value-with_value u (with_values vs (with_values us base)))
    ∙ swapped us vs base

-- ---- the values that count

counted-append : (rows more : List Row) (by column : ℕ) (f : Option Filter) (id : ℕ)
    → counted (rows ++ more) by column f id ≡ counted rows by column f id ++ counted more by column f id
counted-append rows more by column f id =
    ap (map (number_at column)) (filter-append (counts_for by f id) rows more)
    ∙ map-append (number_at column) (filter (counts_for by f id) rows) (filter (counts_for by f id) more)

module _ (by column : ℕ) (f : Option Filter) (id : ℕ) where
  -- the value of one row
  abbrev pub counted_one : Option Row → List ℤ
  counted_one o = counted (listed o) by column f id

  among : (front back : List Row) (o : Option Row)
      → ascending_values (counted (front ++ (listed o ++ back)) by column f id)
      ≡ with_values (counted_one o) (ascending_values (counted front by column f id ++ counted back by column f id))
  among front back o =
      ap ascending_values (counted-append front (listed o ++ back) by column f id
      ∙ ap (λ vs. counted front by column f id ++ vs) (counted-append (listed o) back by column f id))
      ∙ ascending-among (counted front by column f id) (counted_one o) (counted back by column f id)

  module _ (old new : Option Row) (rows after : List Row) (h : Exchanged old new rows after) where
    abbrev pub base : List ℤ
    base = ascending_values (counted h.front by column f id ++ counted h.back by column f id)

    pub before-with : ascending_values (counted rows by column f id) ≡ with_values (counted_one old) base
    before-with = ap (λ rs. ascending_values (counted rs by column f id)) h.before_is ∙ among h.front h.back old

    after-with : ascending_values (counted after by column f id) ≡ with_values (counted_one new) base
    after-with = ap (λ rs. ascending_values (counted rs by column f id)) h.after_is ∙ among h.front h.back new

    -- the values after the change are those before it, with that of the row that came and without that of the row that went
    pub counted-exchanged : ascending_values (counted after by column f id)
        ≡ without_values (counted_one old) (with_values (counted_one new) (ascending_values (counted rows by column f id)))
    counted-exchanged =
        after-with ∙ sym (swapped (counted_one old) (counted_one new) base)
        ∙ ap (λ xs. without_values (counted_one old) (with_values (counted_one new) xs)) (sym before-with)
