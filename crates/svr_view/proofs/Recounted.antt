-- The values of the components, before and after a change of rows that are no documents.
use Rattle.std.proofs.Common.{◌≡◌, ◌≢◌, ℕ, ◌<◌, ◌≤◌, ◌^◌, ◌==◌, ◌&&◌, ℤ, pos, negsuc, Bool, true, false, cond, List, [], ◌∷◌}
use Rattle.std.proofs.Common.{length, map, Option, Some, None, slice_get, refl, sym, ap, ap₂, ◌∙◌, subst, arith, if◌then◌else◌}
use Rattle.std.specs.List.{All, Contains, filter}
use Rattle.std.specs.Ordering.{int_eq}
use Rattle.std.proofs.lemmas.Bool.Decides.{nat_tests}
use Rattle.std.proofs.lemmas.List.{length-map}
use Rattle.svr_groups.specs.Groups.{Grouped, values_at}
use Rattle.svr_groups.specs.Values.{ascending_values}
use Rattle.svr_groups.proofs.Ascending.{length-ascending_values}
use Rattle.svr_groups.proofs.Order.{Contains-with_value}
use Rattle.svr_num.specs.declared.aggregate.Aggregate.{Aggregate}
use Rattle.svr_rows.specs.declared.change.Change.{Change}
use Rattle.svr_rows.specs.declared.change.Change.TheVariants.{Insert, Update, Delete}
use Rattle.svr_rows.specs.declared.row.Row.{Row}
use Rattle.svr_rows.specs.Changes.{changed, refusal_of, row_before, table_of, with_rows}
use Rattle.svr_rows.specs.Kept.{IsAscending, IsTableRows}
use Rattle.svr_rows.specs.Rows.{TableRows, id_of, row_at, rows_at, rows_in, with_row, without_row}
use Rattle.svr_rows.proofs.Laws.{rows_in-with_rows, rows_in-with_rows_apart}
use Rattle.svr_rows.proofs.Sums.{IsTableRows-at}
use Rattle.svr_rows.proofs.Tested.{CanPut-insert, CanPut-update, place-delete}
use Rattle.std.proofs.lemmas.Map.Keys.{sorted_from_strictly_increasing}
use Rattle.std.proofs.lemmas.Option.{slice_get_within}
use Rattle.svr_schema.specs.declared.component.Component.{Component}
use Rattle.svr_schema.specs.declared.component.Component.TheVariants.{Own, Over}
use Rattle.svr_schema.specs.declared.component.Filter.{Filter}
use Rattle.svr_schema.specs.declared.schema.Schema.{Schema}
use Rattle.svr_spec.specs.Filters.{passes}
use Rattle.svr_view.specs.declared.counted.Counted.{Counted}
use Rattle.svr_view.specs.Layout.{AllCounted, IsCounted, IsRoomy, Recounts, counted_for, counted_of, exchanged, row_after}
use Rattle.svr_view.specs.Layout.{values_for, with_values, without_values}
use Rattle.svr_view.specs.Score.{counted, counted_values, counts_for, number_at}
use Rattle.svr_view.specs.View.{StandsFor, Viewed}
use Rattle.svr_view.proofs.Exchanged.{Exchanged, before-with, counted-exchanged, counted_one, exchanged-with_row, exchanged-without_row}

-- ---- the rows of tables after a change

ascending_at : (tables : List TableRows) (place : ℕ) (o : Option TableRows) → All IsTableRows tables → slice_get tables place ≡ o
    → IsAscending (rows_at o)
ascending_at tables place None lawful e = sorted_from_strictly_increasing [] (λ k i. absurd (omega (arith, i)))
ascending_at tables place (Some there) lawful e = (IsTableRows-at tables place there lawful e).ascending

pub rows_ascend : (tables : List TableRows) (place : ℕ) → All IsTableRows tables → IsAscending (rows_in tables place)
rows_ascend tables place lawful = ascending_at tables place (slice_get tables place) lawful refl

few_at : (tables : List TableRows) (place : ℕ) (o : Option TableRows) → All IsTableRows tables → slice_get tables place ≡ o
    → length (rows_at o) ≤ 2 ^ 18
few_at tables place None lawful e = omega arith
few_at tables place (Some there) lawful e = let h = (IsTableRows-at tables place there lawful e).few in omega (arith, h)

pub rows_few : (tables : List TableRows) (place : ℕ) → All IsTableRows tables → length (rows_in tables place) ≤ 2 ^ 18
rows_few tables place lawful = few_at tables place (slice_get tables place) lawful refl

-- the place of a change that isn't refused is that of a table
pub place_changed : (tables : List TableRows) (change : Change) → refusal_of tables change ≡ None → table_of change < length tables
place_changed tables (Insert at row) h = let put = CanPut-insert tables at row h in slice_get_within tables at put.table put.there
place_changed tables (Update at row) h = let put = CanPut-update tables at row h in slice_get_within tables at put.table put.there
place_changed tables (Delete at id) h = place-delete tables at id h

pub rows-apart : (tables : List TableRows) (change : Change) (table : ℕ) → table ≢ table_of change
    → rows_in (changed tables change) table ≡ rows_in tables table
rows-apart tables (Insert at row) table h = rows_in-with_rows_apart tables at (with_row (rows_in tables at) row) table h
rows-apart tables (Update at row) table h = rows_in-with_rows_apart tables at (with_row (rows_in tables at) row) table h
rows-apart tables (Delete at id) table h = rows_in-with_rows_apart tables at (without_row (rows_in tables at) id) table h

module _ (tables : List TableRows) (lawful : All IsTableRows tables) where
  put : (at : ℕ) (row : Row) → at < length tables
      → Exchanged (row_at (rows_in tables at) (id_of row)) (Some row) (rows_in tables at)
      (rows_in (with_rows tables at (with_row (rows_in tables at) row)) at)
  put at row within =
      subst (λ after. Exchanged (row_at (rows_in tables at) (id_of row)) (Some row) (rows_in tables at) after)
      (sym (rows_in-with_rows tables at (with_row (rows_in tables at) row) within))
      (exchanged-with_row (rows_in tables at) row (rows_ascend tables at lawful))

  pub rows-exchanged : (change : Change) → table_of change < length tables
      → Exchanged (row_before tables change) (row_after change) (rows_in tables (table_of change))
      (rows_in (changed tables change) (table_of change))
  rows-exchanged (Insert at row) within = put at row within
  rows-exchanged (Update at row) within = put at row within
  rows-exchanged (Delete at id) within =
      subst (λ after. Exchanged (row_at (rows_in tables at) id) None (rows_in tables at) after)
      (sym (rows_in-with_rows tables at (without_row (rows_in tables at) id) within))
      (exchanged-without_row (rows_in tables at) id (rows_ascend tables at lawful))

-- ---- what one row counts, by the definition and as the code has it

counted_single : (n v : ℤ) (passed : Bool) (id : ℕ)
    → values_for (if passed then counted_for n v else None) id ≡ (if int_eq n (pos id) && passed then v ∷ [] else [])
counted_single (pos k) v true id = grind (arith, nat_tests)
counted_single (pos k) v false id = grind (arith, nat_tests)
counted_single (negsuc k) v true id = refl
counted_single (negsuc k) v false id = refl

mapped_single : (row : Row) (column : ℕ) (b : Bool) → map (number_at column) (cond b (row ∷ []) []) ≡ cond b (number_at column row ∷ []) []
mapped_single row column true = refl
mapped_single row column false = refl

here_by : (how : Aggregate) (table by column : ℕ) (weight empty : ℤ) (f : Option Filter) (row : Row) (b : Bool) (id : ℕ) → (table == table) ≡ b
    → values_for (if b && passes f row.cells then counted_for (number_at by row) (number_at column row) else None) id
    ≡ counted_one by column f id (Some row)
here_by how table by column weight empty f row true id e =
    counted_single (number_at by row) (number_at column row) (passes f row.cells) id
    ∙ sym (mapped_single row column (counts_for by f id row))
here_by how table by column weight empty f row false id e = absurd (grind (arith, nat_tests, e))

-- what a row of the component's table counts for an id
pub counted_of-here : (how : Aggregate) (table by column : ℕ) (weight empty : ℤ) (f : Option Filter) (o : Option Row) (id : ℕ)
    → values_for (counted_of (Over how table by column weight empty f) table o) id ≡ counted_one by column f id o
counted_of-here how table by column weight empty f None id = refl
counted_of-here how table by column weight empty f (Some row) id = here_by how table by column weight empty f row (table == table) id refl

-- a row of another table counts nothing
pub counted_of-apart : (how : Aggregate) (over table by column : ℕ) (weight empty : ℤ) (f : Option Filter) (o : Option Row)
    → (over == table) ≡ false → counted_of (Over how over by column weight empty f) table o ≡ None
counted_of-apart how over table by column weight empty f None e = refl
counted_of-apart how over table by column weight empty f (Some row) e =
    ap (λ b. cond (b && passes f row.cells) (counted_for (number_at by row) (number_at column row)) None) e

-- ---- the values of a component after a change

module _ (tables : List TableRows) (change : Change) (lawful : All IsTableRows tables) (accepted : refusal_of tables change ≡ None) where
  after : List TableRows
  after = changed tables change

  swap : Exchanged (row_before tables change) (row_after change) (rows_in tables (table_of change)) (rows_in (changed tables change) (table_of change))
  swap = rows-exchanged tables lawful change (place_changed tables change accepted)

  abbrev exchange : Component → ℕ → List ℤ → List ℤ
  exchange component id values = exchanged component (table_of change) (row_before tables change) (row_after change) id values

  over_step : (how : Aggregate) (table by column : ℕ) (weight empty : ℤ) (f : Option Filter) (id : ℕ) (b : Bool) → (table == table_of change) ≡ b
      → ascending_values (counted (rows_in (changed tables change) table) by column f id)
      ≡ exchange (Over how table by column weight empty f) id (ascending_values (counted (rows_in tables table) by column f id))
  over_step how table by column weight empty f id true e =
      let same : table ≡ table_of change = grind (arith, nat_tests, e) in
      subst (λ t. ascending_values (counted (rows_in (changed tables change) t) by column f id)
      ≡ exchange (Over how t by column weight empty f) id (ascending_values (counted (rows_in tables t) by column f id)))
      (sym same)
      (counted-exchanged by column f id (row_before tables change) (row_after change) (rows_in tables (table_of change))
      (rows_in (changed tables change) (table_of change)) swap
      ∙ ap₂ (λ us vs. without_values us (with_values vs (ascending_values (counted (rows_in tables (table_of change)) by column f id))))
      (sym (counted_of-here how (table_of change) by column weight empty f (row_before tables change) id))
      (sym (counted_of-here how (table_of change) by column weight empty f (row_after change) id)))
  over_step how table by column weight empty f id false e =
      let other : table ≢ table_of change = λ same. grind (arith, nat_tests, e, same) in
      let values = ascending_values (counted (rows_in tables table) by column f id) in
      ap (λ rows. ascending_values (counted rows by column f id)) (rows-apart tables change table other)
      ∙ ap₂ (λ us vs. without_values (values_for us id) (with_values (values_for vs id) values))
      (sym (counted_of-apart how table (table_of change) by column weight empty f (row_before tables change) e))
      (sym (counted_of-apart how table (table_of change) by column weight empty f (row_after change) e))

  none_counted : (column : ℕ) (weight : ℤ) (o : Option Row) (id : ℕ) → values_for (counted_of (Own column weight) (table_of change) o) id ≡ []
  none_counted column weight None id = refl
  none_counted column weight (Some row) id = refl

  pub values-exchanged : (component : Component) (id : ℕ)
      → ascending_values (counted_values (changed tables change) component id)
      ≡ exchange component id (ascending_values (counted_values tables component id))
  unfolding ascending_values
  values-exchanged (Own column weight) id =
      sym (ap₂ (λ us vs. without_values us (with_values vs []))
      (none_counted column weight (row_before tables change) id) (none_counted column weight (row_after change) id))
  values-exchanged (Over how table by column weight empty f) id =
      over_step how table by column weight empty f id (table == table_of change) refl

  -- ---- what is counted of the row that goes is there

  contains_one : (v : ℤ) (vs base : List ℤ) → vs ≡ v ∷ [] → Contains (with_values vs base) v
  contains_one v vs base e = subst (λ us. Contains (with_values us base) v) (sym e) (Contains-with_value v base)

  there_at : (how : Aggregate) (table by column : ℕ) (weight empty : ℤ) (f : Option Filter) (k : Counted) (b : Bool) → (table == table_of change) ≡ b
      → counted_of (Over how table by column weight empty f) (table_of change) (row_before tables change) ≡ Some k
      → Contains (ascending_values (counted (rows_in tables table) by column f k.id)) k.value
  there_at how table by column weight empty f k true e is =
      let same : table ≡ table_of change = grind (arith, nat_tests, e) in
      let here : (k.id == k.id) ≡ true = grind (arith, nat_tests) in
      let one = sym (counted_of-here how (table_of change) by column weight empty f (row_before tables change) k.id)
      ∙ ap (λ t. values_for (counted_of (Over how t by column weight empty f) (table_of change) (row_before tables change)) k.id) (sym same)
      ∙ ap (λ o. values_for o k.id) is
      ∙ ap (λ b. cond b (k.value ∷ []) []) here in
      subst (λ t. Contains (ascending_values (counted (rows_in tables t) by column f k.id)) k.value) (sym same)
      (subst (λ vs. Contains vs k.value)
      (sym (before-with by column f k.id (row_before tables change) (row_after change) (rows_in tables (table_of change))
      (rows_in (changed tables change) (table_of change)) swap))
      (contains_one k.value (counted_one by column f k.id (row_before tables change)) _ one))
  there_at how table by column weight empty f k false e is =
      absurd (let none = sym (counted_of-apart how table (table_of change) by column weight empty f (row_before tables change) e) ∙ is in
      let no : None ≡ Some k = none in cc)

  own_none : (column : ℕ) (weight : ℤ) (k : Counted) (o : Option Row) → counted_of (Own column weight) (table_of change) o ≡ Some k → ⊥
  own_none column weight k None e = let no : None ≡ Some k = e in cc
  own_none column weight k (Some row) e = let no : None ≡ Some k = e in cc

  is_counted : (component : Component) (o : Option Counted) → counted_of component (table_of change) (row_before tables change) ≡ o
      → (groups : Grouped) (c : ℕ)
      → ((id : ℕ) → values_at groups c id ≡ ascending_values (counted_values tables component id))
      → IsCounted groups c o
  is_counted component None is groups c values = tt
  is_counted (Own column weight) (Some k) is groups c values =
      absurd (own_none column weight k (row_before tables change) is)
  is_counted (Over how table by column weight empty f) (Some k) is groups c values =
      subst (λ vs. Contains vs k.value) (sym (values k.id))
      (there_at how table by column weight empty f k (table == table_of change) refl is)

  module _ (s : Schema) (v : Viewed) (stands : StandsFor s tables v) where
    pub AllCounted-stands : AllCounted s.components (table_of change) (row_before tables change) v.groups
    AllCounted-stands c component at =
        is_counted component (counted_of component (table_of change) (row_before tables change)) refl v.groups c (stands.values c component at)

    -- the values after a change are those of the rows after it
    pub values-after : (groups : Grouped) → Recounts s.components (table_of change) (row_before tables change) (row_after change) v.groups groups
        → (c : ℕ) (component : Component) → slice_get s.components c ≡ Some component
        → (id : ℕ) → values_at groups c id ≡ ascending_values (counted_values (changed tables change) component id)
    values-after groups h c component at id =
        h.values c component at id
        ∙ ap (exchange component id) (stands.values c component at id)
        ∙ sym (values-exchanged component id)

-- ---- there is room for one value more

filter_step : (b : Bool) (r : Row) (kept rows : List Row) → length kept ≤ length rows → length (cond b (r ∷ kept) kept) ≤ length (r ∷ rows)
filter_step true r kept rows h = omega arith
filter_step false r kept rows h = omega arith

length-filter_le : (p : Row → Bool) (rows : List Row) → length (filter p rows) ≤ length rows
length-filter_le p [] = omega arith
length-filter_le p (r ∷ rows) = filter_step (p r) r (filter p rows) rows (length-filter_le p rows)

few_values : (tables : List TableRows) (component : Component) (id : ℕ) → All IsTableRows tables
    → length (counted_values tables component id) ≤ 2 ^ 18
few_values tables (Own column weight) id lawful = omega arith
few_values tables (Over how table by column weight empty f) id lawful =
    let rows = rows_in tables table in
    omega (
      arith,
      rows_few tables table lawful,
      length-map (filter (counts_for by f id) rows) (number_at column),
      length-filter_le (counts_for by f id) rows,
    )

pub IsRoomy-stands : (s : Schema) (tables : List TableRows) (v : Viewed) → All IsTableRows tables → StandsFor s tables v
    → IsRoomy s.components v.groups
IsRoomy-stands s tables v lawful stands c component at id =
    let values = counted_values tables component id in
    omega (arith, ap length (stands.values c component at id), length-ascending_values values, few_values tables component id lawful)
