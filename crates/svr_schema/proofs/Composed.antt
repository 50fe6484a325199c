-- What a component of a value keeps.
use Rattle.std.proofs.Common.{◌≡◌, ◌≢◌, ◌≤◌, ◌==◌, ℕ, suc, ℤ, pos, neg_ℤ, true, not, MatchBool}
use Rattle.std.proofs.Common.{List, [], ◌∷◌, length, codes, Option, Some, None, refl, ap, subst, arith}
use Rattle.std.specs.List.{AllByRecursion, cons_option, filter_map, slice_get}
use Rattle.std.specs.Option.{option_map_or}
use Rattle.std.proofs.lemmas.Bool.Decides.{nat_tests}
use Rattle.serde_json.specs.Data.{Data}
use Rattle.svr_num.specs.declared.aggregate.Aggregate.{Aggregate}
use Rattle.svr_num.specs.declared.aggregate.Aggregate.TheVariants as how
use Rattle.svr_schema.specs.declared.component.Cell.{Cell}
use Rattle.svr_schema.specs.declared.component.Cell.TheVariants as cell
use Rattle.svr_schema.specs.declared.component.Filter.{Filter}
use Rattle.svr_schema.specs.declared.component.Component.{Component}
use Rattle.svr_schema.specs.declared.component.Component.TheVariants.{Own, Over}
use Rattle.svr_schema.specs.declared.read_component.Kind.{Kind}
use Rattle.svr_schema.specs.declared.read_component.Kind.TheVariants as kinds
use Rattle.svr_schema.specs.declared.read_component.Places.{Places}
use Rattle.svr_schema.specs.declared.table.ColumnKind.{ColumnKind}
use Rattle.svr_schema.specs.declared.table.ColumnKind.TheVariants as kind
use Rattle.svr_schema.specs.declared.table.Column.{Column}
use Rattle.svr_schema.specs.declared.table.Table.{Table}
use Rattle.svr_schema.specs.Components.{aggregated, cell_of, component_as, component_in, kind_in, filter_at, filter_in, filter_of}
use Rattle.svr_schema.specs.Components.{int_column, other_table, over_in, own_in, places_in, stand_in, weight_at}
use Rattle.svr_schema.specs.Lawful.{IsComponent, IsFilter, IsOfKind, IsWeight, has_column, has_empty, kind_of}
use Rattle.serde_json.specs.Find.{get}
use Rattle.svr_json.specs.Parts.{has_members}
use Rattle.svr_schema.specs.Lookups.{column_at, column_of_kind, is_kind, table_at}
use Rattle.svr_schema.specs.Parts.{is_within, text_or_empty, whole_at}
use Rattle.svr_schema.specs.Tables.{columns_of}
use Rattle.svr_schema.proofs.Steps.{and_true, and_then-some, form-some, is_within-true, only_if-some, option_map-some, position-at}

same_kind : (a b : ColumnKind) → is_kind a b ≡ true → a ≡ b
same_kind kind.Int kind.Int e = refl
same_kind kind.Text kind.Text e = refl
same_kind kind.Int kind.Text e = cc
same_kind kind.Text kind.Int e = cc

pub column_of_kind-IsOfKind : (k : ColumnKind) (columns : List Column) (name : List ℕ) (i : ℕ) → column_of_kind k columns name ≡ Some i
    → IsOfKind k columns i
column_of_kind-IsOfKind k columns name i e =
    let found = position-at _ columns i e in
    (found.0, found.1, same_kind found.0.kind k (and_true _ _ found.2).1)

-- the table is there, with these columns
pub record Stands (tables : List Table) (at : ℕ) : Type 0 where
  pub there : Table
  pub at_is : slice_get tables at ≡ Some there
  pub columns : columns_of tables at ≡ there.columns

stands : (o : Option Table) (i : ℕ) (c : Column) → slice_get (option_map_or (λ t. t.columns) o []) i ≡ Some c
    → (t : Table) × (o ≡ Some t) × (option_map_or (λ t. t.columns) o [] ≡ t.columns)
stands None i c e = cc
stands (Some t) i c e = (t, refl, refl)

-- a table that has a column is there
pub Stands-from_column : (tables : List Table) (at i : ℕ) (c : Column) → slice_get (columns_of tables at) i ≡ Some c → Stands tables at
Stands-from_column tables at i c e = let s = stands (slice_get tables at) i c e in record { there = s.0; at_is = s.1; columns = s.2 }

-- the column of a kind, of the table where it stands
of_table : (k : ColumnKind) (tables : List Table) (at i : ℕ) (s : Stands tables at) → IsOfKind k (columns_of tables at) i
    → IsOfKind k s.there.columns i
of_table k tables at i s h = subst (λ (cs : List Column). IsOfKind k cs i) s.columns h

weight_at-IsWeight : (name : List ℕ) (d : Data) (n : ℤ) → weight_at name d ≡ Some n → IsWeight n
weight_at-IsWeight name d n e =
    let one = and_then-some (whole_at name d) _ n e in
    let two = only_if-some (is_within (neg_ℤ (pos 1000000000)) (pos 1000000000) one.0) one.0 n one.2 in
    let range = is_within-true _ _ one.0 two.0 in
    subst IsWeight two.1 (record { low = range.0; high = range.1 })

IsOwn-from_some : (tables : List Table) (text_table : ℕ) (d : Data) (c : Component) → own_in tables text_table d ≡ Some c
    → IsComponent tables text_table c
IsOwn-from_some tables text_table d c e =
    let one = and_then-some (int_column tables text_table (codes "column") d) _ c e in
    let two = and_then-some (weight_at (codes "weight") d) _ c one.2 in
    let is : Own one.0 two.0 ≡ c = cc two.2 in
    let k = column_of_kind-IsOfKind kind.Int (columns_of tables text_table) _ one.0 one.1 in
    let s = Stands-from_column tables text_table one.0 k.0 k.1 in
    subst (IsComponent tables text_table) is
    (record {
      there = s.there;
      at = s.at_is;
      column_int = of_table kind.Int tables text_table one.0 s k;
      weighted = weight_at-IsWeight (codes "weight") d two.0 two.1;
    })

other_table-some : (tables : List Table) (text_table : ℕ) (d : Data) (t : ℕ) → other_table tables text_table d ≡ Some t → t ≢ text_table
other_table-some tables text_table d t e =
    let one = and_then-some (table_at tables (text_or_empty (codes "table") d)) _ t e in
    let two = only_if-some (not (one.0 == text_table)) one.0 t one.2 in
    λ same. grind (arith, nat_tests, two.0, two.1, same)

aggregated-some : (tables : List Table) (table : ℕ) (h : Aggregate) (d : Data) (i : ℕ) (s : Stands tables table)
    → aggregated tables table h d ≡ Some i
    → MatchBool (has_column h) (IsOfKind kind.Int s.there.columns i) (i ≡ 0)
aggregated-some tables table how.Count d i s e = cc
aggregated-some tables table how.Sum d i s e = of_table kind.Int tables table i s (column_of_kind-IsOfKind kind.Int _ _ i e)
aggregated-some tables table how.Min d i s e = of_table kind.Int tables table i s (column_of_kind-IsOfKind kind.Int _ _ i e)
aggregated-some tables table how.Max d i s e = of_table kind.Int tables table i s (column_of_kind-IsOfKind kind.Int _ _ i e)
aggregated-some tables table how.Avg d i s e = of_table kind.Int tables table i s (column_of_kind-IsOfKind kind.Int _ _ i e)

stand_in-some : (h : Aggregate) (d : Data) (n : ℤ) → stand_in h d ≡ Some n → MatchBool (has_empty h) (IsWeight n) (n ≡ pos 0)
stand_in-some how.Sum d n e = cc
stand_in-some how.Count d n e = cc
stand_in-some how.Min d n e = weight_at-IsWeight (codes "empty") d n e
stand_in-some how.Max d n e = weight_at-IsWeight (codes "empty") d n e
stand_in-some how.Avg d n e = weight_at-IsWeight (codes "empty") d n e

cell_of-some : (k : ColumnKind) (d : Data) (c : Cell) → cell_of k d ≡ Some c → k ≡ kind_of c
cell_of-some kind.Int d c e = let one = option_map-some cell.Int _ c e in ap kind_of one.2
cell_of-some kind.Text d c e = let one = option_map-some cell.Text _ c e in ap kind_of one.2

filter_of-some : (columns : List Column) (d : Data) (f : Filter) → filter_of columns d ≡ Some f → IsFilter columns (Some f)
filter_of-some columns d f e =
    let form = form-some (has_members (codes "column" ∷ codes "equals" ∷ []) d) d _ f e in
    let one = and_then-some (column_at columns (text_or_empty (codes "column") d)) _ f form.1 in
    let two = and_then-some (slice_get columns one.0) _ f one.2 in
    let three = and_then-some (get (codes "equals") d) _ f two.2 in
    let four = and_then-some (cell_of two.0.kind three.0) _ f three.2 in
    let made : Filter = record { column = one.0; equals = four.0 } in
    let same : made ≡ f = cc four.2 in
    let is : IsFilter columns (Some made) = (two.0, two.1, cell_of-some two.0.kind three.0 four.0 four.1) in
    subst (λ (g : Filter). IsFilter columns (Some g)) same is

filter_at-some : (columns : List Column) (o : Option Data) (f : Option Filter) → filter_at columns o ≡ Some f → IsFilter columns f
filter_at-some columns None f e = let is : None ≡ f = cc in subst (IsFilter columns) is tt
filter_at-some columns (Some d) f e =
    let one = option_map-some Some (filter_of columns d) f e in
    subst (IsFilter columns) one.2 (filter_of-some columns d one.0 one.1)

-- the steps to the places of a component over another table
pub record Placed (tables : List Table) (text_table : ℕ) (h : Aggregate) (d : Data) (p : Places) : Type 0 where
  pub table : other_table tables text_table d ≡ Some p.table
  pub by : int_column tables p.table (codes "by") d ≡ Some p.by
  pub column : aggregated tables p.table h d ≡ Some p.column

pub Placed-from_some : (tables : List Table) (text_table : ℕ) (h : Aggregate) (d : Data) (p : Places)
    → places_in tables text_table h d ≡ Some p → Placed tables text_table h d p
Placed-from_some tables text_table h d p e =
    let one = and_then-some (other_table tables text_table d) _ p e in
    let two = and_then-some (int_column tables one.0 (codes "by") d) _ p one.2 in
    let three = and_then-some (aggregated tables one.0 h d) _ p two.2 in
    let q : Places = record { table = one.0; by = two.0; column = three.0 } in
    let is : q ≡ p = cc three.2 in
    subst (Placed tables text_table h d) is (record { table = one.1; by = two.1; column = three.1 })

IsOver-from_some : (tables : List Table) (text_table : ℕ) (h : Aggregate) (d : Data) (c : Component)
    → over_in tables text_table h d ≡ Some c → IsComponent tables text_table c
IsOver-from_some tables text_table h d c e =
    let one = and_then-some (places_in tables text_table h d) _ c e in
    let p = one.0 in
    let two = and_then-some (weight_at (codes "weight") d) _ c one.2 in
    let three = and_then-some (stand_in h d) _ c two.2 in
    let four = and_then-some (filter_in tables p.table d) _ c three.2 in
    let is : Over h p.table p.by p.column two.0 three.0 four.0 ≡ c = cc four.2 in
    let placed = Placed-from_some tables text_table h d p one.1 in
    let k = column_of_kind-IsOfKind kind.Int (columns_of tables p.table) _ p.by placed.by in
    let s = Stands-from_column tables p.table p.by k.0 k.1 in
    let filter =
    subst (λ (cs : List Column). IsFilter cs four.0) s.columns
    (filter_at-some (columns_of tables p.table) (get (codes "filter") d) four.0 four.1) in
    subst (IsComponent tables text_table) is (record {
      there = s.there;
      at = s.at_is;
      other = other_table-some tables text_table d p.table placed.table;
      by_int = of_table kind.Int tables p.table p.by s k;
      column_int = aggregated-some tables p.table h d p.column s placed.column;
      weighted = weight_at-IsWeight (codes "weight") d two.0 two.1;
      stood_in = stand_in-some h d three.0 three.1;
      filtered = filter;
    })

pub component_as-IsComponent : (k : Option Kind) (tables : List Table) (text_table : ℕ) (d : Data) (c : Component)
    → component_as k tables text_table d ≡ Some c → IsComponent tables text_table c
component_as-IsComponent None tables text_table d c e = cc
component_as-IsComponent (Some kinds.Own) tables text_table d c e = IsOwn-from_some tables text_table d c e
component_as-IsComponent (Some (kinds.Over h)) tables text_table d c e = IsOver-from_some tables text_table h d c e

-- ---- the list of components

listed : (P : Component → Type 0) (o : Option Component) (rest : List Component) → ((c : Component) → o ≡ Some c → P c)
    → AllByRecursion P rest → AllByRecursion P (cons_option o rest)
listed P None rest h r = r
listed P (Some c) rest h r = (h c refl, r)

pub AllComponents : (tables : List Table) (text_table : ℕ) (es : List Data)
    → AllByRecursion (IsComponent tables text_table) (filter_map (component_in tables text_table) es)
AllComponents tables text_table [] = tt
AllComponents tables text_table (e ∷ es) =
    listed (IsComponent tables text_table) (component_in tables text_table e) (filter_map (component_in tables text_table) es)
    (λ c is. component_as-IsComponent (kind_in e) tables text_table e c is) (AllComponents tables text_table es)

length-cons_option : {Y : Type 0} (o : Option Y) (ys : List Y) → length (cons_option o ys) ≤ suc (length ys)
length-cons_option None ys = omega arith
length-cons_option (Some y) ys = omega arith

pub length-filter_map : {X Y : Type 0} (f : X → Option Y) (xs : List X) → length (filter_map f xs) ≤ length xs
length-filter_map f [] = omega arith
length-filter_map f (x ∷ xs) = omega (arith, length-cons_option (f x) (filter_map f xs), length-filter_map f xs)
