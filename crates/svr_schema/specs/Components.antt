-- The components of a value.
use Rattle.std.specs.Prelude.{ℕ, ◌&&◌, ◌||◌, ◌==◌, Bool, true, false, not, ℤ, pos, neg_ℤ, List, [], ◌∷◌}
use Rattle.std.specs.Prelude.{codes, slice_get, if◌then◌else◌, Option, Some, None, is_some, option_map}
use Rattle.std.specs.List.{filter_map}
use Rattle.std.specs.Str.{bytes_eq}
use Rattle.serde_json.specs.Data.{Data}
use Rattle.serde_json.specs.Find.{get, as_i64, as_number, as_str}
use Rattle.svr_json.specs.Parts.{◌>>=◌, has_members, only_if}
use Rattle.svr_num.specs.declared.aggregate.Aggregate.{Aggregate}
use Rattle.svr_num.specs.declared.aggregate.Aggregate.TheVariants as how
use Rattle.svr_schema.specs.declared.component.Cell.{Cell}
use Rattle.svr_schema.specs.declared.component.Cell.TheVariants as cell
use Rattle.svr_schema.specs.declared.component.Filter.{Filter}
use Rattle.svr_schema.specs.declared.component.Component.{Component}
use Rattle.svr_schema.specs.declared.component.Component.TheVariants.{Own, Over}
use Rattle.svr_schema.specs.declared.read_component.Kind.{Kind}
use Rattle.svr_schema.specs.declared.read_component.Kind.TheVariants as kinds
use Rattle.svr_schema.specs.declared.read_component.Places.{Places}
use Rattle.svr_schema.specs.declared.table.ColumnKind.{ColumnKind}
use Rattle.svr_schema.specs.declared.table.ColumnKind.TheVariants as kind
use Rattle.svr_schema.specs.declared.table.Column.{Column}
use Rattle.svr_schema.specs.declared.table.Table.{Table}
use Rattle.svr_schema.specs.Lookups.{column_at, column_of_kind, table_at}
use Rattle.svr_schema.specs.Parts.{elements_at, text_or_empty, whole_within}
use Rattle.svr_schema.specs.Tables.{columns_of}

-- what a component of this name is made of
abbrev pub kind_of_name : List ℕ → Option Kind
kind_of_name name =
    if bytes_eq name (codes "own") then Some kinds.Own
    else if bytes_eq name (codes "sum") then Some (kinds.Over how.Sum)
    else if bytes_eq name (codes "count") then Some (kinds.Over how.Count)
    else if bytes_eq name (codes "min") then Some (kinds.Over how.Min)
    else if bytes_eq name (codes "max") then Some (kinds.Over how.Max)
    else if bytes_eq name (codes "avg") then Some (kinds.Over how.Avg)
    else None

-- the same, of the name that a value has
abbrev pub kind_in : Data → Option Kind
kind_in d = kind_of_name (text_or_empty (codes "kind") d)

-- the members of a component over another table, without a filter
abbrev pub members_of : Aggregate → List (List ℕ)
members_of how.Sum = codes "by" ∷ codes "column" ∷ codes "kind" ∷ codes "table" ∷ codes "weight" ∷ []
members_of how.Count = codes "by" ∷ codes "kind" ∷ codes "table" ∷ codes "weight" ∷ []
members_of _ = codes "by" ∷ codes "column" ∷ codes "empty" ∷ codes "kind" ∷ codes "table" ∷ codes "weight" ∷ []

-- and with one
abbrev pub filtered_members_of : Aggregate → List (List ℕ)
filtered_members_of how.Sum = codes "by" ∷ codes "column" ∷ codes "filter" ∷ codes "kind" ∷ codes "table" ∷ codes "weight" ∷ []
filtered_members_of how.Count = codes "by" ∷ codes "filter" ∷ codes "kind" ∷ codes "table" ∷ codes "weight" ∷ []
filtered_members_of _ = codes "by" ∷ codes "column" ∷ codes "empty" ∷ codes "filter" ∷ codes "kind" ∷ codes "table" ∷ codes "weight" ∷ []

-- exactly the members of its kind
abbrev pub has_members_of : Option Kind → Data → Bool
has_members_of None d = false
has_members_of (Some kinds.Own) d = has_members (codes "column" ∷ codes "kind" ∷ codes "weight" ∷ []) d
has_members_of (Some (kinds.Over h)) d = has_members (members_of h) d || has_members (filtered_members_of h) d

-- an object of a known kind, with its members
abbrev pub is_component : Data → Bool
is_component d = has_members_of (kind_in d) d

-- the int column of a table that a member names
abbrev pub int_column : List Table → ℕ → List ℕ → Data → Option ℕ
int_column tables table name d = column_of_kind kind.Int (columns_of tables table) (text_or_empty name d)

-- the table that `table` names, other than that of the documents
abbrev pub other_table : List Table → ℕ → Data → Option ℕ
other_table tables text_table d = do
  table ← table_at tables (text_or_empty (codes "table") d)
  only_if (not (table == text_table)) table

-- the column that is aggregated; 0 where nothing but the number of rows counts
abbrev pub aggregated : List Table → ℕ → Aggregate → Data → Option ℕ
aggregated tables table how.Count d = Some 0
aggregated tables table _ d = int_column tables table (codes "column") d

-- the table and the columns of a component over another table
abbrev pub places_in : List Table → ℕ → Aggregate → Data → Option Places
places_in tables text_table h d = do
  table ← other_table tables text_table d
  by ← int_column tables table (codes "by") d
  column ← aggregated tables table h d
  Some (record { table = table; by = by; column = column })

-- its tables and columns are there, by its kind
abbrev pub is_placed_as : Option Kind → List Table → ℕ → Data → Bool
is_placed_as None tables text_table d = false
is_placed_as (Some kinds.Own) tables text_table d = is_some (int_column tables text_table (codes "column") d)
is_placed_as (Some (kinds.Over h)) tables text_table d = is_some (places_in tables text_table h d)

-- the same, by the kind that it says
abbrev pub is_placed : List Table → ℕ → Data → Bool
is_placed tables text_table d = is_placed_as (kind_in d) tables text_table d

-- a whole number from -1,000,000,000 to 1,000,000,000 at a member
abbrev pub weight_at : List ℕ → Data → Option ℤ
weight_at name d = whole_within name (neg_ℤ (pos 1000000000)) (pos 1000000000) d

-- what stands in where no row counts; 0 where a number of no rows is 0
abbrev pub stand_in : Aggregate → Data → Option ℤ
stand_in how.Sum d = Some (pos 0)
stand_in how.Count d = Some (pos 0)
stand_in _ d = weight_at (codes "empty") d

-- its numbers are in their ranges, by its kind
abbrev pub is_weighted_as : Option Kind → Data → Bool
is_weighted_as None d = false
is_weighted_as (Some kinds.Own) d = is_some (weight_at (codes "weight") d)
is_weighted_as (Some (kinds.Over h)) d = is_some (weight_at (codes "weight") d) && is_some (stand_in h d)

-- the same, by the kind that it says
abbrev pub is_weighted : Data → Bool
is_weighted d = is_weighted_as (kind_in d) d

-- a value as a cell of a kind
abbrev pub cell_of : ColumnKind → Data → Option Cell
cell_of kind.Int d = option_map cell.Int (as_number d >>= as_i64)
cell_of kind.Text d = option_map cell.Text (as_str d)

-- the filter that a value says over a table of these columns: an object of exactly a column and a cell of its kind
abbrev pub filter_of : List Column → Data → Option Filter
filter_of columns f = do
  form ← only_if (has_members (codes "column" ∷ codes "equals" ∷ []) f) f
  at ← column_at columns (text_or_empty (codes "column") form)
  column ← slice_get columns at
  value ← get (codes "equals") form
  equals ← cell_of column.kind value
  Some (record { column = at; equals = equals })

-- none where no filter stands there, and no answer where what stands there is none
abbrev pub filter_at : List Column → Option Data → Option (Option Filter)
filter_at columns None = Some None
filter_at columns (Some f) = option_map Some (filter_of columns f)

-- the filter of a component over a table
abbrev pub filter_in : List Table → ℕ → Data → Option (Option Filter)
filter_in tables table d = filter_at (columns_of tables table) (get (codes "filter") d)

-- its filter, if there is one, is one of its table, by its kind
abbrev pub is_filtered_as : Option Kind → List Table → ℕ → Data → Bool
is_filtered_as None tables text_table d = false
is_filtered_as (Some kinds.Own) tables text_table d = true
is_filtered_as (Some (kinds.Over h)) tables text_table d = is_some (do
  table ← other_table tables text_table d
  filter_in tables table d)

-- the same, by the kind that it says
abbrev pub is_filtered : List Table → ℕ → Data → Bool
is_filtered tables text_table d = is_filtered_as (kind_in d) tables text_table d

-- the component of the documents' own rows that a value says
abbrev pub own_in : List Table → ℕ → Data → Option Component
own_in tables text_table d = do
  column ← int_column tables text_table (codes "column") d
  weight ← weight_at (codes "weight") d
  Some (Own column weight)

-- the component over another table that a value says
abbrev pub over_in : List Table → ℕ → Aggregate → Data → Option Component
over_in tables text_table h d = do
  places ← places_in tables text_table h d
  weight ← weight_at (codes "weight") d
  empty ← stand_in h d
  filter ← filter_in tables places.table d
  Some (Over h places.table places.by places.column weight empty filter)

-- the component that a value says, by its kind
abbrev pub component_as : Option Kind → List Table → ℕ → Data → Option Component
component_as None tables text_table d = None
component_as (Some kinds.Own) tables text_table d = own_in tables text_table d
component_as (Some (kinds.Over h)) tables text_table d = over_in tables text_table h d

-- the same, by the kind that it says
abbrev pub component_in : List Table → ℕ → Data → Option Component
component_in tables text_table d = component_as (kind_in d) tables text_table d

-- those of a schema's value
abbrev pub components_in : List Table → ℕ → Data → List Component
components_in tables text_table d = filter_map (component_in tables text_table) (elements_at (codes "components") d)
