-- The tables and the text column of a value.
use Rattle.std.specs.Prelude.{ℕ, ◌&&◌, ◌||◌, Bool, List, [], ◌∷◌, map, codes, slice_get, if◌then◌else◌, Option}
use Rattle.std.specs.List.{list_all}
use Rattle.std.specs.Option.{option_map_or}
use Rattle.std.specs.Str.{bytes_eq}
use Rattle.serde_json.specs.Data.{Data}
use Rattle.svr_json.specs.Parts.{has_members}
use Rattle.svr_schema.specs.declared.table.ColumnKind.TheVariants as kind
use Rattle.svr_schema.specs.declared.table.Column.{Column}
use Rattle.svr_schema.specs.declared.table.Table.{Table}
use Rattle.svr_schema.specs.Lawful.{are_different, is_name}
use Rattle.svr_schema.specs.Lookups.{column_of_kind, table_at}
use Rattle.svr_schema.specs.Parts.{elements_at, is_list_at, text_or_empty}

-- the name of a column's type
abbrev pub is_type : List ℕ → Bool
is_type t = bytes_eq t (codes "int") || bytes_eq t (codes "text")

-- an object of a name and a type, `int` or `text`
abbrev pub is_column : Data → Bool
is_column d = has_members (codes "name" ∷ codes "type" ∷ []) d && is_type (text_or_empty (codes "type") d)

-- 1 to 8 columns stand at `columns`
abbrev pub has_columns : Data → Bool
has_columns d = is_list_at (codes "columns") 1 8 d && list_all is_column (elements_at (codes "columns") d)

-- the column that an object says, by its name and type
abbrev pub column_in : Data → Column
column_in d = record {
  name = text_or_empty (codes "name") d;
  kind = if bytes_eq (text_or_empty (codes "type") d) (codes "int") then kind.Int else kind.Text;
}

-- the table that an object says, by its name and columns
abbrev pub table_in : Data → Table
table_in d = record { name = text_or_empty (codes "name") d; columns = map column_in (elements_at (codes "columns") d) }

-- the tables of a value
abbrev pub tables_in : Data → List Table
tables_in d = map table_in (elements_at (codes "tables") d)

-- an object of a name and columns
abbrev pub is_table : Data → Bool
is_table d = has_members (codes "columns" ∷ codes "name" ∷ []) d

-- no two columns have one name
abbrev pub columns_differ : Table → Bool
columns_differ t = are_different (map (λ c. c.name) t.columns)

-- the table and its columns have names
abbrev pub is_named : Table → Bool
is_named t = is_name t.name && list_all (λ c. is_name c.name) t.columns

-- the columns of a table; none where there is no such table
abbrev pub columns_of : List Table → ℕ → List Column
columns_of tables at = option_map_or (λ t. t.columns) (slice_get tables at) []

-- the place of the table that a value names
abbrev pub text_table_in : List Table → Data → Option ℕ
text_table_in tables text = table_at tables (text_or_empty (codes "table") text)

-- the place of the text column of it that a value names
abbrev pub text_column_in : List Table → ℕ → Data → Option ℕ
text_column_in tables table text = column_of_kind kind.Text (columns_of tables table) (text_or_empty (codes "column") text)
