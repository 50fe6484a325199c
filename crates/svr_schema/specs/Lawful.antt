-- The numbers, names, kinds and ranges of a schema that was accepted.
use Rattle.std.specs.Prelude.{◌≡◌, ◌≢◌, ◌≤◌, ℕ, ◌&&◌, ◌||◌, ◌==◌, not, Bool, true, false, ℤ, pos, neg_ℤ}
use Rattle.std.specs.Prelude.{List, [], ◌∷◌, length, map, nat_lt, slice_get, Option, Some, None, codes, MatchBool, ⊤}
use Rattle.std.specs.Int.Signed.{◌≤ℤ◌}
use Rattle.std.specs.Char.{is_ascii_lowercase, is_ascii_digit}
use Rattle.std.specs.List.{All, list_all, list_any}
use Rattle.std.specs.Str.{bytes_eq}
use Rattle.svr_num.specs.declared.aggregate.Aggregate.{Aggregate}
use Rattle.svr_num.specs.declared.aggregate.Aggregate.TheVariants as how
use Rattle.svr_schema.specs.declared.component.Cell.{Cell}
use Rattle.svr_schema.specs.declared.component.Cell.TheVariants as cell
use Rattle.svr_schema.specs.declared.component.Filter.{Filter}
use Rattle.svr_schema.specs.declared.component.Component.{Component}
use Rattle.svr_schema.specs.declared.component.Component.TheVariants.{Own, Over}
use Rattle.svr_schema.specs.declared.method.MethodSpec.{MethodSpec}
use Rattle.svr_schema.specs.declared.method.MethodSpec.TheVariants as method
use Rattle.svr_schema.specs.declared.table.ColumnKind.{ColumnKind}
use Rattle.svr_schema.specs.declared.table.ColumnKind.TheVariants as kind
use Rattle.svr_schema.specs.declared.table.Column.{Column}
use Rattle.svr_schema.specs.declared.table.Table.{Table}
use Rattle.svr_schema.specs.declared.schema.Schema.{Schema}
use Rattle.svr_schema.specs.Lookups.{is_kind}

-- a letter a to z, a digit or _
abbrev pub is_name_byte : ℕ → Bool
is_name_byte c = is_ascii_lowercase c || is_ascii_digit c || c == 95

-- 1 to 32 bytes, first a letter a to z, then letters a to z, digits and _
unfoldable pub is_name : List ℕ → Bool
is_name [] = false
is_name (c ∷ cs) = is_ascii_lowercase c && nat_lt (length cs) 32 && list_all is_name_byte cs

-- no name stands twice
unfoldable pub are_different : List (List ℕ) → Bool
are_different [] = true
are_different (name ∷ names) = not (list_any (bytes_eq name) names) && are_different names

-- the first column is `id`, and int
unfoldable pub begins_with_id : List Column → Bool
begins_with_id [] = false
begins_with_id (c ∷ cs) = bytes_eq c.name (codes "id") && is_kind c.kind kind.Int

-- a table with a name and 1 to 8 columns of different names, the first of which is the id
pub record IsTable (t : Table) : Type 0 where
  pub named : is_name t.name ≡ true
  pub some : 1 ≤ length t.columns
  pub few : length t.columns ≤ 8
  pub columns_named : list_all (λ c. is_name c.name) t.columns ≡ true
  pub different : are_different (map (λ c. c.name) t.columns) ≡ true
  pub id_first : begins_with_id t.columns ≡ true

-- a column of this kind stands at the place
abbrev pub IsOfKind : ColumnKind → List Column → ℕ → Type 0
IsOfKind kind columns at = (c : Column) × (slice_get columns at ≡ Some c) × (c.kind ≡ kind)

-- the cell is of the column's kind
abbrev pub kind_of : Cell → ColumnKind
kind_of (cell.Int n) = kind.Int
kind_of (cell.Text t) = kind.Text

-- the filter, if there is one, asks for a cell of its column's kind
abbrev pub IsFilter : List Column → Option Filter → Type 0
IsFilter columns None = ⊤
IsFilter columns (Some f) = IsOfKind (kind_of f.equals) columns f.column

-- from -1,000,000,000 to 1,000,000,000
pub record IsWeight (n : ℤ) : Type 0 where
  pub low : neg_ℤ (pos 1000000000) ≤ℤ n
  pub high : n ≤ℤ pos 1000000000

-- whether it takes the numbers of a column
abbrev pub has_column : Aggregate → Bool
has_column how.Count = false
has_column _ = true

-- whether a number stands in where no row counts
abbrev pub has_empty : Aggregate → Bool
has_empty how.Sum = false
has_empty how.Count = false
has_empty _ = true

-- a component over the rows of another table
pub record IsOver (tables : List Table) (text_table : ℕ) (how : Aggregate) (table by column : ℕ) (weight empty : ℤ) (filter : Option Filter)
    : Type 0 where
  pub there : Table
  pub at : slice_get tables table ≡ Some there
  pub other : table ≢ text_table
  pub by_int : IsOfKind kind.Int there.columns by
  pub column_int : MatchBool (has_column how) (IsOfKind kind.Int there.columns column) (column ≡ 0)
  pub weighted : IsWeight weight
  pub stood_in : MatchBool (has_empty how) (IsWeight empty) (empty ≡ pos 0)
  pub filtered : IsFilter there.columns filter

-- a component of the documents' own rows
pub record IsOwn (tables : List Table) (text_table column : ℕ) (weight : ℤ) : Type 0 where
  pub there : Table
  pub at : slice_get tables text_table ≡ Some there
  pub column_int : IsOfKind kind.Int there.columns column
  pub weighted : IsWeight weight

-- a component whose tables, columns and numbers are as the rules want them
abbrev pub IsComponent : List Table → ℕ → Component → Type 0
IsComponent tables text_table (Own column weight) = IsOwn tables text_table column weight
IsComponent tables text_table (Over how table by column weight empty filter) =
    IsOver tables text_table how table by column weight empty filter

-- a method whose numbers are in their ranges
abbrev pub IsMethod : MethodSpec → Type 0
IsMethod method.Id = ⊤
IsMethod method.Score = ⊤
IsMethod (method.Threshold num den) = (1 ≤ den) × (den ≤ num) × (num ≤ 1000000)
IsMethod (method.Chunk ratio min_docs) = (100 ≤ ratio) × (ratio ≤ 100000) × (1 ≤ min_docs) × (min_docs ≤ 1000000)

-- the text column stands there
pub record HasText (tables : List Table) (text_table text_column : ℕ) : Type 0 where
  pub there : Table
  pub at : slice_get tables text_table ≡ Some there
  pub column_text : IsOfKind kind.Text there.columns text_column

-- what a caller may rely on
pub record IsSchema (s : Schema) : Type 0 where
  pub some_tables : 1 ≤ length s.tables
  pub few_tables : length s.tables ≤ 8
  pub tables : All IsTable s.tables
  pub different : are_different (map (λ t. t.name) s.tables) ≡ true
  pub text : HasText s.tables s.text_table s.text_column
  pub few_components : length s.components ≤ 8
  pub components : All (IsComponent s.tables s.text_table) s.components
  pub divisor_low : pos 1 ≤ℤ s.divisor
  pub divisor_high : s.divisor ≤ℤ pos 1000000000
  pub method : IsMethod s.method
