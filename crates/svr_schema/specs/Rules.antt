-- The rules of a schema, each over the whole value, and the schema that a value says.
use Rattle.std.specs.Prelude.{◌≡◌, ℕ, ◌&&◌, Bool, true, false, ℤ, pos, List, [], ◌∷◌, length}
use Rattle.std.specs.Prelude.{map, nat_le, codes, if◌then◌else◌, Option, Some, None, Result, Ok, Err}
use Rattle.std.specs.List.{list_all}
use Rattle.std.specs.Str.{bytes_eq}
use Rattle.serde_json.specs.Data.{Data}
use Rattle.serde_json.specs.Find.{get}
use Rattle.serde_json.specs.Written.{compact_text, has_float}
use Rattle.svr_json.specs.Parts.{◌>>=◌, has_members, only_if}
use Rattle.svr_schema.specs.declared.method.MethodSpec.{MethodSpec}
use Rattle.svr_schema.specs.declared.method.MethodSpec.TheVariants as method
use Rattle.svr_schema.specs.declared.schema.Schema.{Schema}
use Rattle.svr_schema.specs.declared.schema.TextPlace.{TextPlace}
use Rattle.svr_schema.specs.declared.table.Table.{Table}
use Rattle.svr_schema.specs.Components.{components_in, is_component, is_filtered, is_placed, is_weighted}
use Rattle.svr_schema.specs.Lawful.{are_different, begins_with_id}
use Rattle.svr_schema.specs.Parts.{count_within, elements_at, is_list_at, text_or_empty, whole_within}
use Rattle.svr_schema.specs.Tables.{columns_differ, has_columns, is_named, is_table, tables_in, text_column_in, text_table_in}

-- 1: an object of exactly these five members
abbrev pub has_parts : Data → Bool
has_parts d = has_members (codes "components" ∷ codes "divisor" ∷ codes "method" ∷ codes "tables" ∷ codes "text" ∷ []) d

-- 2: 1 to 8 tables, each an object of exactly a name and columns
abbrev pub has_tables : Data → Bool
has_tables d = is_list_at (codes "tables") 1 8 d && list_all is_table (elements_at (codes "tables") d)

-- 3: each of 1 to 8 columns, objects of exactly a name and a type
abbrev pub have_columns : Data → Bool
have_columns d = list_all has_columns (elements_at (codes "tables") d)

-- 4: tables and columns have names
abbrev pub are_named : List Table → Bool
are_named tables = list_all is_named tables

-- 5: no two tables have one name
abbrev pub have_different_names : List Table → Bool
have_different_names tables = are_different (map (λ t. t.name) tables)

-- 6: no two columns of a table have one name
abbrev pub have_different_columns : List Table → Bool
have_different_columns tables = list_all columns_differ tables

-- 7: the first column of each table is `id`, and int
abbrev pub begin_with_id : List Table → Bool
begin_with_id tables = list_all (λ t. begins_with_id t.columns) tables

-- 8: an object of exactly a table's name and the name of a text column of it; these are their places
unfoldable pub text_place : List Table → Data → Option TextPlace
text_place tables d = do
  text ← get (codes "text") d
  form ← only_if (has_members (codes "column" ∷ codes "table" ∷ []) text) text
  table ← text_table_in tables form
  column ← text_column_in tables table form
  Some (record { table = table; column = column })

-- 9: 0 to 8 components, objects of exactly the members of their kinds
abbrev pub has_components : Data → Bool
has_components d = is_list_at (codes "components") 0 8 d && list_all is_component (elements_at (codes "components") d)

-- 10: whose tables and columns are there
abbrev pub are_placed : List Table → ℕ → Data → Bool
are_placed tables text_table d = list_all (is_placed tables text_table) (elements_at (codes "components") d)

-- 11: whose numbers are in their ranges
abbrev pub are_weighted : Data → Bool
are_weighted d = list_all is_weighted (elements_at (codes "components") d)

-- 12: whose filters are filters of their tables
abbrev pub are_filtered : List Table → ℕ → Data → Bool
are_filtered tables text_table d = list_all (is_filtered tables text_table) (elements_at (codes "components") d)

-- 13: a whole number from 1 to 1,000,000,000
unfoldable pub divisor_in : Data → Option ℤ
divisor_in d = whole_within (codes "divisor") (pos 1) (pos 1000000000) d

-- 14: one of four forms, each an object of exactly its members, with its numbers in their ranges
abbrev pub plain_in : MethodSpec → Data → Option MethodSpec
plain_in m d = only_if (has_members (codes "kind" ∷ []) d) m

abbrev pub threshold_in : Data → Option MethodSpec
threshold_in d = do
  form ← only_if (has_members (codes "den" ∷ codes "kind" ∷ codes "num" ∷ []) d) d
  num ← count_within (codes "num") 1 1000000 form
  den ← count_within (codes "den") 1 num form
  Some (method.Threshold num den)

abbrev pub chunk_in : Data → Option MethodSpec
chunk_in d = do
  form ← only_if (has_members (codes "kind" ∷ codes "min_docs" ∷ codes "ratio" ∷ []) d) d
  ratio ← count_within (codes "ratio") 100 100000 form
  min_docs ← count_within (codes "min_docs") 1 1000000 form
  Some (method.Chunk ratio min_docs)

abbrev pub method_of_kind : List ℕ → Data → Option MethodSpec
method_of_kind kind d =
    if bytes_eq kind (codes "id") then plain_in method.Id d
    else if bytes_eq kind (codes "score") then plain_in method.Score d
    else if bytes_eq kind (codes "score-threshold") then threshold_in d
    else if bytes_eq kind (codes "chunk") then chunk_in d
    else None

unfoldable pub method_in : Data → Option MethodSpec
method_in d = do
  m ← get (codes "method") d
  method_of_kind (text_or_empty (codes "kind") m) m

-- and the text that is written for the value has at most 1,048,576 bytes
abbrev pub has_short_text : Data → Bool
has_short_text d = nat_le (length (compact_text d)) 1048576

-- the text that is written for the value is determined by it, and isn't too long
pub record IsWritable (d : Data) : Type 0 where
  pub plain : has_float d ≡ false
  pub short : has_short_text d ≡ true

-- ---- all rules, the first that fails before the others

-- what is read later, where the rule of this number holds
abbrev pub rule : {A : Type 0} → ℕ → Bool → Result A ℕ → Result A ℕ
rule n holds later = if holds then later else Err n

-- what is read later, with what the rule of this number gives
abbrev pub rule_gives : {A B : Type 0} → ℕ → Option A → (A → Result B ℕ) → Result B ℕ
rule_gives n None later = Err n
rule_gives n (Some x) later = later x

-- the schema that a value says, or the number of the first rule that fails
unfoldable pub schema_in : Data → Result Schema ℕ
schema_in d =
    let tables = tables_in d in
    rule 1 (has_parts d)
    (rule 2 (has_tables d)
    (rule 3 (have_columns d)
    (rule 4 (are_named tables)
    (rule 5 (have_different_names tables)
    (rule 6 (have_different_columns tables)
    (rule 7 (begin_with_id tables)
    (rule_gives 8 (text_place tables d) (λ text.
    rule 9 (has_components d)
    (rule 10 (are_placed tables text.table d)
    (rule 11 (are_weighted d)
    (rule 12 (are_filtered tables text.table d)
    (rule_gives 13 (divisor_in d) (λ divisor.
    rule_gives 14 (method_in d) (λ m.
    rule 14 (has_short_text d)
    (Ok (record {
      tables = tables;
      text_table = text.table;
      text_column = text.column;
      components = components_in tables text.table d;
      divisor = divisor;
      method = m;
    }))))))))))))))))
