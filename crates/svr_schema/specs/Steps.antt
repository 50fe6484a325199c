-- Words of private clauses: what parts of `read_schema` rely on, find and tell.
use Rattle.std.specs.Prelude.{◌≤◌, ℕ, Bool, List, length, if◌then◌else◌, Option, Some, None, option_map}
use Rattle.std.specs.List.{All}
use Rattle.serde_json.specs.Data.{Data}
use Rattle.svr_schema.specs.declared.component.Cell.{Cell}
use Rattle.svr_schema.specs.declared.component.Cell.TheVariants as cell
use Rattle.svr_schema.specs.declared.component.Filter.{Filter}
use Rattle.svr_schema.specs.declared.component.Component.{Component}
use Rattle.svr_schema.specs.declared.component.Component.TheVariants.{Over}
use Rattle.svr_schema.specs.declared.read_component.CellDraft.{CellDraft}
use Rattle.svr_schema.specs.declared.read_component.CellDraft.TheVariants as draft
use Rattle.svr_schema.specs.declared.read_component.FilterDraft.{FilterDraft}
use Rattle.svr_schema.specs.declared.read_component.OverDraft.{OverDraft}
use Rattle.svr_schema.specs.declared.table.Table.{Table}
use Rattle.svr_schema.specs.Rules.{are_filtered, are_named, are_placed, are_weighted, begin_with_id, has_components, has_parts, has_tables}
use Rattle.svr_schema.specs.Rules.{have_columns, have_different_columns, have_different_names}
use Rattle.svr_schema.specs.Tables.{tables_in}

-- at most eight tables of at most eight columns
pub record AreFew (tables : List Table) : Type 0 where
  pub tables_few : length tables ≤ 8
  pub columns_few : All (λ t. length t.columns ≤ 8) tables

-- ---- the first of some rules that fails

-- n, where the rule of this number fails, else the fault of later rules
abbrev pub first_fault : ℕ → Bool → Option ℕ → Option ℕ
first_fault n holds later = if holds then later else Some n

-- of the rules 4 to 7
unfoldable pub name_fault : List Table → Option ℕ
name_fault tables =
    first_fault 4 (are_named tables)
    (first_fault 5 (have_different_names tables)
    (first_fault 6 (have_different_columns tables)
    (first_fault 7 (begin_with_id tables) None)))

-- of the rules 1 to 7
unfoldable pub table_fault : Data → Option ℕ
table_fault d =
    first_fault 1 (has_parts d)
    (first_fault 2 (has_tables d)
    (first_fault 3 (have_columns d) (name_fault (tables_in d))))

-- of the rules 9 to 12
unfoldable pub component_fault : List Table → ℕ → Data → Option ℕ
component_fault tables text_table d =
    first_fault 9 (has_components d)
    (first_fault 10 (are_placed tables text_table d)
    (first_fault 11 (are_weighted d)
    (first_fault 12 (are_filtered tables text_table d) None)))

-- ---- what a draft stands for

abbrev pub cell_view : CellDraft → Cell
cell_view (draft.Int n) = cell.Int n
cell_view (draft.Text t) = cell.Text t.now

abbrev pub filter_view : FilterDraft → Filter
filter_view f = record { column = f.column; equals = cell_view f.equals }

abbrev pub over_view : OverDraft → Component
over_view o = Over o.how o.places.table o.places.by o.places.column o.weight o.empty (option_map filter_view o.filter)
