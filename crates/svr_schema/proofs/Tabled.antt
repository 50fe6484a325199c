-- The tables of a value of which rules 1 to 7 hold.
use Rattle.std.proofs.Common.{◌≡◌, ◌≤◌, ℕ, true, List, [], ◌∷◌, length, map, codes, None, arith}
use Rattle.std.proofs.lemmas.List.{length-map}
use Rattle.std.specs.List.{All, AllByRecursion, list_all}
use Rattle.std.proofs.lemmas.List.Elements.{All-from_recursion}
use Rattle.serde_json.specs.Data.{Data}
use Rattle.svr_schema.specs.declared.table.Table.{Table}
use Rattle.svr_schema.specs.Lawful.{IsTable, begins_with_id}
use Rattle.svr_schema.specs.Parts.{elements_at, is_list_at}
use Rattle.svr_schema.specs.Rules.{are_named, begin_with_id, has_parts}
use Rattle.svr_schema.specs.Rules.{has_tables, have_columns, have_different_columns, have_different_names}
use Rattle.svr_schema.specs.Steps.{AreFew, name_fault, table_fault}
use Rattle.svr_schema.specs.Tables.{column_in, columns_differ, has_columns, is_named, table_in, tables_in}
use Rattle.svr_schema.proofs.Steps.{and_true, nat_le-true, first_fault-none}

pub record TablesHold (d : Data) : Type 0 where
  pub parts : has_parts d ≡ true
  pub tables : has_tables d ≡ true
  pub columns : have_columns d ≡ true
  pub named : are_named (tables_in d) ≡ true
  pub names_differ : have_different_names (tables_in d) ≡ true
  pub columns_differ : have_different_columns (tables_in d) ≡ true
  pub ids : begin_with_id (tables_in d) ≡ true

pub TablesHold-from_none : (d : Data) → table_fault d ≡ None → TablesHold d
unfolding table_fault name_fault
TablesHold-from_none d e =
    let one = first_fault-none 1 _ _ e in
    let two = first_fault-none 2 _ _ one.1 in
    let three = first_fault-none 3 _ _ two.1 in
    let four = first_fault-none 4 _ _ three.1 in
    let five = first_fault-none 5 _ _ four.1 in
    let six = first_fault-none 6 _ _ five.1 in
    let seven = first_fault-none 7 _ _ six.1 in
    record {
      parts = one.0;
      tables = two.0;
      columns = three.0;
      named = four.0;
      names_differ = five.0;
      columns_differ = six.0;
      ids = seven.0;
    }

-- the elements of a list that has so many
pub is_list_at-length : (name : List ℕ) (low high : ℕ) (d : Data) → is_list_at name low high d ≡ true
    → (low ≤ length (elements_at name d)) × (length (elements_at name d) ≤ high)
is_list_at-length name low high d e =
    let upper = and_true _ _ e in
    let lower = and_true _ _ upper.0 in
    (nat_le-true low _ lower.1, nat_le-true _ high upper.1)

table_holds : (e : Data) → has_columns e ≡ true → is_named (table_in e) ≡ true → columns_differ (table_in e) ≡ true
    → begins_with_id (table_in e).columns ≡ true → IsTable (table_in e)
table_holds e cols named differ ids =
    let count = is_list_at-length (codes "columns") 1 8 e (and_true _ _ cols).0 in
    let names = and_true _ _ named in
    record {
      named = names.0;
      some = omega (arith, length-map (elements_at (codes "columns") e) column_in, count.0);
      few = omega (arith, length-map (elements_at (codes "columns") e) column_in, count.1);
      columns_named = names.1;
      different = differ;
      id_first = ids;
    }

tables_hold : (es : List Data) → list_all has_columns es ≡ true → list_all is_named (map table_in es) ≡ true
    → list_all columns_differ (map table_in es) ≡ true
    → list_all (λ t. begins_with_id t.columns) (map table_in es) ≡ true → AllByRecursion IsTable (map table_in es)
tables_hold [] a b c d = tt
tables_hold (e ∷ es) a b c d =
    let a2 = and_true _ _ a in
    let b2 = and_true _ _ b in
    let c2 = and_true _ _ c in
    let d2 = and_true _ _ d in
    (table_holds e a2.0 b2.0 c2.0 d2.0, tables_hold es a2.1 b2.1 c2.1 d2.1)

pub AllTables : (d : Data) → TablesHold d → All IsTable (tables_in d)
AllTables d h =
    All-from_recursion IsTable (tables_in d) (tables_hold (elements_at (codes "tables") d) h.columns h.named h.columns_differ h.ids)

pub tables-length : (d : Data) → TablesHold d → (1 ≤ length (tables_in d)) × (length (tables_in d) ≤ 8)
tables-length d h =
    let count = is_list_at-length (codes "tables") 1 8 d (and_true _ _ h.tables).0 in (
      omega (arith, length-map (elements_at (codes "tables") d) table_in, count.0),
      omega
          (arith, length-map (elements_at (codes "tables") d) table_in, count.1),
    )

few_columns : (ts : List Table) → AllByRecursion IsTable ts → AllByRecursion (λ t. length t.columns ≤ 8) ts
few_columns [] h = tt
few_columns (t ∷ ts) h = (h.0.few, few_columns ts h.1)

pub AreFew-tables : (d : Data) → TablesHold d → AreFew (tables_in d)
AreFew-tables d h = record {
  tables_few = (tables-length d h).1;
  columns_few =
      All-from_recursion _ (tables_in d)
      (few_columns (tables_in d) (tables_hold (elements_at (codes "tables") d) h.columns h.named h.columns_differ h.ids));
}
