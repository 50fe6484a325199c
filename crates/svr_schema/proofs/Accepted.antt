-- What a value keeps of which all rules hold.
use Rattle.std.proofs.Common.{◌≡◌, ◌≤◌, ◌&&◌, ℕ, ℤ, pos, Bool, true, false, cond, List, [], ◌∷◌}
use Rattle.std.proofs.Common.{codes, nat_le, Option, Some, None, option_and_then, subst, ◌≤ℤ◌, arith}
use Rattle.std.specs.List.{list_all}
use Rattle.std.specs.Str.{bytes_eq}
use Rattle.std.proofs.lemmas.List.Elements.{All-from_recursion}
use Rattle.serde_json.specs.Data.{Data}
use Rattle.serde_json.specs.Find.{get, as_number, as_u64}
use Rattle.svr_json.specs.Parts.{has_members}
use Rattle.svr_schema.specs.declared.method.MethodSpec.{MethodSpec}
use Rattle.svr_schema.specs.declared.method.MethodSpec.TheVariants as method
use Rattle.svr_schema.specs.declared.schema.Schema.{Schema}
use Rattle.svr_schema.specs.declared.schema.TextPlace.{TextPlace}
use Rattle.svr_schema.specs.declared.table.ColumnKind.TheVariants as kind
use Rattle.svr_schema.specs.declared.table.Column.{Column}
use Rattle.svr_schema.specs.declared.table.Table.{Table}
use Rattle.svr_schema.specs.Components.{component_in, components_in, is_filtered, is_placed, is_weighted}
use Rattle.svr_schema.specs.Lawful.{HasText, IsMethod, IsOfKind, IsSchema}
use Rattle.svr_schema.specs.Lookups.{table_at}
use Rattle.svr_schema.specs.Parts.{count_within, elements_at, is_within, text_or_empty, whole_at}
use Rattle.svr_schema.specs.Rules.{chunk_in, divisor_in, has_components, method_in, method_of_kind, plain_in, text_place, threshold_in}
use Rattle.svr_schema.specs.Steps.{component_fault, table_fault}
use Rattle.svr_schema.specs.Tables.{columns_of, tables_in, text_column_in, text_table_in}
use Rattle.svr_schema.proofs.Composed.{AllComponents, Stands-from_column, column_of_kind-IsOfKind, length-filter_map}
use Rattle.svr_schema.proofs.Steps.{and_true, and_then-some, form-some, is_within-true, nat_le-true, only_if-some, first_fault-none}
use Rattle.svr_schema.proofs.Tabled.{AllTables, TablesHold-from_none, is_list_at-length, tables-length}

-- the steps to the place of the text column
pub record TextSteps (tables : List Table) (d : Data) (p : TextPlace) : Type 0 where
  pub text : Data
  pub at : get (codes "text") d ≡ Some text
  pub members : has_members (codes "column" ∷ codes "table" ∷ []) text ≡ true
  pub table : table_at tables (text_or_empty (codes "table") text) ≡ Some p.table
  pub column : text_column_in tables p.table text ≡ Some p.column

pub TextSteps-from_some : (tables : List Table) (d : Data) (p : TextPlace) → text_place tables d ≡ Some p → TextSteps tables d p
unfolding text_place
TextSteps-from_some tables d p e =
    let one = and_then-some (get (codes "text") d) _ p e in
    let text = one.0 in
    let two = form-some (has_members (codes "column" ∷ codes "table" ∷ []) text) text _ p one.2 in
    let three = and_then-some (text_table_in tables text) _ p two.1 in
    let four = and_then-some (text_column_in tables three.0 text) _ p three.2 in
    let q : TextPlace = record { table = three.0; column = four.0 } in
    let is : q ≡ p = cc four.2 in
    subst (TextSteps tables d) is (record { text = text; at = one.1; members = two.0; table = three.1; column = four.1 })

HasText-from_steps : (tables : List Table) (d : Data) (p : TextPlace) → TextSteps tables d p → HasText tables p.table p.column
HasText-from_steps tables d p t =
    let k = column_of_kind-IsOfKind kind.Text (columns_of tables p.table) (text_or_empty (codes "column") t.text) p.column t.column in
    let s = Stands-from_column tables p.table p.column k.0 k.1 in
    record { there = s.there; at = s.at_is; column_text = subst (λ (cs : List Column). IsOfKind kind.Text cs p.column) s.columns k }

-- ---- the method

count_within-some : (name : List ℕ) (low high : ℕ) (d : Data) (n : ℕ) → count_within name low high d ≡ Some n → (low ≤ n) × (n ≤ high)
count_within-some name low high d n e =
    let one = and_then-some (option_and_then as_u64 (option_and_then as_number (get name d))) _ n e in
    let two = only_if-some (nat_le low one.0 && nat_le one.0 high) one.0 n one.2 in
    let both = and_true (nat_le low one.0) (nat_le one.0 high) two.0 in
    let a = nat_le-true low one.0 both.0 in
    let b = nat_le-true one.0 high both.1 in
    (omega arith, omega arith)

pub either : {A : Type 0} (P : A → Type 0) (b : Bool) (x y : Option A) → ((a : A) → x ≡ Some a → P a) → ((a : A) → y ≡ Some a → P a)
    → (a : A) → cond b x y ≡ Some a → P a
either P true x y f g = f
either P false x y f g = g

threshold-IsMethod : (m : Data) (s : MethodSpec) → threshold_in m ≡ Some s → IsMethod s
threshold-IsMethod m s e =
    let form = form-some (has_members (codes "den" ∷ codes "kind" ∷ codes "num" ∷ []) m) m _ s e in
    let one = and_then-some (count_within (codes "num") 1 1000000 m) _ s form.1 in
    let two = and_then-some (count_within (codes "den") 1 one.0 m) _ s one.2 in
    let num = count_within-some (codes "num") 1 1000000 m one.0 one.1 in
    let den = count_within-some (codes "den") 1 one.0 m two.0 two.1 in
    let is : method.Threshold one.0 two.0 ≡ s = cc two.2 in
    subst IsMethod is (den.0, den.1, num.1)

chunk-IsMethod : (m : Data) (s : MethodSpec) → chunk_in m ≡ Some s → IsMethod s
chunk-IsMethod m s e =
    let form = form-some (has_members (codes "kind" ∷ codes "min_docs" ∷ codes "ratio" ∷ []) m) m _ s e in
    let one = and_then-some (count_within (codes "ratio") 100 100000 m) _ s form.1 in
    let two = and_then-some (count_within (codes "min_docs") 1 1000000 m) _ s one.2 in
    let ratio = count_within-some (codes "ratio") 100 100000 m one.0 one.1 in
    let min_docs = count_within-some (codes "min_docs") 1 1000000 m two.0 two.1 in
    let is : method.Chunk one.0 two.0 ≡ s = cc two.2 in
    subst IsMethod is (ratio.0, ratio.1, min_docs.0, min_docs.1)

plain-IsMethod : (m : MethodSpec) (d : Data) (s : MethodSpec) → IsMethod m → plain_in m d ≡ Some s → IsMethod s
plain-IsMethod m d s h e = subst IsMethod (only_if-some (has_members (codes "kind" ∷ []) d) m s e).1 h

method_of_kind-IsMethod : (k : List ℕ) (m : Data) (s : MethodSpec) → method_of_kind k m ≡ Some s → IsMethod s
method_of_kind-IsMethod k m =
    either IsMethod (bytes_eq k (codes "id")) _ _ (λ s e. plain-IsMethod method.Id m s tt e)
    (either IsMethod (bytes_eq k (codes "score")) _ _ (λ s e. plain-IsMethod method.Score m s tt e)
    (either IsMethod (bytes_eq k (codes "score-threshold")) _ _ (threshold-IsMethod m)
    (either IsMethod (bytes_eq k (codes "chunk")) _ _ (chunk-IsMethod m) (λ s e. cc))))

-- the method's value, by its kind
pub method-steps : (d : Data) (s : MethodSpec) → method_in d ≡ Some s
    → (m : Data) × (get (codes "method") d ≡ Some m) × (method_of_kind (text_or_empty (codes "kind") m) m ≡ Some s)
unfolding method_in
method-steps d s e = and_then-some (get (codes "method") d) _ s e

-- ---- the divisor

pub divisor-range : (d : Data) (n : ℤ) → divisor_in d ≡ Some n → (pos 1 ≤ℤ n) × (n ≤ℤ pos 1000000000)
unfolding divisor_in
divisor-range d n e =
    let one = and_then-some (whole_at (codes "divisor") d) _ n e in
    let two = only_if-some (is_within (pos 1) (pos 1000000000) one.0) one.0 n one.2 in
    let range = is_within-true (pos 1) (pos 1000000000) one.0 two.0 in
    subst (λ (z : ℤ). (pos 1 ≤ℤ z) × (z ≤ℤ pos 1000000000)) two.1 range

-- ---- the components

pub record ComponentsHold (tables : List Table) (text_table : ℕ) (d : Data) : Type 0 where
  pub listed : has_components d ≡ true
  pub placed : list_all (is_placed tables text_table) (elements_at (codes "components") d) ≡ true
  pub weighted : list_all is_weighted (elements_at (codes "components") d) ≡ true
  pub filtered : list_all (is_filtered tables text_table) (elements_at (codes "components") d) ≡ true

pub ComponentsHold-from_none : (tables : List Table) (text_table : ℕ) (d : Data) → component_fault tables text_table d ≡ None
    → ComponentsHold tables text_table d
unfolding component_fault
ComponentsHold-from_none tables text_table d e =
    let one = first_fault-none 9 _ _ e in
    let two = first_fault-none 10 _ _ one.1 in
    let three = first_fault-none 11 _ _ two.1 in
    let four = first_fault-none 12 _ _ three.1 in
    record { listed = one.0; placed = two.0; weighted = three.0; filtered = four.0 }

-- ---- the schema

-- what the rules before 13 found
pub record Before (d : Data) (p : TextPlace) : Type 0 where
  pub tables : table_fault d ≡ None
  pub text : text_place (tables_in d) d ≡ Some p
  pub components : component_fault (tables_in d) p.table d ≡ None

-- the schema of what was found
abbrev pub made : Data → TextPlace → ℤ → MethodSpec → Schema
made d p n m = record {
  tables = tables_in d;
  text_table = p.table;
  text_column = p.column;
  components = components_in (tables_in d) p.table d;
  divisor = n;
  method = m;
}

pub made-IsSchema : (d : Data) (p : TextPlace) (n : ℤ) (m : MethodSpec) → Before d p → divisor_in d ≡ Some n → method_in d ≡ Some m
    → IsSchema (made d p n m)
made-IsSchema d p n m b g h =
    let tables = TablesHold-from_none d b.tables in
    let components = ComponentsHold-from_none (tables_in d) p.table d b.components in
    let es = elements_at (codes "components") d in
    let count = is_list_at-length (codes "components") 0 8 d (and_true _ _ components.listed).0 in
    let range = divisor-range d n g in
    let steps = method-steps d m h in
    record {
      some_tables = (tables-length d tables).0;
      few_tables = (tables-length d tables).1;
      tables = AllTables d tables;
      different = tables.names_differ;
      text = HasText-from_steps (tables_in d) d p (TextSteps-from_some (tables_in d) d p b.text);
      few_components = omega (arith, length-filter_map (component_in (tables_in d) p.table) es, count.1);
      components = All-from_recursion _ _ (AllComponents (tables_in d) p.table es);
      divisor_low = range.0;
      divisor_high = range.1;
      method = method_of_kind-IsMethod (text_or_empty (codes "kind") steps.0) steps.0 m steps.2;
    }
