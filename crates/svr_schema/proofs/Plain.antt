-- A value of which all rules hold has no float.
use Rattle.std.proofs.Common.{◌≡◌, ◌||◌, ◌⊎◌, inl, inr, ℕ, ℤ, zero, suc, Bool, true, false, List, []}
use Rattle.std.proofs.Common.{◌∷◌, map, codes, Option, Some, None, option_and_then, is_some, refl, subst, ◌∙◌}
use Rattle.std.specs.List.{AllByRecursion, list_all, slice_get}
use Rattle.std.specs.Option.{option_map_or}
use Rattle.std.specs.Str.{bytes_eq}
use Rattle.std.proofs.lemmas.Bool.{false≢true}
use Rattle.std.proofs.lemmas.Slice.Eq.{bytes_eq-Decides}
use Rattle.serde_json.specs.Data.{Data}
use Rattle.serde_json.specs.Find.{as_i64, as_number, as_str, as_u64, get}
use Rattle.serde_json.specs.Written.{has_float}
use Rattle.svr_json.specs.Parts.{has_members}
use Rattle.svr_num.specs.declared.aggregate.Aggregate.{Aggregate}
use Rattle.svr_num.specs.declared.aggregate.Aggregate.TheVariants as how
use Rattle.svr_schema.specs.declared.component.Cell.{Cell}
use Rattle.svr_schema.specs.declared.component.Cell.TheVariants as cell
use Rattle.svr_schema.specs.declared.component.Filter.{Filter}
use Rattle.svr_schema.specs.declared.method.MethodSpec.{MethodSpec}
use Rattle.svr_schema.specs.declared.read_component.Kind.{Kind}
use Rattle.svr_schema.specs.declared.read_component.Kind.TheVariants as kinds
use Rattle.svr_schema.specs.declared.schema.TextPlace.{TextPlace}
use Rattle.svr_schema.specs.declared.table.ColumnKind.{ColumnKind}
use Rattle.svr_schema.specs.declared.table.ColumnKind.TheVariants as kind
use Rattle.svr_schema.specs.declared.table.Column.{Column}
use Rattle.svr_schema.specs.declared.table.Table.{Table}
use Rattle.svr_schema.specs.Components.{cell_of, filter_at, filter_in, filter_of, filtered_members_of, has_members_of, int_column}
use Rattle.svr_schema.specs.Components.{is_component, is_filtered, is_filtered_as, is_placed, is_placed_as, is_weighted, is_weighted_as}
use Rattle.svr_schema.specs.Components.{kind_in, kind_of_name, aggregated, members_of, places_in, stand_in, weight_at}
use Rattle.svr_schema.specs.Lawful.{are_different, has_column, is_name}
use Rattle.svr_schema.specs.Lookups.{column_at, column_of_kind, table_at}
use Rattle.svr_schema.specs.Parts.{count_within, elements_at, is_list_at, text_or_empty, whole_at}
use Rattle.svr_schema.specs.Rules.{chunk_in, divisor_in, method_in, method_of_kind, plain_in, threshold_in}
use Rattle.svr_schema.specs.Tables.{columns_of, has_columns, is_column, is_named, is_table, is_type, column_in, table_in, tables_in}
use Rattle.svr_schema.proofs.Accepted.{Before, ComponentsHold-from_none, TextSteps, TextSteps-from_some, method-steps, either}
use Rattle.svr_schema.proofs.Composed.{Placed-from_some}
use Rattle.svr_schema.proofs.Floats.{NoFloatAt, NoFloatAt-array, NoFloatAt-i64, NoFloatAt-is}
use Rattle.svr_schema.proofs.Floats.{NoFloatAt-text, NoFloatAt-u64, i64_no_float, object_no_float, string_no_float}
use Rattle.svr_schema.proofs.Steps.{and_true, and_then-some, form-some, is_some-true, only_if-some, option_map-some, position-at}
use Rattle.svr_schema.proofs.Tabled.{TablesHold-from_none}

-- ---- names aren't empty

unnamed : (name : List ℕ) → is_name name ≡ true → name ≡ [] → ⊥
unfolding is_name
unnamed name h e = false≢true (subst (λ (n : List ℕ). is_name n ≡ true) e h)

list_all-at : {X : Type 0} (p : X → Bool) (xs : List X) (i : ℕ) (x : X) → list_all p xs ≡ true → slice_get xs i ≡ Some x → p x ≡ true
list_all-at p [] i x h e = cc
list_all-at p (y ∷ xs) zero x h e = let same : y ≡ x = cc in subst (λ z. p z ≡ true) same (and_true (p y) (list_all p xs) h).0
list_all-at p (y ∷ xs) (suc i) x h e = list_all-at p xs i x (and_true (p y) (list_all p xs) h).1 e

table_named : (tables : List Table) (name : List ℕ) (i : ℕ) → list_all is_named tables ≡ true → table_at tables name ≡ Some i
    → name ≡ [] → ⊥
table_named tables name i h e none =
    let found = position-at _ tables i e in
    let same = (bytes_eq-Decides found.0.name name).0 found.2 in
    unnamed found.0.name (and_true _ _ (list_all-at is_named tables i found.0 h found.1)).0 (same ∙ none)

columns_named : (tables : List Table) (at : ℕ) → list_all is_named tables ≡ true
    → list_all (λ c. is_name c.name) (columns_of tables at) ≡ true
columns_named [] at h = refl
columns_named (t ∷ tables) zero h = (and_true (is_name t.name) _ (and_true (is_named t) (list_all is_named tables) h).0).1
columns_named (t ∷ tables) (suc at) h = columns_named tables at (and_true (is_named t) (list_all is_named tables) h).1

column_named : (columns : List Column) (name : List ℕ) (i : ℕ) → list_all (λ c. is_name c.name) columns ≡ true
    → column_at columns name ≡ Some i → name ≡ [] → ⊥
column_named columns name i h e none =
    let found = position-at _ columns i e in
    let same = (bytes_eq-Decides found.0.name name).0 found.2 in
    unnamed found.0.name (list_all-at (λ c. is_name c.name) columns i found.0 h found.1) (same ∙ none)

column_of_kind_named : (k : ColumnKind) (columns : List Column) (name : List ℕ) (i : ℕ) → list_all (λ c. is_name c.name) columns ≡ true
    → column_of_kind k columns name ≡ Some i → name ≡ [] → ⊥
column_of_kind_named k columns name i h e none =
    let found = position-at _ columns i e in
    let same = (bytes_eq-Decides found.0.name name).0 (and_true _ _ found.2).0 in
    unnamed found.0.name (list_all-at (λ c. is_name c.name) columns i found.0 h found.1) (same ∙ none)

-- ---- tables

typed : (t : List ℕ) → is_type t ≡ true → t ≡ [] → ⊥
typed t h e = false≢true (subst (λ (x : List ℕ). is_type x ≡ true) e h)

column_no_float : (c : Data) → is_column c ≡ true → is_name (text_or_empty (codes "name") c) ≡ true → has_float c ≡ false
unfolding are_different
column_no_float c h n =
    let both = and_true (has_members (codes "name" ∷ codes "type" ∷ []) c) _ h in
    object_no_float c (codes "name" ∷ codes "type" ∷ []) both.0 refl
    (NoFloatAt-text c (codes "name") (unnamed _ n), (NoFloatAt-text c (codes "type") (typed _ both.1), tt))

columns_no_float : (es : List Data) → list_all is_column es ≡ true → list_all (λ c. is_name c.name) (map column_in es) ≡ true
    → AllByRecursion (λ e. has_float e ≡ false) es
columns_no_float [] h n = tt
columns_no_float (e ∷ es) h n =
    let here = and_true (is_column e) _ h in
    let name = and_true (is_name (text_or_empty (codes "name") e)) _ n in
    (column_no_float e here.0 name.0, columns_no_float es here.1 name.1)

listed : (name : List ℕ) (low high : ℕ) (d : Data) → is_list_at name low high d ≡ true
    → AllByRecursion (λ e. has_float e ≡ false) (elements_at name d) → NoFloatAt d name
listed name low high d h a = NoFloatAt-array d name (and_true _ _ (and_true _ _ h).0).0 a

table_no_float : (e : Data) → is_table e ≡ true → has_columns e ≡ true → is_named (table_in e) ≡ true → has_float e ≡ false
unfolding are_different
table_no_float e h c n =
    let columns = and_true (is_list_at (codes "columns") 1 8 e) _ c in
    let names = and_true (is_name (text_or_empty (codes "name") e)) _ n in
    object_no_float e (codes "columns" ∷ codes "name" ∷ []) h refl (
      listed (codes "columns") 1 8 e columns.0 (columns_no_float (elements_at (codes "columns") e) columns.1 names.1),
      (NoFloatAt-text e (codes "name") (unnamed _ names.0), tt),
    )

tables_no_float : (es : List Data) → list_all is_table es ≡ true → list_all has_columns es ≡ true
    → list_all is_named (map table_in es) ≡ true → AllByRecursion (λ e. has_float e ≡ false) es
tables_no_float [] h c n = tt
tables_no_float (e ∷ es) h c n =
    let here = and_true (is_table e) _ h in
    let columns = and_true (has_columns e) _ c in
    let names = and_true (is_named (table_in e)) _ n in
    (table_no_float e here.0 columns.0 names.0, tables_no_float es here.1 columns.1 names.1)

-- ---- the text column

text_no_float : (tables : List Table) (d : Data) (p : TextPlace) → list_all is_named tables ≡ true → TextSteps tables d p
    → NoFloatAt d (codes "text")
unfolding are_different
text_no_float tables d p n t =
    let whole = object_no_float t.text (codes "column" ∷ codes "table" ∷ []) t.members refl (
      NoFloatAt-text t.text (codes "column") (column_of_kind_named kind.Text _ _ p.column (columns_named tables p.table n) t.column),
      (NoFloatAt-text t.text (codes "table") (table_named tables _ p.table n t.table), tt),
    ) in
    NoFloatAt-is d (codes "text") t.text t.at whole

-- ---- components

cell_no_float : (k : ColumnKind) (v : Data) (c : Cell) → cell_of k v ≡ Some c → has_float v ≡ false
cell_no_float kind.Int v c e = let one = option_map-some cell.Int (option_and_then as_i64 (as_number v)) c e in i64_no_float v one.0 one.1
cell_no_float kind.Text v c e = let one = option_map-some cell.Text (as_str v) c e in string_no_float v one.0 one.1

filter_no_float : (columns : List Column) (f : Data) (g : Filter) → list_all (λ c. is_name c.name) columns ≡ true
    → filter_of columns f ≡ Some g → has_float f ≡ false
unfolding are_different
filter_no_float columns f g n e =
    let form = form-some (has_members (codes "column" ∷ codes "equals" ∷ []) f) f _ g e in
    let one = and_then-some (column_at columns (text_or_empty (codes "column") f)) _ g form.1 in
    let two = and_then-some (slice_get columns one.0) _ g one.2 in
    let three = and_then-some (get (codes "equals") f) _ g two.2 in
    let four = and_then-some (cell_of two.0.kind three.0) _ g three.2 in
    object_no_float f (codes "column" ∷ codes "equals" ∷ []) form.0 refl (
      NoFloatAt-text f (codes "column") (column_named columns _ one.0 n one.1),
      (NoFloatAt-is f (codes "equals") three.0 three.1 (cell_no_float two.0.kind three.0 four.0 four.1), tt),
    )

filter_at_no_float : (columns : List Column) (o : Option Data) (g : Option Filter) → list_all (λ c. is_name c.name) columns ≡ true
    → filter_at columns o ≡ Some g → option_map_or has_float o false ≡ false
filter_at_no_float columns None g n e = refl
filter_at_no_float columns (Some f) g n e =
    let one = option_map-some Some (filter_of columns f) g e in
    filter_no_float columns f one.0 n one.1

kinded : (d : Data) (k : Kind) → kind_in d ≡ Some k → text_or_empty (codes "kind") d ≡ [] → ⊥
kinded d k e none = let is : kind_of_name [] ≡ Some k = subst (λ (t : List ℕ). kind_of_name t ≡ Some k) none e in cc

weight_no_float : (d : Data) (name : List ℕ) (n : ℤ) → weight_at name d ≡ Some n → NoFloatAt d name
weight_no_float d name n e = NoFloatAt-i64 d name _ (and_then-some (whole_at name d) _ n e).1

-- the members that each component over another table has
record Common (d : Data) : Type 0 where
  by : NoFloatAt d (codes "by")
  filter : NoFloatAt d (codes "filter")
  kind : NoFloatAt d (codes "kind")
  table : NoFloatAt d (codes "table")
  weight : NoFloatAt d (codes "weight")

either_true : (a b : Bool) → (a || b) ≡ true → (a ≡ true) ⊎ (b ≡ true)
either_true true b e = inl refl
either_true false b e = inr e

extreme_no_float : (d : Data) → Common d → NoFloatAt d (codes "column") → NoFloatAt d (codes "empty")
    → (has_members (members_of how.Min) d || has_members (filtered_members_of how.Min) d) ≡ true
    → has_float d ≡ false
unfolding are_different
extreme_no_float d m column empty h = elim (either_true (has_members (members_of how.Min) d) _ h) [
  | inl e ↦ object_no_float d (members_of how.Min) e refl (m.by, (column, (empty, (m.kind, (m.table, (m.weight, tt))))))
  | inr e ↦
      object_no_float d (filtered_members_of how.Min) e refl (m.by, (column, (empty, (m.filter, (m.kind, (m.table, (m.weight, tt)))))))
]

over_no_float : (h : Aggregate) (d : Data) → Common d → (has_members (members_of h) d || has_members (filtered_members_of h) d) ≡ true
    → ((has_column h ≡ true) → NoFloatAt d (codes "column")) → is_some (stand_in h d) ≡ true → has_float d ≡ false
unfolding are_different
over_no_float how.Sum d m e c s = elim (either_true (has_members (members_of how.Sum) d) _ e) [
  | inl f ↦ object_no_float d (members_of how.Sum) f refl (m.by, (c refl, (m.kind, (m.table, (m.weight, tt)))))
  | inr f ↦ object_no_float d (filtered_members_of how.Sum) f refl (m.by, (c refl, (m.filter, (m.kind, (m.table, (m.weight, tt))))))
]
over_no_float how.Count d m e c s = elim (either_true (has_members (members_of how.Count) d) _ e) [
  | inl f ↦ object_no_float d (members_of how.Count) f refl (m.by, (m.kind, (m.table, (m.weight, tt))))
  | inr f ↦ object_no_float d (filtered_members_of how.Count) f refl (m.by, (m.filter, (m.kind, (m.table, (m.weight, tt)))))
]
over_no_float how.Min d m e c s =
    let z = is_some-true (stand_in how.Min d) s in extreme_no_float d m (c refl) (weight_no_float d (codes "empty") z.0 z.1) e
over_no_float how.Max d m e c s =
    let z = is_some-true (stand_in how.Max d) s in extreme_no_float d m (c refl) (weight_no_float d (codes "empty") z.0 z.1) e
over_no_float how.Avg d m e c s =
    let z = is_some-true (stand_in how.Avg d) s in extreme_no_float d m (c refl) (weight_no_float d (codes "empty") z.0 z.1) e

aggregated_no_float : (tables : List Table) (table i : ℕ) (h : Aggregate) (d : Data) → list_all is_named tables ≡ true
    → aggregated tables table h d ≡ Some i → has_column h ≡ true → NoFloatAt d (codes "column")
aggregated_no_float tables table i how.Count d n e c = absurd (false≢true c)
aggregated_no_float tables table i how.Sum d n e c =
    NoFloatAt-text d (codes "column") (column_of_kind_named kind.Int _ _ i (columns_named tables table n) e)
aggregated_no_float tables table i how.Min d n e c =
    NoFloatAt-text d (codes "column") (column_of_kind_named kind.Int _ _ i (columns_named tables table n) e)
aggregated_no_float tables table i how.Max d n e c =
    NoFloatAt-text d (codes "column") (column_of_kind_named kind.Int _ _ i (columns_named tables table n) e)
aggregated_no_float tables table i how.Avg d n e c =
    NoFloatAt-text d (codes "column") (column_of_kind_named kind.Int _ _ i (columns_named tables table n) e)

own_no_float : (tables : List Table) (text_table : ℕ) (d : Data) → list_all is_named tables ≡ true → kind_in d ≡ Some kinds.Own
    → has_members_of (Some kinds.Own) d ≡ true
    → is_placed_as (Some kinds.Own) tables text_table d ≡ true → is_weighted_as (Some kinds.Own) d ≡ true → has_float d ≡ false
unfolding are_different
own_no_float tables text_table d n k m p w =
    let column = is_some-true (int_column tables text_table (codes "column") d) p in
    let weight = is_some-true (weight_at (codes "weight") d) w in
    object_no_float d (codes "column" ∷ codes "kind" ∷ codes "weight" ∷ []) m refl (
      NoFloatAt-text d (codes "column") (column_of_kind_named kind.Int _ _ column.0 (columns_named tables text_table n) column.1),
      (NoFloatAt-text d (codes "kind") (kinded d kinds.Own k), (weight_no_float d (codes "weight") weight.0 weight.1, tt)),
    )

rows_no_float : (tables : List Table) (text_table : ℕ) (h : Aggregate) (d : Data) → list_all is_named tables ≡ true
    → kind_in d ≡ Some (kinds.Over h) → has_members_of (Some (kinds.Over h)) d ≡ true
    → is_placed_as (Some (kinds.Over h)) tables text_table d ≡ true → is_weighted_as (Some (kinds.Over h)) d ≡ true
    → is_filtered_as (Some (kinds.Over h)) tables text_table d ≡ true → has_float d ≡ false
rows_no_float tables text_table h d n k m p w f =
    let places = is_some-true (places_in tables text_table h d) p in
    let numbers = and_true (is_some (weight_at (codes "weight") d)) (is_some (stand_in h d)) w in
    let weight = is_some-true (weight_at (codes "weight") d) numbers.0 in
    let placed = Placed-from_some tables text_table h d places.0 places.1 in
    let named = and_then-some (table_at tables (text_or_empty (codes "table") d)) _ places.0.table placed.table in
    let filtered : is_some (filter_in tables places.0.table d) ≡ true = rw placed.table at f in
    let filter = is_some-true (filter_in tables places.0.table d) filtered in
    let common : Common d = record {
      by = NoFloatAt-text d (codes "by") (column_of_kind_named kind.Int _ _ places.0.by (columns_named tables places.0.table n) placed.by);
      filter = filter_at_no_float (columns_of tables places.0.table) (get (codes "filter") d) filter.0
          (columns_named tables places.0.table n) filter.1;
      kind = NoFloatAt-text d (codes "kind") (kinded d (kinds.Over h) k);
      table = NoFloatAt-text d (codes "table") (table_named tables _ named.0 n named.1);
      weight = weight_no_float d (codes "weight") weight.0 weight.1;
    } in
    over_no_float h d common m (aggregated_no_float tables places.0.table places.0.column h d n placed.column) numbers.1

component_no_float : (k : Option Kind) (tables : List Table) (text_table : ℕ) (d : Data) → list_all is_named tables ≡ true → kind_in d ≡ k
    → has_members_of k d ≡ true
    → is_placed_as k tables text_table d ≡ true → is_weighted_as k d ≡ true → is_filtered_as k tables text_table d ≡ true
    → has_float d ≡ false
component_no_float None tables text_table d n k m p w f = absurd (false≢true m)
component_no_float (Some kinds.Own) tables text_table d n k m p w f = own_no_float tables text_table d n k m p w
component_no_float (Some (kinds.Over h)) tables text_table d n k m p w f = rows_no_float tables text_table h d n k m p w f

components_no_float : (tables : List Table) (text_table : ℕ) (es : List Data) → list_all is_named tables ≡ true
    → list_all is_component es ≡ true → list_all (is_placed tables text_table) es ≡ true
    → list_all is_weighted es ≡ true → list_all (is_filtered tables text_table) es ≡ true → AllByRecursion (λ e. has_float e ≡ false) es
components_no_float tables text_table [] n m p w f = tt
components_no_float tables text_table (e ∷ es) n m p w f =
    let members = and_true (is_component e) _ m in
    let placed = and_true (is_placed tables text_table e) _ p in
    let weighted = and_true (is_weighted e) _ w in
    let filtered = and_true (is_filtered tables text_table e) _ f in (
      component_no_float (kind_in e) tables text_table e n refl members.0 placed.0 weighted.0 filtered.0,
      components_no_float tables text_table es n members.1 placed.1 weighted.1 filtered.1,
    )

-- ---- the method

count_no_float : (m : Data) (name : List ℕ) (low high n : ℕ) → count_within name low high m ≡ Some n → NoFloatAt m name
count_no_float m name low high n e =
    NoFloatAt-u64 m name _ (and_then-some (option_and_then as_u64 (option_and_then as_number (get name m))) _ n e).1

plain_no_float : (m : Data) (s t : MethodSpec) → NoFloatAt m (codes "kind") → plain_in s m ≡ Some t → has_float m ≡ false
unfolding are_different
plain_no_float m s t k e = object_no_float m (codes "kind" ∷ []) (only_if-some (has_members (codes "kind" ∷ []) m) s t e).0 refl (k, tt)

threshold_no_float : (m : Data) (s : MethodSpec) → NoFloatAt m (codes "kind") → threshold_in m ≡ Some s → has_float m ≡ false
unfolding are_different
threshold_no_float m s k e =
    let form = form-some (has_members (codes "den" ∷ codes "kind" ∷ codes "num" ∷ []) m) m _ s e in
    let one = and_then-some (count_within (codes "num") 1 1000000 m) _ s form.1 in
    let two = and_then-some (count_within (codes "den") 1 one.0 m) _ s one.2 in
    object_no_float m (codes "den" ∷ codes "kind" ∷ codes "num" ∷ []) form.0 refl
    (count_no_float m (codes "den") 1 one.0 two.0 two.1, (k, (count_no_float m (codes "num") 1 1000000 one.0 one.1, tt)))

chunk_no_float : (m : Data) (s : MethodSpec) → NoFloatAt m (codes "kind") → chunk_in m ≡ Some s → has_float m ≡ false
unfolding are_different
chunk_no_float m s k e =
    let form = form-some (has_members (codes "kind" ∷ codes "min_docs" ∷ codes "ratio" ∷ []) m) m _ s e in
    let one = and_then-some (count_within (codes "ratio") 100 100000 m) _ s form.1 in
    let two = and_then-some (count_within (codes "min_docs") 1 1000000 m) _ s one.2 in
    object_no_float m (codes "kind" ∷ codes "min_docs" ∷ codes "ratio" ∷ []) form.0 refl
    (k, (count_no_float m (codes "min_docs") 1 1000000 two.0 two.1, (count_no_float m (codes "ratio") 100 100000 one.0 one.1, tt)))

by_kind : (k : List ℕ) (m : Data) → NoFloatAt m (codes "kind") → (s : MethodSpec) → method_of_kind k m ≡ Some s → has_float m ≡ false
by_kind k m n =
    let P : MethodSpec → Type 0 = λ s. has_float m ≡ false in
    either P (bytes_eq k (codes "id")) _ _ (λ s e. plain_no_float m _ s n e)
    (either P (bytes_eq k (codes "score")) _ _ (λ s e. plain_no_float m _ s n e)
    (either P (bytes_eq k (codes "score-threshold")) _ _ (λ s e. threshold_no_float m s n e)
    (either P (bytes_eq k (codes "chunk")) _ _ (λ s e. chunk_no_float m s n e) (λ s e. cc))))

method_no_float : (d : Data) (s : MethodSpec) → method_in d ≡ Some s → NoFloatAt d (codes "method")
method_no_float d s e =
    let steps = method-steps d s e in
    let m = steps.0 in
    let of_kind = λ (t : List ℕ). method_of_kind t m ≡ Some s in
    let named : text_or_empty (codes "kind") m ≡ [] → ⊥ =
    λ none. (let is : method_of_kind [] m ≡ Some s = subst of_kind none steps.2 in cc) in
    NoFloatAt-is d (codes "method") m steps.1 (by_kind (text_or_empty (codes "kind") m) m (NoFloatAt-text m (codes "kind") named) s steps.2)

-- ---- the whole value

divisor_no_float : (d : Data) (n : ℤ) → divisor_in d ≡ Some n → NoFloatAt d (codes "divisor")
unfolding divisor_in
divisor_no_float d n e = NoFloatAt-i64 d (codes "divisor") _ (and_then-some (whole_at (codes "divisor") d) _ n e).1

pub schema_no_float : (d : Data) (p : TextPlace) (n : ℤ) (m : MethodSpec) → Before d p → divisor_in d ≡ Some n → method_in d ≡ Some m
    → has_float d ≡ false
unfolding are_different
schema_no_float d p n m b g h =
    let tables = TablesHold-from_none d b.tables in
    let components = ComponentsHold-from_none (tables_in d) p.table d b.components in
    let table_list = and_true (is_list_at (codes "tables") 1 8 d) _ tables.tables in
    let component_list = and_true (is_list_at (codes "components") 0 8 d) _ components.listed in
    let of_components =
    components_no_float
    (tables_in d) p.table _ tables.named component_list.1 components.placed components.weighted components.filtered in
    let of_tables = tables_no_float _ table_list.1 tables.columns tables.named in
    let of_text = text_no_float (tables_in d) d p tables.named (TextSteps-from_some (tables_in d) d p b.text) in
    object_no_float d (codes "components" ∷ codes "divisor" ∷ codes "method" ∷ codes "tables" ∷ codes "text" ∷ []) tables.parts refl (
      listed (codes "components") 0 8 d component_list.0 of_components,
      (
        divisor_no_float d n g,
        (
          method_no_float d m h,
          (listed (codes "tables") 1 8 d table_list.0 of_tables, (of_text, tt)),
        ),
      ),
    )
