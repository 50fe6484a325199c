-- Words of private clauses: what a row counts, and scores by kept values.
use Rattle.std.specs.Prelude.{◌≡◌, ◌≤◌, ◌^◌, ◌-◌, ℕ, ◌+◌, ◌==◌, ◌&&◌, ℤ, pos, negsuc, List, [], ◌∷◌, length, slice_get}
use Rattle.std.specs.Prelude.{false, Option, Some, None, if◌then◌else◌, Contains, IfSome}
use Rattle.std.specs.BTreeSet.{BTreeSet, contains}
use Rattle.std.specs.List.{filter_map, list_any}
use Rattle.std.specs.List.Sorted.{IsStrictlyIncreasing}
use Rattle.std.specs.Ordering.{nat_cmp}
use Rattle.svr_groups.specs.Groups.{Grouped, values_at}
use Rattle.svr_groups.specs.Values.{with_value, without_value}
use Rattle.svr_idmap.specs.Ids.{value_at}
use Rattle.svr_num.specs.Aggregates.{aggregate_of}
use Rattle.svr_rows.specs.declared.change.Change.{Change}
use Rattle.svr_rows.specs.declared.change.Change.TheVariants.{Insert, Update, Delete}
use Rattle.svr_rows.specs.declared.row.Row.{Row}
use Rattle.svr_rows.specs.Rows.{HasId, id_of}
use Rattle.svr_schema.specs.declared.component.Component.{Component}
use Rattle.svr_schema.specs.declared.component.Component.TheVariants.{Own, Over}
use Rattle.svr_schema.specs.declared.schema.Schema.{Schema}
use Rattle.svr_spec.specs.Filters.{passes}
use Rattle.svr_spec.specs.Weights.{weighted_score}
use Rattle.svr_view.specs.declared.counted.Counted.{Counted}
use Rattle.svr_view.specs.declared.score_move.ScoreMove.{ScoreMove}
use Rattle.svr_view.specs.Score.{number_at}
use Rattle.svr_view.specs.View.{Viewed, move_of, score_in}

-- ---- the rows of a change

abbrev pub id_changed : Change → ℕ
id_changed (Insert at row) = id_of row
id_changed (Update at row) = id_of row
id_changed (Delete at id) = id

-- the row that stands there after a change
abbrev pub row_after : Change → Option Row
row_after (Insert at row) = Some row
row_after (Update at row) = Some row
row_after (Delete at id) = None

-- ---- what a row counts

-- the value for the document whose id this is; a number below 0 is no id
abbrev pub counted_for : ℤ → ℤ → Option Counted
counted_for (pos id) value = Some (record { id = id; value = value })
counted_for (negsuc n) value = None

-- what a row of a table counts for a component
abbrev pub counted_in : Component → ℕ → Row → Option Counted
counted_in (Own column weight) table row = None
counted_in (Over how over by column weight empty f) table row =
    if (over == table) && passes f row.cells then counted_for (number_at by row) (number_at column row) else None

-- the same, where there is a row
abbrev pub counted_of : Component → ℕ → Option Row → Option Counted
counted_of component table None = None
counted_of component table (Some row) = counted_in component table row

-- of these the value for an id, or none
abbrev pub values_for : Option Counted → ℕ → List ℤ
values_for None id = []
values_for (Some c) id = if c.id == id then c.value ∷ [] else []

-- values in ascending order with some more, and without some
abbrev pub with_values : List ℤ → List ℤ → List ℤ
with_values [] values = values
with_values (v ∷ vs) values = with_value v (with_values vs values)

abbrev pub without_values : List ℤ → List ℤ → List ℤ
without_values [] values = values
without_values (v ∷ vs) values = without_values vs (without_value v values)

-- a component has these values now, and every other has its own
pub record SetsComponent (old new : Grouped) (c : ℕ) (values : ℕ → List ℤ) : Type 0 where
  pub here : (id : ℕ) → values_at new c id ≡ values id
  pub others : (d : ℕ) → (d ≡ c → ⊥) → (id : ℕ) → values_at new d id ≡ values_at old d id
  pub as_many : length new ≡ length old

-- what was counted is among the values
abbrev pub IsCounted : Grouped → ℕ → Option Counted → Type 0
IsCounted groups c None = Unit {0}
IsCounted groups c (Some counted) = Contains (values_at groups c counted.id) counted.value

abbrev pub AllCounted : List Component → ℕ → Option Row → Grouped → Type 0
AllCounted components table row groups =
    (c : ℕ) (component : Component) → slice_get components c ≡ Some component → IsCounted groups c (counted_of component table row)

-- there is room for one value more
abbrev pub IsRoomy : List Component → Grouped → Type 0
IsRoomy components groups =
    (c : ℕ) (component : Component) → slice_get components c ≡ Some component → (id : ℕ) → length (values_at groups c id) ≤ 2 ^ 18

-- the values of a component for an id after one row went and another came
abbrev pub exchanged : Component → ℕ → Option Row → Option Row → ℕ → List ℤ → List ℤ
exchanged component table old new id values =
    without_values (values_for (counted_of component table old) id) (with_values (values_for (counted_of component table new) id) values)

-- in each component one row's value went and another's came
pub record Recounts (components : List Component) (table : ℕ) (old new : Option Row) (before after : Grouped) : Type 0 where
  pub values : (c : ℕ) (component : Component) → slice_get components c ≡ Some component
      → (id : ℕ) → values_at after c id ≡ exchanged component table old new id (values_at before c id)
  pub as_many : length after ≡ length before

-- neither row counts for the id in a component
pub record IsUntouched (component : Component) (table : ℕ) (old new : Option Row) (id : ℕ) : Type 0 where
  pub old_none : values_for (counted_of component table old) id ≡ []
  pub new_none : values_for (counted_of component table new) id ≡ []

abbrev pub AllUntouched : List Component → ℕ → Option Row → Option Row → ℕ → Type 0
AllUntouched components table old new id =
    (c : ℕ) (component : Component) → slice_get components c ≡ Some component → IsUntouched component table old new id

-- ---- scores by kept values

abbrev pub value_by : Grouped → ℕ → Row → Component → ℤ
value_by groups c row (Own column weight) = number_at column row
value_by groups c row (Over how table by column weight empty f) = aggregate_of how empty (values_at groups c (id_of row))

-- the values of components, counted on from one
unfoldable pub values_by : Grouped → ℕ → Row → List Component → List ℤ
values_by groups c row [] = []
values_by groups c row (component ∷ components) = value_by groups c row component ∷ values_by groups (c + 1) row components

abbrev pub score_by : Schema → Grouped → Row → ℕ
score_by schema groups row = weighted_score schema (values_by groups 0 row schema.components)

-- ---- kept scores

abbrev pub score_at_id : List (ℕ × ℕ) → ℕ → Option ℕ
score_at_id scores id = value_at scores id

-- at most the greatest score
abbrev pub IsScore : Option ℕ → Type 0
IsScore score = IfSome score (λ s. s ≤ 2 ^ 48 - 1)

abbrev pub AreScores : List (ℕ × ℕ) → Type 0
AreScores scores = (id : ℕ) → IsScore (score_at_id scores id)

-- several documents have the scores that they have now, and every other has its own
abbrev pub SetsScores : List (ℕ × ℕ) → List (ℕ × ℕ) → List ℕ → (ℕ → Option ℕ) → Type 0
SetsScores old new ids score = (k : ℕ) → score_at_id new k ≡ (if list_any (λ id. id == k) ids then score k else score_at_id old k)

-- some documents, by ascending id, got the scores that they have now, and the moves are theirs
pub record NotesIds (before after : Viewed) (ids : List ℕ) (score : ℕ → Option ℕ) (moves : List ScoreMove) : Type 0 where
  pub ascending : IsStrictlyIncreasing ids
  pub scores : SetsScores before.scores after.scores ids score
  pub moved : moves ≡ filter_map (λ id. move_of id (score_in before id) (score id)) ids

-- the same of all documents for which a row counted, or counts now
pub record NotesCounted (components : List Component) (table : ℕ) (old new : Option Row) (before after : Viewed) (score : ℕ → Option ℕ)
    (moves : List ScoreMove) : Type 0 where
  pub ids : List ℕ
  pub complete : (id : ℕ) → list_any (λ k. k == id) ids ≡ false → AllUntouched components table old new id
  pub notes : NotesIds before after ids score moves

-- a value that was counted names one of the ids, and no other is left out
pub record AddsId (old new : BTreeSet ℕ) (counted : Option Counted) : Type 0 where
  pub kept : (id : ℕ) → contains nat_cmp new id ≡ false → contains nat_cmp old id ≡ false
  pub added : (id : ℕ) → contains nat_cmp new id ≡ false → values_for counted id ≡ []

-- the row of a change has an id, if one comes with it
abbrev pub RowHasId : Change → Type 0
RowHasId (Insert at row) = HasId row
RowHasId (Update at row) = HasId row
RowHasId (Delete at id) = Unit {0}
