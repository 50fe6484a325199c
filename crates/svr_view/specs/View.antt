-- What a view stands for, and what a change moves in it.
use Rattle.std.specs.Prelude.{◌≡◌, ℕ, ◌==◌, List, find, map, length, slice_get, Option, Some, None, if◌then◌else◌}
use Rattle.std.specs.List.{All}
use Rattle.std.specs.List.Sorted.{IsStrictlyIncreasing}
use Rattle.std.specs.Option.{option_eq}
use Rattle.svr_groups.specs.Groups.{Grouped, values_at}
use Rattle.svr_groups.specs.Values.{ascending_values}
use Rattle.svr_idmap.specs.Ids.{value_at}
use Rattle.svr_rows.specs.Kept.{IsTableRows}
use Rattle.svr_rows.specs.Rows.{TableRows, kinds_of}
use Rattle.svr_schema.specs.declared.component.Component.{Component}
use Rattle.svr_schema.specs.declared.schema.Schema.{Schema}
use Rattle.svr_schema.specs.Lawful.{IsSchema}
use Rattle.svr_view.specs.declared.score_move.ScoreMove.{ScoreMove}
use Rattle.svr_view.specs.Score.{counted_values, score_at}

-- of each component the values of the rows that count, by id, and the score of each document
pub record Viewed : Type 0 where
  pub groups : Grouped
  pub scores : List (ℕ × ℕ)

-- the score of the document with an id, if there is one
abbrev pub score_in : Viewed → ℕ → Option ℕ
score_in v id = value_at v.scores id

-- lawful tables with the columns of a lawful schema
pub record AreTablesOf (schema : Schema) (tables : List TableRows) : Type 0 where
  pub lawful : IsSchema schema
  pub kinds : map (λ t. t.kinds) tables ≡ map kinds_of schema.tables
  pub rows : All IsTableRows tables

-- the values and the scores are those of the tables' rows
pub record StandsFor (schema : Schema) (tables : List TableRows) (v : Viewed) : Type 0 where
  pub as_many : length v.groups ≡ length schema.components
  pub values : (c : ℕ) (component : Component) → slice_get schema.components c ≡ Some component
      → (id : ℕ) → values_at v.groups c id ≡ ascending_values (counted_values tables component id)
  pub scores : (id : ℕ) → score_in v id ≡ score_at schema tables id

-- a document that has another score than before, or is new or gone
abbrev pub move_of : ℕ → Option ℕ → Option ℕ → Option ScoreMove
move_of id old new = if option_eq (λ a b. a == b) old new then None else Some (record { id = id; old = old; new = new })

-- by ascending id, exactly those documents whose scores before and after differ, with both
pub record AreMoves (before after : ℕ → Option ℕ) (moves : List ScoreMove) : Type 0 where
  pub each : (id : ℕ) → find (λ m. m.id == id) moves ≡ move_of id (before id) (after id)
  pub ascending : IsStrictlyIncreasing (map (λ m. m.id) moves)
