-- A view of tables without rows.
use Rattle.std.proofs.Common.{◌≡◌, ℕ, List, [], map, Option, Some, None, option_map, slice_get, length, refl, sym, ap, ◌∙◌}
use Rattle.std.proofs.lemmas.Option.{slice_get-map}
use Rattle.svr_groups.specs.Groups.{values_at}
use Rattle.svr_groups.specs.Values.{ascending_values}
use Rattle.svr_rows.specs.Rows.{no_rows, row_at, rows_at, rows_in}
use Rattle.svr_schema.specs.declared.component.Component.{Component}
use Rattle.svr_schema.specs.declared.component.Component.TheVariants.{Own, Over}
use Rattle.svr_schema.specs.declared.schema.Schema.{Schema}
use Rattle.svr_schema.specs.declared.table.Table.{Table}
use Rattle.svr_view.specs.Score.{counted, counted_values, score_at, score_of}
use Rattle.svr_view.specs.View.{StandsFor, Viewed, score_in}

rows_at-no_rows : (o : Option Table) → rows_at (option_map no_rows o) ≡ []
rows_at-no_rows None = refl
rows_at-no_rows (Some t) = refl

pub rows_in-no_rows : (tables : List Table) (place : ℕ) → rows_in (map no_rows tables) place ≡ []
rows_in-no_rows tables place = ap rows_at (slice_get-map no_rows tables place) ∙ rows_at-no_rows (slice_get tables place)

none_counted : (tables : List Table) (component : Component) (id : ℕ) → ascending_values (counted_values (map no_rows tables) component id) ≡ []
unfolding ascending_values
none_counted tables (Own column weight) id = refl
none_counted tables (Over how table by column weight empty f) id =
    ap (λ rows. ascending_values (counted rows by column f id)) (rows_in-no_rows tables table)

no_score : (s : Schema) (id : ℕ) → score_at s (map no_rows s.tables) id ≡ None
unfolding score_at
no_score s id = ap (λ rows. option_map (score_of s (map no_rows s.tables)) (row_at rows id)) (rows_in-no_rows s.tables s.text_table)

pub StandsFor-no_rows : (s : Schema) (v : Viewed) → length v.groups ≡ length s.components → ((c id : ℕ) → values_at v.groups c id ≡ [])
    → v.scores ≡ [] → StandsFor s (map no_rows s.tables) v
StandsFor-no_rows s v as_many none no_scores = record {
  as_many = as_many;
  values = λ c component at id. none c id ∙ sym (none_counted s.tables component id);
  scores = λ id. ap (λ scores. score_in (record v { scores = scores }) id) no_scores ∙ sym (no_score s id);
}
