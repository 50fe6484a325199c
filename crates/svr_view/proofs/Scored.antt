-- Scores by kept values are those of the rows.
use Rattle.std.proofs.Common.{◌≡◌, ℕ, suc, ◌+◌, ◌==◌, List, [], ◌∷◌, map, Option, Some, None, option_map, slice_get}
use Rattle.std.proofs.Common.{Bool, true, false, cond, refl, sym, ap, ap₂, ◌∙◌, subst, arith}
use Rattle.std.proofs.lemmas.Bool.Decides.{nat_tests}
use Rattle.svr_groups.specs.Groups.{Grouped, values_at}
use Rattle.svr_groups.specs.Values.{ascending_values}
use Rattle.svr_groups.proofs.Folds.{aggregate_of-ascending_values}
use Rattle.svr_num.specs.Aggregates.{aggregate_of}
use Rattle.svr_rows.specs.declared.row.Row.{Row}
use Rattle.svr_rows.specs.Rows.{TableRows, id_of, row_at}
use Rattle.svr_schema.specs.declared.component.Component.{Component}
use Rattle.svr_schema.specs.declared.component.Component.TheVariants.{Own, Over}
use Rattle.svr_schema.specs.declared.schema.Schema.{Schema}
use Rattle.svr_spec.specs.Weights.{weighted_score}
use Rattle.svr_view.specs.Layout.{score_by, value_by, values_by}
use Rattle.svr_view.specs.Score.{component_of, counted_values, score_of}

-- each component, counted on from n, has the values of the tables' rows
abbrev pub HasValues : List TableRows → Grouped → ℕ → List Component → Type 0
HasValues tables groups n components =
    (c : ℕ) (component : Component) → slice_get components c ≡ Some component
    → (id : ℕ) → values_at groups (n + c) id ≡ ascending_values (counted_values tables component id)

first_values : (tables : List TableRows) (groups : Grouped) (n : ℕ) (component : Component) (components : List Component)
    → HasValues tables groups n (component ∷ components)
    → (id : ℕ) → values_at groups n id ≡ ascending_values (counted_values tables component id)
first_values tables groups n component components h id =
    let same : n ≡ n + 0 = omega arith in
    ap (λ m. values_at groups m id) same ∙ h 0 component refl id

other_values : (tables : List TableRows) (groups : Grouped) (n : ℕ) (component : Component) (components : List Component)
    → HasValues tables groups n (component ∷ components) → HasValues tables groups (n + 1) components
other_values tables groups n component components h c other at id =
    let same : n + 1 + c ≡ n + suc c = omega arith in
    ap (λ m. values_at groups m id) same ∙ h (suc c) other at id

value_by-component_of : (tables : List TableRows) (groups : Grouped) (n : ℕ) (row : Row) (component : Component)
    → ((id : ℕ) → values_at groups n id ≡ ascending_values (counted_values tables component id))
    → value_by groups n row component ≡ component_of tables row component
value_by-component_of tables groups n row (Own column weight) h = refl
value_by-component_of tables groups n row (Over how table by column weight empty f) h =
    ap (aggregate_of how empty) (h (id_of row)) ∙ aggregate_of-ascending_values how empty _

values_by-component_of : (tables : List TableRows) (groups : Grouped) (n : ℕ) (row : Row) (components : List Component)
    → HasValues tables groups n components → values_by groups n row components ≡ map (component_of tables row) components
unfolding values_by
values_by-component_of tables groups n row [] h = refl
values_by-component_of tables groups n row (component ∷ components) h =
    ap₂ (λ v vs. v ∷ vs)
    (value_by-component_of tables groups n row component (first_values tables groups n component components h))
    (values_by-component_of tables groups (n + 1) row components (other_values tables groups n component components h))

-- the score by kept values is that of the rows
pub score_by-score_of : (s : Schema) (tables : List TableRows) (groups : Grouped) (row : Row)
    → ((c : ℕ) (component : Component) → slice_get s.components c ≡ Some component
    → (id : ℕ) → values_at groups c id ≡ ascending_values (counted_values tables component id))
    → score_by s groups row ≡ score_of s tables row
score_by-score_of s tables groups row h =
    ap (weighted_score s) (values_by-component_of tables groups 0 row s.components
    (λ c component at id. (let same : 0 + c ≡ c = omega arith in ap (λ m. values_at groups m id) same ∙ h c component at id)))

-- ---- scores by two groups of values

value_by-same : (groups now : Grouped) (n : ℕ) (row : Row) (component : Component)
    → values_at groups n (id_of row) ≡ values_at now n (id_of row)
    → value_by groups n row component ≡ value_by now n row component
value_by-same groups now n row (Own column weight) h = refl
value_by-same groups now n row (Over how table by column weight empty f) h = ap (aggregate_of how empty) h

values_by-same : (groups now : Grouped) (n : ℕ) (row : Row) (components : List Component)
    → ((c : ℕ) (component : Component) → slice_get components c ≡ Some component
    → values_at groups (n + c) (id_of row) ≡ values_at now (n + c) (id_of row))
    → values_by groups n row components ≡ values_by now n row components
unfolding values_by
values_by-same groups now n row [] h = refl
values_by-same groups now n row (component ∷ components) h =
    let zero_more : n + 0 ≡ n = omega arith in
    ap₂ (λ v vs. v ∷ vs)
    (value_by-same groups now n row component
    (subst (λ m. values_at groups m (id_of row) ≡ values_at now m (id_of row)) zero_more (h 0 component refl)))
    (values_by-same groups now (n + 1) row components
    (λ c other at.
    (let same : n + suc c ≡ n + 1 + c = omega arith in
    subst (λ m. values_at groups m (id_of row) ≡ values_at now m (id_of row)) same (h (suc c) other at))))

-- the same score where the values for the document are the same
pub score_by-same : (s : Schema) (groups now : Grouped) (row : Row)
    → ((c : ℕ) (component : Component) → slice_get s.components c ≡ Some component
    → values_at groups c (id_of row) ≡ values_at now c (id_of row))
    → score_by s groups row ≡ score_by s now row
score_by-same s groups now row h =
    ap (weighted_score s) (values_by-same groups now 0 row s.components
    (λ c component at. (let same : c ≡ 0 + c = omega arith in
    subst (λ m. values_at groups m (id_of row) ≡ values_at now m (id_of row)) same (h c component at))))

-- ---- scores by id

option_map-agree : (f g : Row → ℕ) (o : Option Row) → ((row : Row) → o ≡ Some row → f row ≡ g row) → option_map f o ≡ option_map g o
option_map-agree f g None h = refl
option_map-agree f g (Some row) h = ap Some (h row refl)

pub option_map-same : (f g : Row → ℕ) (o : Option Row) → ((row : Row) → f row ≡ g row) → option_map f o ≡ option_map g o
option_map-same f g o h = option_map-agree f g o (λ row _. h row)

found_step : (r : Row) (rows : List Row) (id : ℕ) (row : Row) (b : Bool) → (id_of r == id) ≡ b
    → (row_at rows id ≡ Some row → id_of row ≡ id) → row_at (r ∷ rows) id ≡ Some row → id_of row ≡ id
found_step r rows id row true e rest h =
    let is : Some r ≡ Some row = sym (ap (λ b. cond b (Some r) (row_at rows id)) e) ∙ h in
    let same : r ≡ row = cc in
    ap id_of (sym same) ∙ grind (arith, nat_tests, e)
found_step r rows id row false e rest h = rest (sym (ap (λ b. cond b (Some r) (row_at rows id)) e) ∙ h)

-- the row that is found has the id
pub id_of-found : (rows : List Row) (id : ℕ) (row : Row) → row_at rows id ≡ Some row → id_of row ≡ id
id_of-found [] id row h = absurd (let no : None ≡ Some row = h in cc)
id_of-found (r ∷ rows) id row h = found_step r rows id row (id_of r == id) refl (id_of-found rows id row) h

-- the scores of the document with an id, by rows and by values that agree for this id
pub scores-agree : (f g : Row → ℕ) (rows : List Row) (id : ℕ) → ((row : Row) → id_of row ≡ id → f row ≡ g row)
    → option_map f (row_at rows id) ≡ option_map g (row_at rows id)
scores-agree f g rows id h = option_map-agree f g (row_at rows id) (λ row found. h row (id_of-found rows id row found))
