-- Values of components that are put into an array one after the other.
use Rattle.std.proofs.Common.{◌≡◌, ℕ, ◌+◌, ◌<◌, ℤ, List, [], ◌∷◌, ◌++◌, length, take, set, get_or, sym, ap, ap₂, ◌∙◌, subst, arith}
use Rattle.std.specs.List.{All}
use Rattle.std.proofs.lemmas.List.{length-take, take_more, take_more_set}
use Rattle.std.proofs.lemmas.List.Elements.{All-append, All-cons}
use Rattle.svr_groups.specs.Groups.{Grouped}
use Rattle.svr_num.specs.Aggregates.{IsValue}
use Rattle.svr_rows.specs.declared.row.Row.{Row}
use Rattle.svr_schema.specs.declared.component.Component.{Component}
use Rattle.svr_view.specs.Layout.{value_by, values_by}

module _ (groups : Grouped) (row : Row) where
  values_by-push : (n : ℕ) (components : List Component) (component : Component)
      → values_by groups n row (components ++ component ∷ [])
      ≡ values_by groups n row components ++ value_by groups (n + length components) row component ∷ []
  unfolding values_by
  values_by-push n [] component =
      let same : n ≡ n + 0 = omega arith in ap (λ m. value_by groups m row component ∷ []) same
  values_by-push n (k ∷ components) component =
      let same : n + 1 + length components ≡ n + length (k ∷ components) = omega arith in
      ap (λ vs. value_by groups n row k ∷ vs) (values_by-push (n + 1) components component
      ∙ ap (λ m. values_by groups (n + 1) row components ++ value_by groups m row component ∷ []) same)

  module _ (components : List Component) (values : List ℤ) (i : ℕ) (component : Component) (value : ℤ)
      (within : i < length components) (room : i < length values) (is : component ≡ get_or components i component) where
    place : 0 + length (take i components) ≡ i
    place = omega (arith, length-take i components, within)

    pub values_by-more : take i values ≡ values_by groups 0 row (take i components) → value ≡ value_by groups i row component
        → take (i + 1) (set values i value) ≡ values_by groups 0 row (take (i + 1) components)
    values_by-more so_far made =
        take_more_set values i value room
        ∙ ap₂ (λ vs v. vs ++ v ∷ []) so_far (made ∙ ap (λ m. value_by groups m row component) (sym place))
        ∙ sym (values_by-push 0 (take i components) component)
        ∙ ap (values_by groups 0 row)
        (ap (λ k. take i components ++ k ∷ []) is ∙ sym (take_more components i component within))

none : All IsValue []
none k d h = absurd (omega (arith, h))

pub IsValue-more : (values : List ℤ) (i : ℕ) (value : ℤ) → i < length values → All IsValue (take i values) → IsValue value
    → All IsValue (take (i + 1) (set values i value))
IsValue-more values i value room all one =
    subst (All IsValue) (sym (take_more_set values i value room))
    (All-append IsValue (take i values) (value ∷ []) all (All-cons IsValue value [] one none))

pub IsValue-none : All IsValue []
IsValue-none = none
