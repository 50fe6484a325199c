-- The weighted sum of the components' values.
use Rattle.std.specs.Prelude.{ℕ, ℤ, pos, ◌+ℤ◌, ◌*ℤ◌, List, [], ◌∷◌}
use Rattle.svr_num.specs.Numbers.{floor_of}
use Rattle.svr_num.specs.Scores.{clamped}
use Rattle.svr_schema.specs.declared.component.Component.{Component}
use Rattle.svr_schema.specs.declared.component.Component.TheVariants.{Own, Over}
use Rattle.svr_schema.specs.declared.schema.Schema.{Schema}

abbrev pub weight_of : Component → ℤ
weight_of (Own column weight) = weight
weight_of (Over how table by column weight empty filter) = weight

-- the sum of weight times value
unfoldable pub total_of : List Component → List ℤ → ℤ
total_of [] values = pos 0
total_of (c ∷ components) [] = pos 0
total_of (c ∷ components) (value ∷ values) = (weight_of c *ℤ value) +ℤ total_of components values

-- the score of a document whose components have these values: the total over the divisor, rounded down, in the range of scores
abbrev pub weighted_score : Schema → List ℤ → ℕ
weighted_score schema values = clamped (floor_of (total_of schema.components values) schema.divisor)
