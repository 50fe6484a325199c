-- Words of private clauses: components whose weights are in their range.
use Rattle.svr_schema.specs.declared.component.Component.{Component}
use Rattle.svr_schema.specs.Lawful.{IsWeight}
use Rattle.svr_spec.specs.Weights.{weight_of}

abbrev pub IsWeighted : Component → Type 0
IsWeighted c = IsWeight (weight_of c)
