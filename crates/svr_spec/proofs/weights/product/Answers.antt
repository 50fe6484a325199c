use Rattle.std.proofs.Common.{◌≡◌, ◌≤ℤ◌, ◌^◌, ℤ, pos, neg_ℤ, ◌*ℤ◌, sym, subst, ap₂, ◌∙◌, arith}
use Rattle.std.proofs.lemmas.Int.{ints}
use Rattle.std.specs.Int.{cast_signed, cast_unsigned, w128}
use Rattle.svr_spec.proofs.Products.{part-bounds}
use Rattle.svr_spec.proofs.weights.product.Goals as goal

abbrev computed : ℤ → ℤ → ℤ
computed weight value =
    cast_signed w128 (cast_unsigned w128 (cast_signed w128 (cast_unsigned w128 weight) *ℤ cast_signed w128 (cast_unsigned w128 value)))

is_product : (c : goal.After-from) → computed c.from.result c.args.value ≡ c.args.weight *ℤ c.args.value
is_product c =
    let p = part-bounds c.args.weight c.args.value c.requires.weight c.requires.value in
    let v : cast_signed w128 (cast_unsigned w128 c.args.value) ≡ c.args.value = omega (arith, ints) in
    let w : cast_signed w128 (cast_unsigned w128 c.from.result) ≡ c.args.weight = omega (arith, ints) in
    ap₂ (λ a b. cast_signed w128 (cast_unsigned w128 (a *ℤ b))) w v ∙ omega (arith, ints, p.0, p.1)

pub returns-clause-low : goal.returns-clause-low
returns-clause-low c =
    subst (λ p. neg_ℤ (pos (2 ^ 112)) ≤ℤ p) (sym (is_product c)) (part-bounds c.args.weight c.args.value c.requires.weight c.requires.value).0

pub returns-clause-high : goal.returns-clause-high
returns-clause-high c =
    subst (λ p. p ≤ℤ pos (2 ^ 112)) (sym (is_product c)) (part-bounds c.args.weight c.args.value c.requires.weight c.requires.value).1
