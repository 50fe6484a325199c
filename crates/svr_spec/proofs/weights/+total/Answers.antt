use Rattle.std.proofs.Common.{◌≡◌, ◌≤◌, ◌^◌, ◌*◌, ◌≤ℤ◌, ◌+ℤ◌, ◌*ℤ◌, ℕ, ℤ, pos, neg_ℤ, List, ◌∷◌, length, refl, ap₂, sym, ◌∙◌, arith, rules, to_z, of_z}
use Rattle.std.specs.List.{IsFirstAndRest}
use Rattle.std.proofs.lemmas.Int.{ints}
use Rattle.std.specs.Int.{w128}
use Rattle.svr_schema.specs.declared.component.Component.{Component}
use Rattle.svr_spec.specs.Weights.{total_of, weight_of}
use Rattle.svr_spec.proofs.weights.+total.Goals as goal

total_of-cons : (c : Component) (value : ℤ) (components : List Component) (values : List ℤ)
    → total_of (c ∷ components) (value ∷ values) ≡ (weight_of c *ℤ value) +ℤ total_of components values
unfolding total_of
total_of-cons c value components values = refl

sum_is : (a b : ℤ) → neg_ℤ (pos (2 ^ 112)) ≤ℤ a → a ≤ℤ pos (2 ^ 112) → (n : ℕ) → n ≤ 8 → neg_ℤ (pos (2 ^ 112 * n)) ≤ℤ b → b ≤ℤ pos (2 ^ 112 * n)
    → to_z w128 (of_z w128 (to_z w128 (of_z w128 a) +ℤ to_z w128 (of_z w128 b))) ≡ a +ℤ b
sum_is a b al ah n few bl bh = omega (arith, ints)

total_of-split : (cs rest : List Component) (vs others : List ℤ) (c : Component) (v : ℤ) → IsFirstAndRest cs c rest → IsFirstAndRest vs v others
    → total_of cs vs ≡ (weight_of c *ℤ v) +ℤ total_of rest others
total_of-split cs rest vs others c v h k = rw (h.0, k.0) (total_of-cons c v rest others)

pub returns-clause-value : goal.returns-clause-value
returns-clause-value t c =
    let first = c.in-Some-Some in
    let sum = sum_is c.product.result c.total.result c.product.ensures.low c.product.ensures.high (length first.components.now)
    (omega (arith, first.ensures.cases.1, c.requires.few))
    c.total.ensures.low c.total.ensures.high in
    let parts = total_of-split c.args.components.now first.components.now c.args.values.now first.values.now first.component.now first.value.now
    first.ensures.cases first.ensures'.cases in
    let product : c.product.result ≡ weight_of first.component.now *ℤ first.value.now = search rules in
    let rest : c.total.result ≡ total_of first.components.now first.values.now = search rules in
    sum ∙ ap₂ (λ a b. a +ℤ b) product rest ∙ sym parts
