use Rattle.std.proofs.Common.{◌++◌, IsSome, Some, nat_cmp, ap, sym, ◌∙◌, subst, arith}
use Rattle.std.specs.BTreeMap.{is_at}
use Rattle.std.specs.Map.{set_value}
use Rattle.svr_idmap.specs.Ids.{SetsValue, value_at}
use Rattle.svr_idmap.specs.Layout.{AreParted}
use Rattle.svr_idmap.proofs.Parted.{parted-replaced_high, parted-replaced_low, replaced-high, replaced-low, some-low, value-high, value-low}
use Rattle.svr_idmap.proofs.Tests.{SetsValue-set}
use Rattle.svr_idmap.proofs.id_map.IdMap.replace.Goals as goal

pub replace-requires : goal.replace-requires
replace-requires g c = some-low c.self.inside.dense c.self.inside.sparse.entries c.self.invariant c.args.id (omega (arith, c.if-id-lt-DENSE_IDS.true))
    (subst (λ values. IsSome (value_at values c.args.id)) (sym c.self.view_is) c.requires)

pub invariant_of-self : goal.invariant_of-self
invariant_of-self g c =
    subst (λ dense. AreParted dense c.self.inside.sparse.entries) (sym c.replace.ensures.changed)
    (parted-replaced_low c.self.inside.dense c.self.inside.sparse.entries c.self.invariant c.args.id (omega (arith, c.if-id-lt-DENSE_IDS.true)) c.args.value)

pub returns-then-id-lt-DENSE_IDS-clause-changed : goal.returns-then-id-lt-DENSE_IDS-clause-changed
returns-then-id-lt-DENSE_IDS-clause-changed g c =
    ap (λ dense. dense ++ c.self.inside.sparse.entries) c.replace.ensures.changed
    ∙ replaced-low c.self.inside.dense c.self.inside.sparse.entries c.self.invariant c.args.id (omega (arith, c.if-id-lt-DENSE_IDS.true)) c.args.value
    (subst (λ values. IsSome (value_at values c.args.id)) (sym c.self.view_is) c.requires)
    ∙ ap (λ values. set_value (is_at (nat_cmp c.args.id)) values c.args.value) c.self.view_is

pub returns-then-id-lt-DENSE_IDS-clause-before : goal.returns-then-id-lt-DENSE_IDS-clause-before
returns-then-id-lt-DENSE_IDS-clause-before g c =
    c.replace.ensures.before ∙ value-low c.self.inside.dense c.self.inside.sparse.entries c.self.invariant c.args.id (omega (arith, c.if-id-lt-DENSE_IDS.true))
    ∙ ap (λ values. value_at values c.args.id) c.self.view_is

pub replace_in-requires : goal.replace_in-requires
replace_in-requires g c =
    subst IsSome (sym (value-high c.self.inside.dense c.self.inside.sparse.entries c.self.invariant c.args.id (omega (arith, c.if-id-lt-DENSE_IDS.false))))
    (subst (λ values. IsSome (value_at values c.args.id)) (sym c.self.view_is) c.requires)

pub invariant_of-self-2 : goal.invariant_of-self-2
invariant_of-self-2 g c =
    subst (AreParted c.self.inside.dense) (sym c.replace_in.ensures.changed)
    (parted-replaced_high c.self.inside.dense c.self.inside.sparse.entries c.self.invariant c.args.id (omega (arith, c.if-id-lt-DENSE_IDS.false)) c.args.value)

pub returns-clause-changed : goal.returns-clause-changed
returns-clause-changed g c =
    ap (λ sparse. c.self.inside.dense ++ sparse) c.replace_in.ensures.changed
    ∙ replaced-high c.self.inside.dense c.self.inside.sparse.entries c.self.invariant c.args.id (omega (arith, c.if-id-lt-DENSE_IDS.false)) c.args.value
    ∙ ap (λ values. set_value (is_at (nat_cmp c.args.id)) values c.args.value) c.self.view_is

pub returns-clause-before : goal.returns-clause-before
returns-clause-before g c =
    c.replace_in.ensures.before ∙ value-high c.self.inside.dense c.self.inside.sparse.entries c.self.invariant c.args.id (omega (arith, c.if-id-lt-DENSE_IDS.false))
    ∙ ap (λ values. value_at values c.args.id) c.self.view_is

pub returns-then-id-lt-DENSE_IDS-clause-sets : goal.returns-then-id-lt-DENSE_IDS-clause-sets
returns-then-id-lt-DENSE_IDS-clause-sets g c =
    subst (λ new. SetsValue c.args.self.now new c.args.id (Some c.args.value)) (sym (returns-then-id-lt-DENSE_IDS-clause-changed g c))
    (SetsValue-set c.args.id c.args.value c.args.self.now c.requires)

pub returns-clause-sets : goal.returns-clause-sets
returns-clause-sets g c =
    subst (λ new. SetsValue c.args.self.now new c.args.id (Some c.args.value)) (sym (returns-clause-changed g c))
    (SetsValue-set c.args.id c.args.value c.args.self.now c.requires)
