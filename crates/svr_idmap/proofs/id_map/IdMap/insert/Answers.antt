use Rattle.std.proofs.Common.{◌≡◌, ◌++◌, Some, nat_cmp, ap, sym, ◌∙◌, subst, arith, rules}
use Rattle.std.specs.BTreeMap.{insert_entry}
use Rattle.svr_idmap.specs.Ids.{Ascends, SetsValue, value_at}
use Rattle.svr_idmap.specs.Layout.{AreParted}
use Rattle.svr_idmap.proofs.Parted.{inserted-high, inserted-low, parted-inserted_high, parted-inserted_low, value-high, value-low}
use Rattle.svr_idmap.proofs.Tests.{SetsValue-insert}
use Rattle.svr_idmap.proofs.id_map.IdMap.insert.Goals as goal

pub invariant_of-self-then-id-lt-DENSE_IDS : goal.invariant_of-self-then-id-lt-DENSE_IDS
invariant_of-self-then-id-lt-DENSE_IDS g c =
    subst (λ dense. AreParted dense c.self.inside.sparse.entries) (sym c.in_ok-before.ensures.changed)
    (parted-inserted_low c.self.inside.dense c.self.inside.sparse.entries c.self.invariant c.args.id (omega (arith, c.if-id-lt-DENSE_IDS.true)) c.args.value)

pub returns-then-id-lt-DENSE_IDS-clause-changed : goal.returns-then-id-lt-DENSE_IDS-clause-changed
returns-then-id-lt-DENSE_IDS-clause-changed g c =
    ap (λ dense. dense ++ c.self.inside.sparse.entries) c.in_ok-before.ensures.changed
    ∙ inserted-low c.self.inside.dense c.self.inside.sparse.entries c.self.invariant c.args.id (omega (arith, c.if-id-lt-DENSE_IDS.true)) c.args.value
    ∙ ap (λ values. insert_entry nat_cmp values c.args.id c.args.value) c.self.view_is

pub returns-then-id-lt-DENSE_IDS-clause-before : goal.returns-then-id-lt-DENSE_IDS-clause-before
returns-then-id-lt-DENSE_IDS-clause-before g c =
    c.in_ok-before.ensures.before ∙ value-low c.self.inside.dense c.self.inside.sparse.entries c.self.invariant c.args.id (omega (arith, c.if-id-lt-DENSE_IDS.true))
    ∙ ap (λ values. value_at values c.args.id) c.self.view_is

pub invariant_of-self-2 : goal.invariant_of-self-2
invariant_of-self-2 g c =
    subst (AreParted c.self.inside.dense) (sym c.in_ok-before-2.ensures.entries)
    (parted-inserted_high c.self.inside.dense c.self.inside.sparse.entries c.self.invariant c.args.id (omega (arith, c.if-id-lt-DENSE_IDS.false)) c.args.value
    (subst Ascends c.in_ok-before-2.ensures.entries c.in_ok-before-2.ensures.ordered))

pub returns-clause-changed : goal.returns-clause-changed
returns-clause-changed g c =
    ap (λ sparse. c.self.inside.dense ++ sparse) c.in_ok-before-2.ensures.entries
    ∙ inserted-high c.self.inside.dense c.self.inside.sparse.entries c.self.invariant c.args.id (omega (arith, c.if-id-lt-DENSE_IDS.false)) c.args.value
    ∙ ap (λ values. insert_entry nat_cmp values c.args.id c.args.value) c.self.view_is

pub returns-clause-before : goal.returns-clause-before
returns-clause-before g c =
    let there : c.in_ok-before-2.before ≡ value_at c.self.inside.sparse.entries c.args.id = search rules in
    there ∙ value-high c.self.inside.dense c.self.inside.sparse.entries c.self.invariant c.args.id (omega (arith, c.if-id-lt-DENSE_IDS.false))
    ∙ ap (λ values. value_at values c.args.id) c.self.view_is

pub returns-then-id-lt-DENSE_IDS-clause-sets : goal.returns-then-id-lt-DENSE_IDS-clause-sets
returns-then-id-lt-DENSE_IDS-clause-sets g c =
    subst (λ new. SetsValue c.args.self.now new c.args.id (Some c.args.value)) (sym (returns-then-id-lt-DENSE_IDS-clause-changed g c))
    (SetsValue-insert c.args.id c.args.value c.args.self.now)

pub returns-clause-sets : goal.returns-clause-sets
returns-clause-sets g c =
    subst (λ new. SetsValue c.args.self.now new c.args.id (Some c.args.value)) (sym (returns-clause-changed g c))
    (SetsValue-insert c.args.id c.args.value c.args.self.now)
