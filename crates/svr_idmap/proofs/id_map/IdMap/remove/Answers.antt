use Rattle.std.proofs.Common.{◌≡◌, ◌++◌, None, nat_cmp, ap, sym, ◌∙◌, subst, arith, rules}
use Rattle.std.specs.BTreeMap.{is_at}
use Rattle.std.specs.Map.{remove_entry}
use Rattle.svr_idmap.specs.Ids.{Ascends, SetsValue, value_at}
use Rattle.svr_idmap.specs.Layout.{AreParted}
use Rattle.svr_idmap.proofs.Parted.{SetsValue-removed_high, SetsValue-removed_low, parted-removed_high, parted-removed_low, removed-high, removed-low, value-high, value-low}
use Rattle.svr_idmap.proofs.id_map.IdMap.remove.Goals as goal

pub invariant_of-self : goal.invariant_of-self
invariant_of-self g c =
    subst (λ dense. AreParted dense c.self.inside.sparse.entries) (sym c.remove.ensures.changed) (parted-removed_low c.self.inside.dense c.self.inside.sparse.entries c.self.invariant c.args.id (omega (arith, c.if-id-lt-DENSE_IDS.true)))

pub invariant_of-self-else-id-lt-DENSE_IDS : goal.invariant_of-self-else-id-lt-DENSE_IDS
invariant_of-self-else-id-lt-DENSE_IDS g c =
    subst (AreParted c.self.inside.dense) (sym c.remove-else-id-lt-DENSE_IDS.ensures.entries)
    (parted-removed_high c.self.inside.dense c.self.inside.sparse.entries c.self.invariant c.args.id (omega (arith, c.if-id-lt-DENSE_IDS.false))
    (subst Ascends c.remove-else-id-lt-DENSE_IDS.ensures.entries c.remove-else-id-lt-DENSE_IDS.ensures.ordered))

pub returns-then-id-lt-DENSE_IDS-clause-changed : goal.returns-then-id-lt-DENSE_IDS-clause-changed
returns-then-id-lt-DENSE_IDS-clause-changed g c =
    ap (λ dense. dense ++ c.self.inside.sparse.entries) c.remove.ensures.changed
    ∙ removed-low c.self.inside.dense c.self.inside.sparse.entries c.self.invariant c.args.id (omega (arith, c.if-id-lt-DENSE_IDS.true))
    ∙ ap (remove_entry (is_at (nat_cmp c.args.id))) c.self.view_is

pub returns-then-id-lt-DENSE_IDS-clause-before : goal.returns-then-id-lt-DENSE_IDS-clause-before
returns-then-id-lt-DENSE_IDS-clause-before g c =
    c.remove.ensures.before ∙ value-low c.self.inside.dense c.self.inside.sparse.entries c.self.invariant c.args.id (omega (arith, c.if-id-lt-DENSE_IDS.true))
    ∙ ap (λ values. value_at values c.args.id) c.self.view_is

pub returns-else-id-lt-DENSE_IDS-clause-changed : goal.returns-else-id-lt-DENSE_IDS-clause-changed
returns-else-id-lt-DENSE_IDS-clause-changed g c =
    ap (λ sparse. c.self.inside.dense ++ sparse) c.remove-else-id-lt-DENSE_IDS.ensures.entries
    ∙ removed-high c.self.inside.dense c.self.inside.sparse.entries c.self.invariant c.args.id (omega (arith, c.if-id-lt-DENSE_IDS.false))
    ∙ ap (remove_entry (is_at (nat_cmp c.args.id))) c.self.view_is

pub returns-else-id-lt-DENSE_IDS-clause-before : goal.returns-else-id-lt-DENSE_IDS-clause-before
returns-else-id-lt-DENSE_IDS-clause-before g c =
    let there : c.remove-else-id-lt-DENSE_IDS.result ≡ value_at c.self.inside.sparse.entries c.args.id = search rules in
    there ∙ value-high c.self.inside.dense c.self.inside.sparse.entries c.self.invariant c.args.id (omega (arith, c.if-id-lt-DENSE_IDS.false))
    ∙ ap (λ values. value_at values c.args.id) c.self.view_is

pub returns-then-id-lt-DENSE_IDS-clause-sets : goal.returns-then-id-lt-DENSE_IDS-clause-sets
returns-then-id-lt-DENSE_IDS-clause-sets g c =
    subst (λ old. SetsValue old (c.remove.new.self ++ c.self.inside.sparse.entries) c.args.id None) c.self.view_is
    (SetsValue-removed_low c.self.inside.dense c.self.inside.sparse.entries c.self.invariant c.args.id (omega (arith, c.if-id-lt-DENSE_IDS.true)) c.remove.new.self c.remove.ensures.sets)

pub returns-else-id-lt-DENSE_IDS-clause-sets : goal.returns-else-id-lt-DENSE_IDS-clause-sets
returns-else-id-lt-DENSE_IDS-clause-sets g c =
    let sets : SetsValue c.self.inside.sparse.entries c.remove-else-id-lt-DENSE_IDS.new.self.entries c.args.id None = search rules in
    subst (λ old. SetsValue old (c.self.inside.dense ++ c.remove-else-id-lt-DENSE_IDS.new.self.entries) c.args.id None) c.self.view_is
    (SetsValue-removed_high c.self.inside.dense c.self.inside.sparse.entries c.self.invariant c.args.id (omega (arith, c.if-id-lt-DENSE_IDS.false)) c.remove-else-id-lt-DENSE_IDS.new.self.entries sets)
