use Rattle.std.proofs.Common.{IsSome, set, ap, arith, subst, sym, ◌∙◌}
use Rattle.svr_idmap.specs.Layout.{IsDense, entries_from}
use Rattle.svr_idmap.proofs.Places.{IsDense-replaced, replaced-now, value-read, within-there}
use Rattle.svr_idmap.proofs.dense.Dense.replace.Goals as goal

pub index_mut-requires : goal.index_mut-requires
index_mut-requires g c = let h = within-there c.self.inside.values.items c.self.inside.count c.args.self.now c.self.invariant c.self.view_is c.args.id c.requires in omega (arith, h)

pub unwrap-requires : goal.unwrap-requires
unwrap-requires g c =
    let h = within-there c.self.inside.values.items c.self.inside.count c.args.self.now c.self.invariant c.self.view_is c.args.id c.requires in
    subst IsSome
    (sym (c.replace.ensures.value ∙ value-read c.self.inside.values.items c.self.inside.count c.args.self.now c.self.invariant c.self.view_is c.args.id c.index_mut.result.now h c.index_mut.ensures.value))
    c.requires

pub invariant_of-self : goal.invariant_of-self
invariant_of-self g c =
    let h = within-there c.self.inside.values.items c.self.inside.count c.args.self.now c.self.invariant c.self.view_is c.args.id c.requires in
    subst (λ o. IsDense (set c.self.inside.values.items c.args.id o) c.self.inside.count) (sym c.replace.ensures.after)
    (IsDense-replaced c.self.inside.values.items c.self.inside.count c.args.self.now c.self.invariant c.self.view_is c.args.id c.index_mut.result.now h c.index_mut.ensures.value c.args.value c.requires)

pub returns-clause-changed : goal.returns-clause-changed
returns-clause-changed g c =
    ap (λ o. entries_from 0 (set c.self.inside.values.items c.args.id o)) c.replace.ensures.after
    ∙ replaced-now c.self.inside.values.items c.self.inside.count c.args.self.now c.self.invariant c.self.view_is c.args.id c.args.value c.requires

pub returns-clause-before : goal.returns-clause-before
returns-clause-before g c =
    let h = within-there c.self.inside.values.items c.self.inside.count c.args.self.now c.self.invariant c.self.view_is c.args.id c.requires in
    sym c.unwrap.ensures ∙ c.replace.ensures.value
    ∙ value-read c.self.inside.values.items c.self.inside.count c.args.self.now c.self.invariant c.self.view_is c.args.id c.index_mut.result.now h c.index_mut.ensures.value
