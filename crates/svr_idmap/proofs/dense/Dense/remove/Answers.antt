use Rattle.std.proofs.Common.{◌≤◌, ◌-◌, None, set, ap, arith, subst, sym, ◌∙◌}
use Rattle.svr_idmap.specs.Layout.{IsDense, count_of, entries_from}
use Rattle.svr_idmap.specs.Ids.{SetsValue}
use Rattle.svr_idmap.proofs.Places.{SetsValue-none_there, SetsValue-removed, IsDense-removed, counted-there, remove-none_there, removed-now, value-beyond, value-read}
use Rattle.svr_idmap.proofs.dense.Dense.remove.Goals as goal

pub returns-then-id-len-clause-changed : goal.returns-then-id-len-clause-changed
returns-then-id-len-clause-changed g c =
    remove-none_there c.self.inside.values.items c.self.inside.count c.args.self.now c.self.invariant c.self.view_is c.args.id
    (omega (arith, c.len.ensures, c.if-id-len.true))

pub returns-then-id-len-clause-before : goal.returns-then-id-len-clause-before
returns-then-id-len-clause-before g c =
    value-beyond c.self.inside.values.items c.self.inside.count c.args.self.now c.self.invariant c.self.view_is c.args.id
    (omega (arith, c.len.ensures, c.if-id-len.true))

pub overflow_sub-self : goal.overflow_sub-self
overflow_sub-self g c =
    let x = c.index_mut.result.now in
    let there = counted-there c.self.inside.values.items c.self.inside.count c.args.self.now c.self.invariant c.self.view_is c.args.id x
    (omega (arith, c.len.ensures, c.if-id-len.false)) c.index_mut.ensures.value in
    subst (λ n. n ≤ c.self.inside.count) (sym (c.count_of.ensures ∙ ap count_of c.take-before.ensures.value)) there

pub invariant_of-self : goal.invariant_of-self
invariant_of-self g c =
    let x = c.index_mut.result.now in
    let out = IsDense-removed c.self.inside.values.items c.self.inside.count c.args.self.now c.self.invariant c.self.view_is c.args.id x
    (omega (arith, c.len.ensures, c.if-id-len.false)) c.index_mut.ensures.value in
    subst (λ o. IsDense (set c.self.inside.values.items c.args.id o) (c.self.inside.count - c.count_of.result)) (sym c.take-before.ensures.after)
    (subst (λ n. IsDense (set c.self.inside.values.items c.args.id None) (c.self.inside.count - n))
    (sym (c.count_of.ensures ∙ ap count_of c.take-before.ensures.value)) out)

pub returns-clause-changed : goal.returns-clause-changed
returns-clause-changed g c =
    ap (λ o. entries_from 0 (set c.self.inside.values.items c.args.id o)) c.take-before.ensures.after
    ∙ removed-now c.self.inside.values.items c.self.inside.count c.args.self.now c.self.invariant c.self.view_is c.args.id
    c.index_mut.result.now (omega (arith, c.len.ensures, c.if-id-len.false)) c.index_mut.ensures.value

pub returns-clause-before : goal.returns-clause-before
returns-clause-before g c =
    c.take-before.ensures.value
    ∙ value-read c.self.inside.values.items c.self.inside.count c.args.self.now c.self.invariant c.self.view_is c.args.id
    c.index_mut.result.now (omega (arith, c.len.ensures, c.if-id-len.false)) c.index_mut.ensures.value

pub returns-then-id-len-clause-sets : goal.returns-then-id-len-clause-sets
returns-then-id-len-clause-sets g c =
    SetsValue-none_there c.self.inside.values.items c.self.inside.count c.args.self.now c.self.invariant c.self.view_is c.args.id (omega (arith, c.len.ensures, c.if-id-len.true))

pub returns-clause-sets : goal.returns-clause-sets
returns-clause-sets g c =
    subst (λ o. SetsValue c.args.self.now (entries_from 0 (set c.self.inside.values.items c.args.id o)) c.args.id None)
    (sym c.take-before.ensures.after)
    (SetsValue-removed c.self.inside.values.items c.self.inside.count c.args.self.now c.self.invariant c.self.view_is c.args.id (omega (arith, c.len.ensures, c.if-id-len.false)))
