use Rattle.std.proofs.Common.{◌+◌, ◌-◌, Some, set, ap, arith, subst, sym, ◌∙◌}
use Rattle.svr_idmap.specs.Layout.{IsDense, count_of, entries_from}
use Rattle.svr_idmap.proofs.Places.{IsDense-inserted, IsDense-more, count-few, inserted-now, value-read}
use Rattle.svr_idmap.proofs.dense.Dense.insert.Goals as goal

pub overflow_add-self : goal.overflow_add-self
overflow_add-self g c =
    let few = count-few c.self.inside.values.items c.self.inside.count c.args.self.now c.self.invariant c.self.view_is in
    record { fits = omega (arith, few) }

pub invariant_of-self-2 : goal.invariant_of-self-2
invariant_of-self-2 g c =
    let more = c.make_place.new.values.items in
    let x = c.index_mut.result.now in
    let kept = c.in_ok-make_place.ensures.kept in
    let h = IsDense-more c.self.inside.values.items more c.self.inside.count c.self.invariant (omega (arith, c.in_ok-make_place.ensures.few)) kept in
    let out = IsDense-inserted more c.self.inside.count c.args.self.now h (kept 0 ∙ c.self.view_is) c.args.id x
    (omega (arith, c.in_ok-make_place.ensures.place)) c.index_mut.ensures.value c.args.value in
    subst (λ o. IsDense (set more c.args.id o) (c.self.inside.count + 1 - c.count_of.result)) (sym c.replace-before.ensures.after)
    (subst (λ n. IsDense (set more c.args.id (Some c.args.value)) (c.self.inside.count + 1 - n))
    (sym (c.count_of.ensures ∙ ap count_of c.replace-before.ensures.value)) out)

pub returns-clause-changed : goal.returns-clause-changed
returns-clause-changed g c =
    let more = c.make_place.new.values.items in
    let kept = c.in_ok-make_place.ensures.kept in
    let h = IsDense-more c.self.inside.values.items more c.self.inside.count c.self.invariant (omega (arith, c.in_ok-make_place.ensures.few)) kept in
    ap (λ o. entries_from 0 (set more c.args.id o)) c.replace-before.ensures.after
    ∙ inserted-now more c.self.inside.count c.args.self.now h (kept 0 ∙ c.self.view_is) c.args.id c.index_mut.result.now
    (omega (arith, c.in_ok-make_place.ensures.place)) c.index_mut.ensures.value c.args.value

pub returns-clause-before : goal.returns-clause-before
returns-clause-before g c =
    let more = c.make_place.new.values.items in
    let kept = c.in_ok-make_place.ensures.kept in
    let h = IsDense-more c.self.inside.values.items more c.self.inside.count c.self.invariant (omega (arith, c.in_ok-make_place.ensures.few)) kept in
    c.replace-before.ensures.value
    ∙ value-read more c.self.inside.count c.args.self.now h (kept 0 ∙ c.self.view_is) c.args.id c.index_mut.result.now
    (omega (arith, c.in_ok-make_place.ensures.place)) c.index_mut.ensures.value
