use Rattle.std.proofs.Common.{◌≡◌, Option, None, Some, Result, Ok, sym, ap, ◌∙◌, subst}
use Rattle.std.specs.Option.{IsSome}
use Rattle.svr_iter.specs.declared.fault.ScanFault.{ScanFault}
use Rattle.svr_request.specs.declared.refusal.Refusal.TheVariants as refusal
use Rattle.svr_core.specs.declared.plan.Entry.{Entry}
use Rattle.svr_core.specs.declared.plan.Step.TheVariants as step
use Rattle.svr_core.specs.Edits.{Accepts}
use Rattle.svr_core.specs.Kept.{CoreValue, ServesAs, catalog_of, last_of}
use Rattle.svr_core.specs.Merges.{MayCome}
use Rattle.svr_store.specs.Store.{StoreValue}
use Rattle.svr_store.specs.Merging.{SubmitsOne}
use Rattle.svr_store.proofs.Sliced.{entry_is_due, entry_submits, left_submits, no_merge_due, serves_pages, stopped_submits}
use Rattle.svr_store.proofs.Steps.{step_refused}
use Rattle.svr_store.proofs.store.Store.slice.Goals as goal

pub returns-then-not-is_merging-clause-submits : goal.returns-then-not-is_merging-clause-submits
returns-then-not-is_merging-clause-submits g c = λ s request serves is.
    let here = rw (← c.self.view_is) at serves in
    step_refused (g.D.Disk.view c.args.disk.now) (g.met.D.Disk.laws c.args.disk.now) c.args.self.now s request serves (step.Slice c.args.most) is
    refusal.NoMerge (no_merge_due c.self.inside.core s c.args.most here.serves (sym c.is_merging.ensures ∙ c.if-not-is_merging.true))

pub commit-requires-clause-accepted : goal.commit-requires-clause-accepted
commit-requires-clause-accepted g c =
    let may = c.in-Ok-Some.ensures.may c.in-Ok-Some.entry c.in-Ok-Some.field-0-is in
    subst (λ (core : CoreValue). Accepts (catalog_of core) c.in-Ok-Some.entry.edit) (ap (λ (v : StoreValue). v.core) (sym c.in-Ok-Some.ensures.kept))
    may.accepted

pub commit-requires-clause-may_come : goal.commit-requires-clause-may_come
commit-requires-clause-may_come g c =
    let may = c.in-Ok-Some.ensures.may c.in-Ok-Some.entry c.in-Ok-Some.field-0-is in
    subst (λ (core : CoreValue). MayCome core c.in-Ok-Some.entry.edit) (ap (λ (v : StoreValue). v.core) (sym c.in-Ok-Some.ensures.kept)) may.may_come

pub commit-requires-clause-size : goal.commit-requires-clause-size
commit-requires-clause-size g c = (c.in-Ok-Some.ensures.may c.in-Ok-Some.entry c.in-Ok-Some.field-0-is).size

pub returns-in-Ok-Some-clause-submits : goal.returns-in-Ok-Some-clause-submits
returns-in-Ok-Some-clause-submits g c = λ s request serves is.
    let old = g.D.Disk.view c.args.disk.now in
    let mid = g.D.Disk.view c.plan_slice.new.disk in
    let laws = g.met.D.Disk.laws c.plan_slice.new.disk in
    let store = c.args.self.now in
    let after = c.plan_slice.new.self in
    let still = serves_pages store after s c.plan_slice.ensures.kept serves in
    let begun = subst (λ (core : CoreValue). IsSome (last_of core)) (ap (λ (v : StoreValue). v.core) c.self.view_is)
    (sym c.is_merging.ensures ∙ c.if-not-is_merging.false) in
    let planned : c.plan_slice.result ≡ Ok (Some c.in-Ok-Some.entry) =
    c.in-Ok-Some.is ∙ ap (λ (o : Option Entry). let r : Result (Option Entry) ScanFault = Ok o in r) c.in-Ok-Some.field-0-is in
    entry_submits old mid laws store after s request serves still c.args.most is begun c.plan_slice.result c.plan_slice.ensures.plans
    (g.D.Disk.view c.commit.new.disk) c.commit.new.self c.commit.result (c.commit.ensures.submits s request still
    (entry_is_due old mid laws store after s request serves still c.args.most is begun c.plan_slice.result c.plan_slice.ensures.plans
    c.in-Ok-Some.entry planned))

pub returns-in-Ok-None-clause-submits : goal.returns-in-Ok-None-clause-submits
returns-in-Ok-None-clause-submits g c = λ s request serves is.
    let old = g.D.Disk.view c.args.disk.now in
    let mid = g.D.Disk.view c.plan_slice.new.disk in
    let laws = g.met.D.Disk.laws c.plan_slice.new.disk in
    let store = c.args.self.now in
    let after = c.plan_slice.new.self in
    let still = serves_pages store after s c.plan_slice.ensures.kept serves in
    let begun = subst (λ (core : CoreValue). IsSome (last_of core)) (ap (λ (v : StoreValue). v.core) c.self.view_is)
    (sym c.is_merging.ensures ∙ c.if-not-is_merging.false) in
    let planned : c.plan_slice.result ≡ Ok None =
    c.in-Ok-None.is ∙ ap (λ (o : Option Entry). let r : Result (Option Entry) ScanFault = Ok o in r) c.in-Ok-None.field-0-is in
    left_submits old mid laws store after s request serves still c.args.most is begun c.plan_slice.result c.plan_slice.ensures.plans c.left.result planned
    (λ v there lawful. c.left.ensures v (subst (λ (core : CoreValue). ServesAs core v)
    (ap (λ (v : StoreValue). v.core) (sym c.plan_slice.ensures.kept ∙ sym c.self-in-Ok-None.view_is)) there) lawful)

pub returns-in-Err-clause-submits : goal.returns-in-Err-clause-submits
returns-in-Err-clause-submits g c = λ s request serves is.
    let old = g.D.Disk.view c.args.disk.now in
    let mid = g.D.Disk.view c.plan_slice.new.disk in
    let laws = g.met.D.Disk.laws c.plan_slice.new.disk in
    let store = c.args.self.now in
    let after = c.plan_slice.new.self in
    let still = serves_pages store after s c.plan_slice.ensures.kept serves in
    let begun = subst (λ (core : CoreValue). IsSome (last_of core)) (ap (λ (v : StoreValue). v.core) c.self.view_is)
    (sym c.is_merging.ensures ∙ c.if-not-is_merging.false) in
    subst (SubmitsOne old mid store after s request) (sym c.stopped.ensures.value)
    (stopped_submits old mid laws store after s request serves still c.args.most is begun c.plan_slice.result c.plan_slice.ensures.plans c.in-Err.fault
    c.in-Err.is)
