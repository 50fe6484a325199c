use Rattle.std.proofs.Common.{◌≡◌, ℕ, false, nat_lt, Option, None, sym, ap, ap₂, ◌∙◌, subst, arith, rules}
use Rattle.std.specs.Option.{IsSome}
use Rattle.svr_catalog.specs.Catalog.{Catalog}
use Rattle.svr_core.specs.Run.{asks_for, closes, next_step, state_in_end}
use Rattle.svr_core.proofs.Runs.{asks_step}
use Rattle.svr_store.specs.Store.{StoreValue}
use Rattle.svr_store.proofs.Stepping.{Stepped-on, Stepped-start, causes_after, fewer-left, left_of, whole_by}
use Rattle.svr_store.proofs.store.Store.merge.Goals as goal

pub loop-next-init : goal.loop-next-init
loop-next-init g c = record {
  steps = λ s serves set. Stepped-start s (g.D.Disk.view c.args.disk.now) c.args.self.now serves;
  is_open = c.requires.open;
  set = c.requires.set;
  writes = omega arith;
  reads = omega arith;
}

pub step-reply-requires-clause-open : goal.step-reply-requires-clause-open
step-reply-requires-clause-open g c = c.loop-next.invariant.is_open

pub step-reply-requires-clause-set : goal.step-reply-requires-clause-set
step-reply-requires-clause-set g c = c.loop-next.invariant.set

pub returns-in_default-clause-submits : goal.returns-in_default-clause-submits
returns-in_default-clause-submits g c = λ s request serves is.
    let set = subst (λ (o : Option Catalog). IsSome o) serves.serves.catalog c.requires.set in
    let k = c.loop-next.invariant.steps s serves set in
    let state = state_in_end s k.steps in
    let part = c.loop-next.part in
    let it = c.step-reply.ensures.submits state (asks_for part) k.serves
    (asks_step state.served part (subst (λ (o : Option Catalog). IsSome o) (sym k.beside.catalog) set)) in
    let told : next_step c.loop-next.part (nat_lt c.loop-next.self.end c.step-reply.new.self.end) c.step-reply.result ≡ c.next.result =
    ap₂ (λ (a b : ℕ). next_step c.loop-next.part (nat_lt a b) c.step-reply.result)
    (sym (c.end-start.ensures ∙ ap (λ (v : StoreValue). v.end) c.self.view_is))
    (sym (c.end.ensures ∙ ap (λ (v : StoreValue). v.end) c.self-in-loop-next.view_is)) ∙ sym c.next.ensures in
    let ends : c.next.result ≡ None = search rules in
    whole_by s set part (g.D.Disk.view c.args.disk.now) (g.D.Disk.view c.loop-next.disk) (g.D.Disk.view c.step-reply.new.disk) c.args.self.now c.loop-next.self
    c.step-reply.new.self k c.step-reply.result it request is (told ∙ ends) c.leave.new.self c.leave.ensures.kept c.leave.ensures.left

pub returns-in_default-clause-causes : goal.returns-in_default-clause-causes
returns-in_default-clause-causes g c =
    causes_after (g.D.Disk.view c.args.disk.now) (g.D.Disk.view c.loop-next.disk) (g.D.Disk.view c.step-reply.new.disk) c.step-reply.result
    c.loop-next.invariant.writes c.loop-next.invariant.reads c.step-reply.ensures.causes

pub loop-next-preserved-in-Some : goal.loop-next-preserved-in-Some
loop-next-preserved-in-Some g c =
    let told : next_step c.loop-next.part (nat_lt c.loop-next.self.end c.step-reply.new.self.end) c.step-reply.result ≡ c.next.result =
    ap₂ (λ (a b : ℕ). next_step c.loop-next.part (nat_lt a b) c.step-reply.result)
    (sym (c.end-start.ensures ∙ ap (λ (v : StoreValue). v.end) c.self.view_is))
    (sym (c.end.ensures ∙ ap (λ (v : StoreValue). v.end) c.self-in-loop-next.view_is)) ∙ sym c.next.ensures in
    let goes = told ∙ c.in-Some.is in
    let left = left_of c.loop-next.part (nat_lt c.loop-next.self.end c.step-reply.new.self.end) c.step-reply.result c.in-Some.next goes in
    let going : closes c.step-reply.result ≡ false = ap closes left.1 in
    record {
      steps = λ s serves set.
          let k = c.loop-next.invariant.steps s serves set in
          let state = state_in_end s k.steps in
          let part = c.loop-next.part in
          let it = c.step-reply.ensures.submits state (asks_for part) k.serves
          (asks_step state.served part (subst (λ (o : Option Catalog). IsSome o) (sym k.beside.catalog) set)) in
          Stepped-on s set part (g.D.Disk.view c.args.disk.now) (g.D.Disk.view c.loop-next.disk) (g.D.Disk.view c.step-reply.new.disk)
          c.args.self.now c.loop-next.self c.step-reply.new.self k c.step-reply.result it c.in-Some.next goes;
      is_open = c.step-reply.ensures.open going;
      set = c.step-reply.ensures.set going;
      writes = omega (arith, c.loop-next.invariant.writes, c.step-reply.ensures.causes.writes);
      reads = omega (arith, c.loop-next.invariant.reads, c.step-reply.ensures.causes.reads);
    }

pub loop-next-smaller : goal.loop-next-smaller
loop-next-smaller g c =
    let told : next_step c.loop-next.part (nat_lt c.loop-next.self.end c.step-reply.new.self.end) c.step-reply.result ≡ c.next.result =
    ap₂ (λ (a b : ℕ). next_step c.loop-next.part (nat_lt a b) c.step-reply.result)
    (sym (c.end-start.ensures ∙ ap (λ (v : StoreValue). v.end) c.self.view_is))
    (sym (c.end.ensures ∙ ap (λ (v : StoreValue). v.end) c.self-in-loop-next.view_is)) ∙ sym c.next.ensures in
    let goes = told ∙ c.in-Some.is in
    let left = left_of c.loop-next.part (nat_lt c.loop-next.self.end c.step-reply.new.self.end) c.step-reply.result c.in-Some.next goes in
    fewer-left c.loop-next.part c.in-Some.next left.0 c.loop-next.self.end c.step-reply.new.self.end
    (ap (next_step c.loop-next.part (nat_lt c.loop-next.self.end c.step-reply.new.self.end)) (sym left.1) ∙ goes)
    c.step-reply.ensures.later c.step-reply.ensures.within

pub loop-next-preserved : goal.loop-next-preserved
loop-next-preserved g c =
    let told : next_step c.loop-next.part (nat_lt c.loop-next.self.end c.step-reply.new.self.end) c.step-reply.result ≡ c.next.result =
    ap₂ (λ (a b : ℕ). next_step c.loop-next.part (nat_lt a b) c.step-reply.result)
    (sym (c.end-start.ensures ∙ ap (λ (v : StoreValue). v.end) c.self.view_is))
    (sym (c.end.ensures ∙ ap (λ (v : StoreValue). v.end) c.self-in-loop-next.view_is)) ∙ sym c.next.ensures in
    let goes = told ∙ c.in-Some.is in
    let left = left_of c.loop-next.part (nat_lt c.loop-next.self.end c.step-reply.new.self.end) c.step-reply.result c.in-Some.next goes in
    let going : closes c.step-reply.result ≡ false = ap closes left.1 in
    record {
      steps = λ s serves set.
          let k = c.loop-next.invariant.steps s serves set in
          let state = state_in_end s k.steps in
          let part = c.loop-next.part in
          let it = c.step-reply.ensures.submits state (asks_for part) k.serves
          (asks_step state.served part (subst (λ (o : Option Catalog). IsSome o) (sym k.beside.catalog) set)) in
          Stepped-on s set part (g.D.Disk.view c.args.disk.now) (g.D.Disk.view c.loop-next.disk) (g.D.Disk.view c.step-reply.new.disk)
          c.args.self.now c.loop-next.self c.step-reply.new.self k c.step-reply.result it c.in-Some.next goes;
      is_open = c.step-reply.ensures.open going;
      set = c.step-reply.ensures.set going;
      writes = omega (arith, c.loop-next.invariant.writes, c.step-reply.ensures.causes.writes);
      reads = omega (arith, c.loop-next.invariant.reads, c.step-reply.ensures.causes.reads);
    }
