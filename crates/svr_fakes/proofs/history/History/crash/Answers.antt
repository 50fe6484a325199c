use Rattle.std.proofs.Common.{◌≡◌, ◌<◌, ◌+◌, ◌++◌, ◌∷◌, [], ℕ, List, length, take, get_or, sym, ap, ◌∙◌, subst, arith, get_or-take}
use Rattle.std.proofs.lemmas.List.{take_more, length-take}
use Rattle.svr_fakes.specs.declared.disk_call.Call.{Call}
use Rattle.svr_fakes.specs.Platter.{Platter, after_calls, whole}
use Rattle.svr_fakes.specs.Replaying.{IsReplay}
use Rattle.svr_fakes.proofs.Growing.{after_calls-push}
use Rattle.svr_fakes.proofs.history.History.crash.Goals as goal

-- the next call is one more
next : (items calls : List Call) (n i : ℕ) (x : Call) → items ≡ take n calls → i < length items → x ≡ get_or items i x → take (i + 1) calls ≡ take i calls ++ x ∷ []
next items calls n i x is lt at =
    let few : length items ≡ _ = ap length is ∙ length-take n calls in
    let there : x ≡ get_or calls i x = at ∙ ap (λ (cs : List Call). get_or cs i x) is ∙ get_or-take n calls i x (omega (arith, lt, few)) in
    take_more calls i x (omega (arith, lt, few)) ∙ ap (λ (y : Call). take i calls ++ y ∷ []) (sym there)

pub loop-call-preserved : goal.loop-call-preserved
loop-call-preserved c =
    let i = c.loop-call.call-index in
    let calls = c.args.self.now.calls in
    let start = whole c.args.self.now.first in
    let x = c.call-item.result in
    let more : take (i + 1) calls ≡ take i calls ++ x ∷ [] = next _ calls c.args.calls i x c.loop-call.invariant.1 c.loop-call-test.true c.call-item.is in
    let platter : after_calls start (take (i + 1) calls) ≡ _ = ap (λ (cs : List Call). after_calls start cs) more ∙ after_calls-push start (take i calls) x in (
      subst (λ (p : Platter). IsReplay c.args.torn p c.step.new.self) (sym platter) (c.in_ok-step.ensures (after_calls start (take i calls)) c.loop-call.invariant.0),
      c.loop-call.invariant.1,
    )
