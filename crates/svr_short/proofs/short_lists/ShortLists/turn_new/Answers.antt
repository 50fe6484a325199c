use Rattle.std.proofs.Common.{rules, sym, subst, take, ◌+◌}
use Rattle.svr_short.specs.Short.{Lists, lacks}
use Rattle.svr_short.specs.Layout.{IsTurned}
use Rattle.svr_short.proofs.Placing.{IsTurned-new, IsTurned-passed}
use Rattle.svr_short.proofs.short_lists.ShortLists.turn_new.Goals.{then-not-has+in_ok-turn, else-not-has}
use Rattle.svr_short.proofs.short_lists.ShortLists.turn_new.Goals as goal

pub loop-i-preserved : goal.loop-i-preserved
loop-i-preserved c = elim c.if-not-has.branch [
  | then-not-has+in_ok-turn w ↦
      subst (λ (x : Lists). IsTurned c.args.self.now x c.args.id c.args.key c.args.mark (lacks c.args.others.now (take (c.loop-i.i + 1) c.args.terms.now)))
      (sym w.self-is)
      (IsTurned-new c.args.self.now c.loop-i.self w.turn.new.self c.args.id c.args.key c.args.mark c.args.terms.now c.args.others.now c.loop-i.i
      c.get-term.result.now c.len-i-end.ensures.ascending (search rules) c.get-term.ensures (sym w.if-not-has.ensures.value) c.loop-i.invariant
      w.in_ok-turn.ensures.others w.in_ok-turn.ensures.marks)
  | else-not-has w ↦
      subst (λ (x : Lists). IsTurned c.args.self.now x c.args.id c.args.key c.args.mark (lacks c.args.others.now (take (c.loop-i.i + 1) c.args.terms.now)))
      (sym w.self-is)
      (IsTurned-passed c.args.self.now c.loop-i.self c.args.id c.args.key c.args.mark c.args.terms.now c.args.others.now c.loop-i.i
      c.get-term.result.now (search rules) c.get-term.ensures (sym w.if-not-has.ensures.value) c.loop-i.invariant)
]
