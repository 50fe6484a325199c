use Rattle.std.proofs.Common.{◌≡◌, take}
use Rattle.svr_fakes.specs.Platter.{after_calls, whole}
use Rattle.svr_fakes.specs.Replaying.{IsReplay}
use Rattle.svr_fakes.proofs.history.History.crash.Given as goal

abbrev pub invariant-loop-call : goal.invariant-loop-call
invariant-loop-call l = IsReplay l.torn (after_calls (whole l.self.first) (take l.call-index l.self.calls)) l.replay × (l.call-items ≡ take l.calls l.self.calls)
