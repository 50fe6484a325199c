use Rattle.std.proofs.Common.{◌≡◌}
use Rattle.svr_gen.specs.Parts.{numbered}
use Rattle.svr_gen.specs.Layout.{followed}
use Rattle.svr_gen.specs.Requests.{search_request}
use Rattle.svr_gen.proofs.searches.put_searches.Given as goal

abbrev pub invariant-loop : goal.invariant-loop
invariant-loop l = l.writer ≡ followed l.initial.writer (numbered (λ _. search_request) l.counter)
