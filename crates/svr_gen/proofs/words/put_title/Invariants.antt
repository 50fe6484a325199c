use Rattle.std.proofs.Common.{◌≡◌}
use Rattle.svr_gen.specs.Parts.{numbered}
use Rattle.svr_gen.specs.Layout.{followed}
use Rattle.svr_gen.specs.Requests.{next_word}
use Rattle.svr_gen.proofs.words.put_title.Given as goal

abbrev pub invariant-loop : goal.invariant-loop
invariant-loop l = l.writer ≡ followed l.initial.writer (numbered (λ _. next_word) l.counter)
