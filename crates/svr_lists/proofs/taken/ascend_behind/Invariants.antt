use Rattle.std.proofs.Common.{◌≡◌, ℕ, List, option_map, drop, Bor}
use Rattle.svr_lists.specs.Taken.{ascend_behind}
use Rattle.svr_lists.proofs.taken.ascend_behind.Given as goal

abbrev pub invariant-loop-term : goal.invariant-loop-term
invariant-loop-term l =
    ascend_behind (option_map (λ (t : Bor (List ℕ)). t.now) l.behind) (drop l.term-index l.terms)
    ≡ ascend_behind (option_map (λ (t : Bor (List ℕ)). t.now) l.last) l.terms
