use Rattle.std.proofs.Common.{ℕ, List, option_map, Bor}
use Rattle.svr_lists.specs.Layout.{CountsOn}
use Rattle.svr_lists.proofs.merge.terms_behind.Given as goal

abbrev pub invariant-loop-count : goal.invariant-loop-count
invariant-loop-count l =
    CountsOn l.index (option_map (λ (t : Bor (List ℕ)). t.now) l.first) (option_map (λ (t : Bor (List ℕ)). t.now) l.after) l.count
