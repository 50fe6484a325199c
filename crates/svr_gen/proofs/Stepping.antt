-- One step more.
use Rattle.std.proofs.Common.{◌≡◌, ◌≤◌, arith, Bool, true, false, if◌then◌else◌, ◌==◌, ℕ, suc, ◌+◌}
use Rattle.svr_gen.specs.Parts.{Written}
use Rattle.svr_gen.specs.Layout.{followed, drawn, after_draw}
use Rattle.svr_gen.specs.Workload.{chosen, merges_with, steps}
use Rattle.svr_gen.proofs.Following.{followed-nothing, followed-with_draw, followed-in_turn-cons, followed-in_turn-nil}

-- no step is left
pub followed-steps-zero : (w : Written) (merges : ℕ) → followed w (steps 0 merges) ≡ w
unfolding steps
followed-steps-zero w merges = followed-nothing w

-- the request of a step, by the choice that is drawn, and then the steps behind it
pub followed-steps-suc : (w : Written) (count merges : ℕ)
    → followed w (steps (suc count) merges)
    ≡ followed (followed (after_draw w) (chosen (drawn 10 w) merges)) (steps count (merges_with (drawn 10 w) merges))
unfolding steps
followed-steps-suc w count merges = simp (followed-with_draw, followed-in_turn-cons, followed-in_turn-nil)

-- at most one step of a merge comes with a step
pub merges_with-le : (choice merges : ℕ) → merges_with choice merges ≤ merges + 1
unfolding merges_with
merges_with-le choice merges = if_le (choice == 9)
  where
    if_le : (b : Bool) → (if b then suc merges else merges) ≤ merges + 1
    if_le true = omega arith
    if_le false = omega arith
