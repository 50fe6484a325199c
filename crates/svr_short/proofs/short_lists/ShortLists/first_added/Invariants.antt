use Rattle.std.proofs.Common.{◌≡◌, ℕ, List, find}
use Rattle.svr_short.specs.Layout.{any_add}
use Rattle.svr_short.proofs.short_lists.ShortLists.first_added.Given as goal

abbrev pub invariant-loop-term : goal.invariant-loop-term
invariant-loop-term l =
    find (λ (e : List ℕ × ℕ). any_add l.self.marks e.1) l.term-iterator
    ≡ find (λ (e : List ℕ × ℕ). any_add l.self.marks e.1) l.initial.term-iterator
