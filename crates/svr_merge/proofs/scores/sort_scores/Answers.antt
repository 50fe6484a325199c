use Rattle.std.proofs.lemmas.List.Sorted.{IsNonDecreasingBy-from_sort}
use Rattle.svr_merge.proofs.Scored.{sorted-ascending, within-sorted}
use Rattle.svr_merge.proofs.scores.sort_scores.Goals as goal

pub returns-clause-value : goal.returns-clause-value
returns-clause-value c = sorted-ascending _ _ c.sort_unstable.ensures.permutation c.sort_unstable.ensures.sorted

pub returns-clause-ascending : goal.returns-clause-ascending
returns-clause-ascending c = IsNonDecreasingBy-from_sort (λ x. x) _ c.sort_unstable.ensures.sorted

pub returns-clause-within : goal.returns-clause-within
returns-clause-within c = within-sorted _ _ c.sort_unstable.ensures.permutation c.requires
