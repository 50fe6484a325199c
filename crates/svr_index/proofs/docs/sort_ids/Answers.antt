use Rattle.std.proofs.Common.{◌<◌, ◌==◌, ◌^◌, sym}
use Rattle.std.proofs.lemmas.List.Sorted.{All-permutation, IsNonDecreasingBy-from_sort, list_any-IsPermutation}
use Rattle.svr_index.proofs.Gathering.{sorted-up}
use Rattle.svr_index.proofs.docs.sort_ids.Goals as goal

pub returns-clause-same : goal.returns-clause-same
returns-clause-same c id = sym (list_any-IsPermutation (λ other. other == id) _ _ c.sort_unstable.ensures.permutation)

pub returns-clause-ascending : goal.returns-clause-ascending
returns-clause-ascending c =
    sorted-up _ _ c.sort_unstable.ensures.permutation (IsNonDecreasingBy-from_sort (λ x. x) _ c.sort_unstable.ensures.sorted)
    c.requires.differ

pub returns-clause-fit : goal.returns-clause-fit
returns-clause-fit c = All-permutation (λ id. id < 2 ^ 63) _ _ c.sort_unstable.ensures.permutation c.requires.fit
