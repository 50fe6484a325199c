use Rattle.std.proofs.Common.{◌≡◌, ◌-◌, ◌∙◌, nat_le, rules}
use Rattle.std.proofs.lemmas.List.Sorted.{IsPartitionPoint-from_clause}
use Rattle.svr_chunks.proofs.Reached.{Found, chunk_of-found}
use Rattle.svr_chunks.proofs.bounds.chunk_of.Goals as goal

pub returns-clause-value : goal.returns-clause-value
returns-clause-value c =
    let score = c.args.score in
    let i = c.partition_point-reached.result in
    let found : Found score c.as_slice.result.now i =
    λ p. IsPartitionPoint-from_clause (λ y. nat_le y score) _ _ c.partition_point-reached.ensures.partitioned p (λ a r f' k. search rules) in
    let less : c.saturating_sub.result ≡ i - 1 = search rules in
    less ∙ chunk_of-found score c.args.bounds.now c.as_slice.result.now i c.as_slice.ensures.are c.as_slice.ensures.value
    c.partition_point-reached.ensures.bound found
