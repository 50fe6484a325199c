use Rattle.std.proofs.Common.{rules, ◌≡◌, map}
use Rattle.svr_merge.proofs.Scored.{within-documents}
use Rattle.svr_merge.proofs.scores.scores_of.Goals as goal

pub sort_scores-requires : goal.sort_scores-requires
sort_scores-requires c =
    let is : c.as_mut_slice.result.now ≡ map (λ d. d.score) c.args.documents.now = search rules in
    within-documents _ _ is c.requires
