use Rattle.std.proofs.Common.{◌≡◌, map, take}
use Rattle.svr_merge.proofs.scores.scores_in.Given as goal

abbrev pub invariant-loop-document : goal.invariant-loop-document
invariant-loop-document l = l.scores.items ≡ map (λ d. d.score) (take l.document-index l.documents)
