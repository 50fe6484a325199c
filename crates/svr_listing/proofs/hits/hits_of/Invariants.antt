use Rattle.std.proofs.Common.{◌≡◌, take}
use Rattle.svr_listing.specs.Groups.{hits_of}
use Rattle.svr_listing.proofs.hits.hits_of.Given as goal

abbrev pub invariant-loop-id : goal.invariant-loop-id
invariant-loop-id g l = l.hits.items ≡ hits_of (g.S.Scores.score_of l.scores) (take l.id-index l.ids)
