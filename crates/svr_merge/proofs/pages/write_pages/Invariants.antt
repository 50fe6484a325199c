use Rattle.std.proofs.Common.{◌≡◌, ◌++◌, length}
use Rattle.svr_merge.specs.Images.{MayFillPages, pages_bytes}
use Rattle.svr_merge.proofs.pages.write_pages.Given as goal

abbrev pub invariant-loop-rest : goal.invariant-loop-rest
invariant-loop-rest l = MayFillPages l.rest × (l.bytes.items ++ pages_bytes l.rest ≡ pages_bytes l.fn.pairs)

abbrev pub decreases-loop-rest : goal.decreases-loop-rest
decreases-loop-rest l = length l.rest
