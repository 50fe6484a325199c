use Rattle.std.proofs.Common.{arith, Some, ap, sym, ◌∙◌}
use Rattle.svr_postpage.specs.declared.pair.Pair.{Pair}
use Rattle.svr_postpage.proofs.ByLayout.{length-pairs_of, slice_get-pairs_of}
use Rattle.svr_postpage.proofs.codec.pair_at.Goals as goal

pub get_pair-requires : goal.get_pair-requires
get_pair-requires c = omega (arith, c.requires, length-pairs_of c.args.bytes.now)

pub returns : goal.returns
returns c = slice_get-pairs_of c.args.i c.args.bytes.now c.requires ∙ ap (λ (p : Pair). Some p) (sym c.get_pair.ensures)
