use Rattle.std.proofs.Common.{◌≡◌, length, take}
use Rattle.svr_postpage.proofs.Writing.{written}
use Rattle.svr_postpage.proofs.codec.write_page.Given as goal

abbrev pub invariant-loop-i : goal.invariant-loop-i
invariant-loop-i l = l.into ≡ written (length l.pairs) (take l.i l.pairs)
