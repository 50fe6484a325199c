use Rattle.std.proofs.Common.{rules, ◌≡◌, true, false, arith, None, drop}
use Rattle.svr_postpage.specs.Layout.{are_pairs, follows}
use Rattle.svr_postpage.specs.Pages.{pairs_in_bytes}
use Rattle.svr_postpage.proofs.ByLayout.{are_pairs-ends, are_pairs-goes, are_pairs-stops}
use Rattle.svr_postpage.proofs.codec.are_pairs.Goals as goal

pub returns-then-not-follows : goal.returns-then-not-follows
returns-then-not-follows c =
    let fails : follows c.get_pair-next.result c.loop-i.last ≡ false = search rules in
    are_pairs-stops c.loop-i.last c.args.count c.loop-i.i c.args.bytes.now c.get_pair-next.result _ (omega arith) c.get_pair-next.ensures
    fails c.loop-i.invariant

pub loop-i-preserved : goal.loop-i-preserved
loop-i-preserved c =
    let holds : follows c.get_pair-next.result c.loop-i.last ≡ true = search rules in
    are_pairs-goes c.loop-i.last c.args.count c.loop-i.i c.args.bytes.now c.get_pair-next.result _ (omega arith) c.get_pair-next.ensures
    holds c.loop-i.invariant

pub returns : goal.returns
returns c =
    let last : c.loop-i.i ≡ c.args.count = omega arith in
    are_pairs-ends c.loop-i.last c.args.count _ (are_pairs None (pairs_in_bytes c.args.count (drop 4 c.args.bytes.now))) (rw last at c.loop-i.invariant)
