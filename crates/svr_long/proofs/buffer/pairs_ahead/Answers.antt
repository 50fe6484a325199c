use Rattle.std.proofs.Common.{rules, ◌≡◌, ◌<◌, ◌-◌, true, false, Some, slice_get, arith}
use Rattle.svr_postpage.specs.Pages.{pairs_of}
use Rattle.svr_long.specs.Cursor.{is_ahead}
use Rattle.svr_long.specs.CursorLaws.{paged_bytes}
use Rattle.svr_long.proofs.Ends.{ahead-done, ahead-less}
use Rattle.svr_long.proofs.buffer.pairs_ahead.Goals as goal

pub loop-end-preserved : goal.loop-end-preserved
loop-end-preserved c =
    let some : 0 < c.loop-end.end = omega (arith, c.loop-end-test.true) in
    let last : slice_get (pairs_of c.args.bytes.now) (c.loop-end.end - 1) ≡ Some c.pair_at.result = c.pair_at.ensures in
    let not : is_ahead c.args.pages.now c.pair_at.result ≡ false = search rules in
    record {
      within = omega (arith, c.loop-end.invariant.within);
      ahead = ahead-less c.args.pages.now (pairs_of c.args.bytes.now) c.loop-end.end c.pair_at.result some last not c.loop-end.invariant.ahead;
    }

pub returns-else-not-is_ahead-clause-ahead : goal.returns-else-not-is_ahead-clause-ahead
returns-else-not-is_ahead-clause-ahead c =
    let some : 0 < c.loop-end.end = omega (arith, c.loop-end-test.true) in
    let last : slice_get (pairs_of c.args.bytes.now) (c.loop-end.end - 1) ≡ Some c.pair_at.result = c.pair_at.ensures in
    let is : is_ahead c.args.pages.now c.pair_at.result ≡ true = search rules in
    ahead-done c.args.pages.now (pairs_of c.args.bytes.now) c.loop-end.end c.pair_at.result (paged_bytes c.args.bytes.now) some last is
    c.loop-end.invariant.ahead
