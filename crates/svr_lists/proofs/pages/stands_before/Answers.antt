use Rattle.std.proofs.Common.{◌≡◌, ◌-◌, suc, ap, sym, ◌∙◌, arith}
use Rattle.svr_lists.specs.Layout.{all_before}
use Rattle.svr_lists.proofs.Paging.{last-before}
use Rattle.svr_postpage.specs.Pages.{pairs_of}
use Rattle.svr_lists.proofs.pages.stands_before.Goals as goal

pub returns-in-Some : goal.returns-in-Some
returns-in-Some c =
    let one : c.args.count ≡ suc (c.args.count - 1) = omega (arith, c.requires.some) in
    c.is_before.ensures
    ∙ last-before c.args.bytes.now c.args.count (c.args.count - 1) c.pair_at.result c.in-Some.next c.requires.all one c.pair_at.ensures
    ∙ ap (all_before (pairs_of c.args.bytes.now)) (sym c.in-Some.is)
