use Rattle.std.proofs.Common.{rules, ◌≡◌, ◌<◌, length, true, sym, ap, subst, arith, List, length-drop}
use Rattle.svr_postpage.specs.declared.pair.Pair.{Pair}
use Rattle.svr_postpage.specs.Pairs.{fill_a_page}
use Rattle.svr_merge.specs.Images.{MayFillPages}
use Rattle.svr_merge.proofs.Paged.{all-written, fill-first, may-rest, written}
use Rattle.svr_merge.proofs.pages.write_pages.Goals as goal

pub push_page-requires : goal.push_page-requires
push_page-requires c =
    let some : 0 < length c.loop-rest.rest.now = search rules in
    subst (λ (ps : List Pair). fill_a_page ps ≡ true) (sym c.first_page.ensures.page)
    (fill-first c.loop-rest.rest.now some c.loop-rest.invariant.0)

pub loop-rest-smaller : goal.loop-rest-smaller
loop-rest-smaller c =
    let some : 0 < length c.loop-rest.rest.now = search rules in
    omega (arith, ap length c.first_page.ensures.rest, length-drop 255 c.loop-rest.rest.now, some)

pub loop-rest-preserved : goal.loop-rest-preserved
loop-rest-preserved c =
    let some : 0 < length c.loop-rest.rest.now = search rules in (
      subst MayFillPages (sym c.first_page.ensures.rest) (may-rest 255 c.loop-rest.rest.now c.loop-rest.invariant.0),
      written c.loop-rest.bytes.items c.push_page.new.bytes.items _ c.loop-rest.rest.now c.first_page.result.0.now c.first_page.result.1.now
          some c.in_ok-push_page.ensures c.first_page.ensures.page c.first_page.ensures.rest c.loop-rest.invariant.1,
    )

pub returns : goal.returns
returns c =
    let none : length c.loop-rest.rest.now ≡ 0 = search rules in
    all-written c.loop-rest.bytes.items _ c.loop-rest.rest.now none c.loop-rest.invariant.1
