use Rattle.std.proofs.Common.{◌≡◌, ◌+◌, ◌-◌, ◌++◌, [], ◌∷◌, length, take, drop, None, Some, sym, subst, rules}
use Rattle.std.proofs.lemmas.Result.{err_from_is_err_and}
use Rattle.svr_postpage.specs.Pages.{page_in}
use Rattle.svr_lists.specs.Layout.{ref_before}
use Rattle.svr_lists.proofs.Paging.{AreReadBehind, read-bad, read-more, read-none, split-last}
use Rattle.svr_lists.proofs.pages.read_pages.Goals as goal

pub loop-front-init : goal.loop-front-init
loop-front-init c =
    subst (AreReadBehind c.args.at c.args.bytes.now c.args.bytes.now None) (sym c.new-pages.ensures.items) (read-none c.args.at c.args.bytes.now)

pub returns-in_err-page-clause-bad : goal.returns-in_err-page-clause-bad
returns-in_err-page-clause-bad c count whole bad =
    let first : c.in-Some.front.now ≡ take (length c.loop-front.rest.now - 4096) c.loop-front.rest.now = search rules in
    let last : c.in-Some.page.now ≡ drop (length c.loop-front.rest.now - 4096) c.loop-front.rest.now = search rules in
    let long : length c.in-Some.front.now + 4096 ≡ length c.loop-front.rest.now = search rules in
    let parts = split-last c.loop-front.rest.now c.in-Some.front.now c.in-Some.page.now first last long in
    let p = err_from_is_err_and c.from_residual.result c.from_residual.ensures.1 in
    let read : ref_before (c.args.at + length c.in-Some.front.now) c.loop-front.next (page_in c.in-Some.page.now) ≡ None = search rules in
    read-bad c.args.at count c.args.bytes.now c.loop-front.rest.now c.in-Some.front.now c.in-Some.page.now c.loop-front.next
    c.loop-front.pages.items c.loop-front.invariant parts.0 parts.1 whole read

pub loop-front-preserved : goal.loop-front-preserved
loop-front-preserved c =
    let first : c.in-Some.front.now ≡ take (length c.loop-front.rest.now - 4096) c.loop-front.rest.now = search rules in
    let last : c.in-Some.page.now ≡ drop (length c.loop-front.rest.now - 4096) c.loop-front.rest.now = search rules in
    let long : length c.in-Some.front.now + 4096 ≡ length c.loop-front.rest.now = search rules in
    let parts = split-last c.loop-front.rest.now c.in-Some.front.now c.in-Some.page.now first last long in
    let read : ref_before (c.args.at + length c.in-Some.front.now) c.loop-front.next (page_in c.in-Some.page.now) ≡ Some c.in_ok-page.page =
    search rules in
    let pushed : c.push.new.self.items ≡ c.loop-front.pages.items ++ (c.in_ok-page.page ∷ []) = search rules in
    subst (AreReadBehind c.args.at c.args.bytes.now c.in-Some.front.now
    (Some (record { key = c.in_ok-page.page.key; id = c.in_ok-page.page.id }))) (sym pushed)
    (read-more c.args.at c.args.bytes.now c.loop-front.rest.now c.in-Some.front.now c.in-Some.page.now c.loop-front.next
    c.loop-front.pages.items c.in_ok-page.page c.loop-front.invariant parts.0 parts.1 read)
