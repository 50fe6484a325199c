use Rattle.std.proofs.Common.{◌≡◌, ◌∙◌, None, Some, ap, subst, sym}
use Rattle.svr_pages.specs.Cached.{MayKeep, cached_at}
use Rattle.svr_pages.specs.Layout.{AreKnown, seen}
use Rattle.svr_pages.proofs.Keeping.{known-put, may_keep}
use Rattle.svr_pages.proofs.pages.Pages.keep.Goals as goal

pub invariant_of-self-2 : goal.invariant_of-self-2
invariant_of-self-2 c =
    let known : AreKnown (Some c.in-Some.cache) = subst AreKnown c.in-Some.is c.self.invariant in
    known-put c.args.page.now c.args.bytes.now c.in-Some.cache c.keep_in.new.cache known c.requires.known c.keep_in.ensures

pub returns : goal.returns
returns c =
    let view : seen (Some c.in-Some.cache) ≡ c.args.self.now = ap seen (sym c.in-Some.is) ∙ c.self.view_is in
    let known : AreKnown (Some c.in-Some.cache) = subst AreKnown c.in-Some.is c.self.invariant in
    let new : cached_at c.args.page.now.at (seen (Some c.in-Some.cache)) ≡ None = ap (cached_at c.args.page.now.at) view ∙ c.requires.new in
    subst (λ v. MayKeep c.args.page.now.at c.args.bytes.now v (seen (Some c.keep_in.new.cache))) view
    (may_keep c.args.page.now c.args.bytes.now c.in-Some.cache c.keep_in.new.cache new known.1 c.keep_in.ensures)
