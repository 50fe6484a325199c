use Rattle.std.proofs.Common.{◌≡◌, ℕ, ◌∙◌, Some, ap, subst, sym}
use Rattle.lru.specs.LruCache.{LruCache}
use Rattle.svr_pages.specs.declared.pages.Kept.{Kept}
use Rattle.svr_pages.specs.Cached.{used}
use Rattle.svr_pages.specs.Layout.{AreKnown, seen}
use Rattle.svr_pages.proofs.Finding.{found-seen, known-promoted, known-seen, none_found-seen, used-seen}
use Rattle.svr_pages.proofs.pages.Pages.find.Goals as goal

pub invariant_of-self-2 : goal.invariant_of-self-2
invariant_of-self-2 c =
    let known : AreKnown (Some c.in-Some.cache) = subst AreKnown c.in-Some.is c.self.invariant in
    subst (λ (n : LruCache ℕ Kept). AreKnown (Some n)) (sym c.find_in.ensures.cache)
    (known-promoted c.args.at c.in-Some.cache.entries known.0, known.1)

pub returns-clause-found : goal.returns-clause-found
returns-clause-found c =
    let view : seen (Some c.in-Some.cache) ≡ c.args.self.now = ap seen (sym c.in-Some.is) ∙ c.self.view_is in
    found-seen c.args.at c.in-Some.cache c.find_in.new.into c.find_in.result c.args.self.now view c.find_in.ensures.found

pub returns-clause-known : goal.returns-clause-known
returns-clause-known c =
    let known : AreKnown (Some c.in-Some.cache) = subst AreKnown c.in-Some.is c.self.invariant in
    known-seen c.args.at c.in-Some.cache c.find_in.new.into c.find_in.result known.0 c.find_in.ensures.found

pub returns-clause-none : goal.returns-clause-none
returns-clause-none c = λ none.
    let view : seen (Some c.in-Some.cache) ≡ c.args.self.now = ap seen (sym c.in-Some.is) ∙ c.self.view_is in
    none_found-seen c.args.at c.in-Some.cache c.find_in.new.into c.args.self.now view (c.find_in.ensures.none none)

pub returns-clause-used : goal.returns-clause-used
returns-clause-used c =
    let view : seen (Some c.in-Some.cache) ≡ c.args.self.now = ap seen (sym c.in-Some.is) ∙ c.self.view_is in
    subst (λ v. seen (Some c.find_in.new.cache) ≡ used c.args.at v) view
    (ap (λ (n : LruCache ℕ Kept). seen (Some n)) c.find_in.ensures.cache ∙ used-seen c.args.at c.in-Some.cache)
