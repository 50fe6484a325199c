use Rattle.std.proofs.Common.{ap, ◌∙◌}
use Rattle.svr_listing.specs.Listing.{stands_by}
use Rattle.svr_listing.specs.Merges.{new_pairs, pairs_of}
use Rattle.svr_postpage.specs.Wanted.{pairs_told}
use Rattle.svr_merge.specs.Images.{pairs_by}
use Rattle.svr_merge.proofs.Imaged.{pairs-stand}
use Rattle.svr_lists.proofs.Sliced.{puts}
use Rattle.std.proofs.Common.{refl}
use Rattle.svr_lists.proofs.slice.push_term.Goals as goal

pub returns-clause-adds : goal.returns-clause-adds
returns-clause-adds g c = record {
  pairs = pairs_by c.args.run.now.keys c.deref.result.now;
  may = c.in_ok-made.ensures.ordered;
  comes = c.in_ok-push_pages.ensures.comes;
  fits = c.in_ok-push_pages.ensures.fits;
  puts = puts (pairs_by c.args.run.now.keys c.deref.result.now) (pairs_by c.args.run.now.keys c.deref.result.now) c.args.term.now
      c.deref-2.result.now c.args.terms.now.items c.push_pages.new.terms.items c.args.pages.now.items c.push_pages.new.pages.items
      c.in_ok-made.ensures.ordered (c.deref-2.ensures.value ∙ c.in_ok-made.ensures.bytes) refl
      c.in_ok-push_pages.ensures.terms c.in_ok-push_pages.ensures.pages;
}

pub returns-clause-puts : goal.returns-clause-puts
returns-clause-puts g c x told l m up stood stands =
    puts (new_pairs (stands_by (pairs_told x) l c.args.term.now) l m) (pairs_by c.args.run.now.keys c.deref.result.now) c.args.term.now
    c.deref-2.result.now c.args.terms.now.items c.push_pages.new.terms.items c.args.pages.now.items c.push_pages.new.pages.items
    c.in_ok-made.ensures.ordered (c.deref-2.ensures.value ∙ c.in_ok-made.ensures.bytes)
    (pairs-stand c.args.run.now m stands c.deref.result.now
    ∙ ap (pairs_of m) (c.deref.ensures.value ∙ c.in_ok-ids.ensures.ids x told l up stood))
    c.in_ok-push_pages.ensures.terms c.in_ok-push_pages.ensures.pages
