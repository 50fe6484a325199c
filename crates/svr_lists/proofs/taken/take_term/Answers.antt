use Rattle.std.proofs.Common.{◌∷◌, [], List, ℕ, sym, subst}
use Rattle.svr_merge.proofs.Paged.{BeginInOrder}
use Rattle.svr_lists.specs.Layout.{TakesPages}
use Rattle.svr_lists.specs.Taken.{pages_in}
use Rattle.svr_lists.proofs.Paging.{begin-pages_in, known-pages}
use Rattle.svr_lists.proofs.Taking.{takes-term}
use Rattle.svr_lists.proofs.taken.take_term.Goals as goal

pub sliced-requires-clause-heads : goal.sliced-requires-clause-heads
sliced-requires-clause-heads c =
    let known = known-pages c.in_ok-pages.pages.items (pages_in c.args.at c.args.term.now.pages c.args.bytes.now)
    (c.in_ok-pages.ensures.pages c.args.term.now.pages c.requires.whole) in
    subst BeginInOrder known.2 (begin-pages_in c.args.term.now.pages c.args.at c.args.bytes.now known.0 known.1)

pub returns-clause-takes : goal.returns-clause-takes
returns-clause-takes c =
    let known = known-pages c.in_ok-pages.pages.items (pages_in c.args.at c.args.term.now.pages c.args.bytes.now)
    (c.in_ok-pages.ensures.pages c.args.term.now.pages c.requires.whole) in
    record {
      pages = known.0;
      gives = known.1;
      takes = subst (λ (term : List ℕ). TakesPages c.args.run.now c.sliced.new.self (record { term = term; pages = known.0 } ∷ []))
          c.in_ok-term.ensures
          (takes-term c.args.run.now c.sliced.new.self c.in_ok-term.term known.0 c.in_ok-pages.pages.items
          (record {
            absent = c.in_ok-sliced.ensures.absent;
            last = c.in_ok-sliced.ensures.last;
            pages_put = c.in_ok-sliced.ensures.pages;
            kept = c.in_ok-sliced.ensures.kept;
          }) (sym known.2));
    }
