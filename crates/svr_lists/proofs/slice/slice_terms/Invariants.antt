use Rattle.std.proofs.Common.{◌≡◌, ◌≤◌, ◌-◌, ℕ, List, option_map, Bor}
use Rattle.std.specs.Option.{ForSome}
use Rattle.svr_lists.specs.Layout.{SlicesOn}
use Rattle.svr_postpage.specs.Reading.{InTurn}
use Rattle.svr_lists.proofs.Asked.{asked_pages}
use Rattle.svr_lists.proofs.Making.{IsMadeSoFar}
use Rattle.svr_lists.proofs.slice.slice_terms.Given as goal

abbrev pub invariant-loop-taken : goal.invariant-loop-taken
invariant-loop-taken g l = record {
  slices : ForSome (g.R.PageReader.told l.fn.reader)
      (λ bytes. SlicesOn l.index l.run l.most (l.most - l.taken) bytes (option_map (λ (t : Bor (List ℕ)). t.now) l.after) l.terms.items
      l.pages.items);
  made : IsMadeSoFar l.run.last (option_map (λ (t : Bor (List ℕ)). t.now) l.after) l.taken l.terms.items l.pages.items;
  given : InTurn g.R.PageReader.gives (asked_pages l.index l.terms.items) l.fn.reader l.reader;
  told : g.R.PageReader.told l.reader ≡ g.R.PageReader.told l.fn.reader;
  ready : g.R.PageReader.ready l.reader;
  later : g.R.PageReader.faults l.fn.reader ≤ g.R.PageReader.faults l.reader;
}
