use Rattle.std.proofs.Common.{◌≡◌, ◌≤◌, ◌^◌, ◌++◌}
use Rattle.std.specs.Option.{ForSome}
use Rattle.svr_listing.specs.Groups.{ids_in}
use Rattle.svr_topk.proofs.Searching.{room}
use Rattle.svr_index.specs.Layout.{pages_below}
use Rattle.svr_index.proofs.EachPage.{HasGiven}
use Rattle.svr_index.proofs.Gathering.{AreGathered}
use Rattle.svr_index.proofs.docs.gather.Given as goal

abbrev pub invariant-groups : goal.invariant-groups
invariant-groups g l = record {
  front : ForSome (g.R.PageReader.told l.fn.reader)
      (λ bytes. l.all.items ++ ids_in (g.P.Postings.groups l.list bytes) ≡ ids_in (g.P.Postings.groups l.fn.list bytes));
  gathered : AreGathered (g.P.Postings.may l.fn.list) (g.P.Postings.next l.list) l.all.items;
  given : HasGiven g.R.PageReader.gives (pages_below (g.P.Postings.pages l.list) (2 ^ 48))
      (pages_below (g.P.Postings.pages l.fn.list) (2 ^ 48)) l.fn.reader l.reader;
  may : g.P.Postings.may l.list ≡ g.P.Postings.may l.fn.list;
  told : g.R.PageReader.told l.reader ≡ g.R.PageReader.told l.fn.reader;
  ready : g.R.PageReader.ready l.reader;
  later : g.R.PageReader.faults l.fn.reader ≤ g.R.PageReader.faults l.reader;
}

abbrev pub decreases-groups : goal.decreases-groups
decreases-groups g l = room (g.P.Postings.next l.list)
