use Rattle.std.proofs.Common.{◌≡◌, ◌≤◌}
use Rattle.svr_match.specs.Joined.{any_of}
use Rattle.svr_match.proofs.Turning.{Run}
use Rattle.svr_match.proofs.joined.take_each.Given as goal

abbrev pub invariant-loop-list : goal.invariant-loop-list
invariant-loop-list g l = record {
  run : Run g.P.Postings.groups g.P.Postings.next g.P.Postings.may g.P.Postings.pages
      (g.R.PageReader.told l.fn.reader) g.R.PageReader.gives
      l.key l.list-index l.fn.lists.items l.list-items l.fn.reader l.reader (λ all. l.ids.items ≡ any_of all);
  told : g.R.PageReader.told l.reader ≡ g.R.PageReader.told l.fn.reader;
  ready : g.R.PageReader.ready l.reader;
  later : g.R.PageReader.faults l.fn.reader ≤ g.R.PageReader.faults l.reader;
}
