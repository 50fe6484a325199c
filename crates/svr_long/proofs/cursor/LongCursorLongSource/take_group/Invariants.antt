use Rattle.std.proofs.Common.{◌≡◌, ◌≤◌, ◌+◌, ◌*◌, drop, length}
use Rattle.svr_long.proofs.Running.{Run}
use Rattle.svr_long.proofs.cursor.LongCursorLongSource.take_group.Given as goal

abbrev pub invariant-loop-self : goal.invariant-loop-self
invariant-loop-self g l = record {
  run : Run g.R.PageReader.gives (g.R.PageReader.told l.fn.reader) l.key l.fn.self.buffer (drop l.fn.self.at l.fn.self.pages.now) l.fn.reader
      l.self.buffer (drop l.self.at l.self.pages.now) l.ids.items l.reader;
  told : g.R.PageReader.told l.reader ≡ g.R.PageReader.told l.fn.reader;
  ready : g.R.PageReader.ready l.reader;
  later : g.R.PageReader.faults l.fn.reader ≤ g.R.PageReader.faults l.reader;
}

abbrev pub decreases-loop-self : goal.decreases-loop-self
decreases-loop-self g l = 256 * length (drop l.self.at l.self.pages.now) + length l.self.buffer
