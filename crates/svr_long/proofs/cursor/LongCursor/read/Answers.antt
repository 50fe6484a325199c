use Rattle.svr_long.proofs.Running.{in_order-read}
use Rattle.svr_long.proofs.cursor.LongCursor.read.Goals as goal

pub invariant_of-self-2 : goal.invariant_of-self-2
invariant_of-self-2 g c = record {
  in_order =
      in_order-read (g.R.PageReader.told c.args.reader.now) c.args.self.now.pages.now c.args.self.now.at (record { at = 0; key = 0; id = 0; count = 0 }) c.args.self.now.buffer
      c.read.new.self c.requires.left c.requires.none c.args.self.now.in_order c.in_ok-read.ensures.reads;
}
