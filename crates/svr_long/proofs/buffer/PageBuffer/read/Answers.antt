use Rattle.svr_long.proofs.Running.{reads_page}
use Rattle.svr_long.proofs.buffer.PageBuffer.read.Goals as goal

pub returns-in-Ok-clause-reads : goal.returns-in-Ok-clause-reads
returns-in-Ok-clause-reads g c =
    reads_page (g.R.PageReader.told c.args.reader.now) c.args.page.now c.args.pages.now c.page.new.into c.pairs_ahead-self-inside.result
    c.in-Ok.ensures.page c.in-Ok.ensures.bytes c.pairs_ahead-self-inside.ensures.ahead
