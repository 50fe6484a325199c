use Rattle.svr_iter.proofs.MemRun.{first-key, pairs-left, takes_run}
use Rattle.svr_iter.proofs.mem_long.MemLongLongSource.take_group.Goals as goal

pub take_run-requires-clause-key : goal.take_run-requires-clause-key
take_run-requires-clause-key g c = let m = c.args.self.now in first-key m.pairs.now m.at _ (pairs-left m.pairs.now m.at c.requires.some)

pub returns-in-Ok-clause-takes : goal.returns-in-Ok-clause-takes
returns-in-Ok-clause-takes g c =
    let m = c.args.self.now in
    let t = takes_run (g.R.PageReader.told c.args._reader.now) m.pairs.now m.at c.in-Ok.end _ c.take_run.new.ids.items m.in_range
    m.in_order c.in-Ok.ensures.run in
    record { first = t.first; lawful = t.lawful; next_less = t.next_less; same_may = t.same_may; same_pages = t.same_pages }
