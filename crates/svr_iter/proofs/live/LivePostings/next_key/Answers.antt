use Rattle.std.proofs.Common.{rules}
use Rattle.svr_iter.specs.LiveLaws.{next-fits}
use Rattle.svr_iter.specs.Marks.{next_add}
use Rattle.svr_iter.proofs.Living.{live_fits}
use Rattle.svr_iter.proofs.live.LivePostings.next_key.Goals as goal

pub returns-clause-within : goal.returns-clause-within
returns-clause-within g c =
    live_fits c.next_key.result
    (next_add c.args.self.now.below (g.S.ShortSource.marks c.args.self.now.short.now c.args.self.now.term.now)) c.greater_key.result
    (search rules) c.next_key.ensures.within
    (next-fits _ _ (g.met.S.ShortSource.lawful c.args.self.now.short.now c.args.self.now.term.now).each)
