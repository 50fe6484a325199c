use Rattle.svr_iter.proofs.Effecting.{live_groups-listing}
use Rattle.svr_iter.proofs.live.Live.new.Goals as goal

pub returns-clause-listing : goal.returns-clause-listing
returns-clause-listing g c = λ l read bytes tells.
    live_groups-listing l c.args.term.now read _ _ _ tells (g.met.S.ShortSource.lawful c.args.short.now c.args.term.now) _
    (g.met.L.LongSource.lawful c.args.long bytes).each
