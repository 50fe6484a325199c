use Rattle.std.proofs.Common.{subst, sym, refl}
use Rattle.svr_pages.specs.Told.{Fails-tells, Gives-same}
use Rattle.svr_store.specs.Finding.{Finds}
use Rattle.svr_store.proofs.Searching.{finds}
use Rattle.svr_store.proofs.Stretched.{stops-same}
use Rattle.svr_store.proofs.finding.find.Goals as goal

pub returns-clause-finds : goal.returns-clause-finds
returns-clause-finds g c =
    subst (Finds c.args.core.now c.args.query.now c.args.reader.now.reach (g.D.Disk.view c.args.reader.now.disk.now)
    (g.D.Disk.view c.search.new.reader.disk.now) c.args.reader.now.pages.now c.search.new.reader.pages.now) (sym c.reply_to.ensures.value)
    (finds g.D.Disk.view (λ r. r.reach) (λ r. r.disk.now) (λ r. r.pages.now) _ _
    (λ old want new given. (given.0, given.1)) (λ old want why new failed. (failed.0, failed.1)) _
    (λ old want new given. Gives-same g.D.Disk.view old.reach want old.disk.now new.disk.now old.pages.now new.pages.now new.reach given.0 given.1)
    (λ old want why new failed. Fails-tells g.D.Disk.view old.reach want old.disk.now new.disk.now old.pages.now new.pages.now why failed.0)
    c.args.core.now c.args.query.now c.args.reader.now c.search.new.reader c.search.result c.search.ensures.asks refl c.requires.ready c.requires.set
    c.search.ensures.answer c.search.ensures.reader.failed)

pub returns-clause-reach : goal.returns-clause-reach
returns-clause-reach g c =
    let asks = c.search.ensures.asks in
    stops-same _ _ (λ r. r.reach) (λ old want new given. given.1) (λ old want why new failed. failed.1)
    asks.given asks.left c.args.reader.now asks.between c.search.new.reader c.search.result asks.in_turn asks.stops

pub returns-clause-pages : goal.returns-clause-pages
returns-clause-pages g c =
    let asks = c.search.ensures.asks in
    stops-same _ _ (λ r. r.pages.ghost_name) (λ old want new given. given.2) (λ old want why new failed. failed.2)
    asks.given asks.left c.args.reader.now asks.between c.search.new.reader c.search.result asks.in_turn asks.stops

pub returns-clause-disk : goal.returns-clause-disk
returns-clause-disk g c =
    let asks = c.search.ensures.asks in
    stops-same _ _ (λ r. r.disk.ghost_name) (λ old want new given. given.3) (λ old want why new failed. failed.3)
    asks.given asks.left c.args.reader.now asks.between c.search.new.reader c.search.result asks.in_turn asks.stops
