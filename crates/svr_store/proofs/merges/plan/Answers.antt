use Rattle.std.proofs.Common.{refl}
use Rattle.svr_pages.specs.Told.{Fails-tells, Gives-same}
use Rattle.svr_store.proofs.Planning.{plans_next}
use Rattle.svr_store.proofs.Stretched.{stops-same}
use Rattle.svr_store.proofs.merges.plan.Goals as goal

pub returns-clause-plans : goal.returns-clause-plans
returns-clause-plans g c =
    plans_next g.D.Disk.view (λ r. r.reach) (λ r. r.disk.now) (λ r. r.pages.now) _ _
    (λ old want new given. (given.0, given.1)) (λ old want why new failed. (failed.0, failed.1)) _
    (λ old want new given. Gives-same g.D.Disk.view old.reach want old.disk.now new.disk.now old.pages.now new.pages.now new.reach given.0 given.1)
    (λ old want why new failed. Fails-tells g.D.Disk.view old.reach want old.disk.now new.disk.now old.pages.now new.pages.now why failed.0)
    c.args.core.now c.requires.begun c.args.most c.args.reader.now c.slice_entry.new.reader c.slice_entry.result c.slice_entry.ensures.asks refl
    c.requires.ready c.slice_entry.ensures.entry c.slice_entry.ensures.reader.failed

pub returns-clause-reach : goal.returns-clause-reach
returns-clause-reach g c =
    let asks = c.slice_entry.ensures.asks in
    stops-same _ _ (λ r. r.reach) (λ old want new given. given.1) (λ old want why new failed. failed.1)
    asks.given asks.left c.args.reader.now asks.between c.slice_entry.new.reader c.slice_entry.result asks.in_turn asks.stops

pub returns-clause-pages : goal.returns-clause-pages
returns-clause-pages g c =
    let asks = c.slice_entry.ensures.asks in
    stops-same _ _ (λ r. r.pages.ghost_name) (λ old want new given. given.2) (λ old want why new failed. failed.2)
    asks.given asks.left c.args.reader.now asks.between c.slice_entry.new.reader c.slice_entry.result asks.in_turn asks.stops

pub returns-clause-disk : goal.returns-clause-disk
returns-clause-disk g c =
    let asks = c.slice_entry.ensures.asks in
    stops-same _ _ (λ r. r.disk.ghost_name) (λ old want new given. given.3) (λ old want why new failed. failed.3)
    asks.given asks.left c.args.reader.now asks.between c.slice_entry.new.reader c.slice_entry.result asks.in_turn asks.stops
