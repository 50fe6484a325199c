use Rattle.std.proofs.Common.{◌∙◌, ap}
use Rattle.svr_journal.specs.Ahead.{Ahead}
use Rattle.svr_journal.proofs.AheadLemmas.{piece_stands}
use Rattle.svr_journal.proofs.ahead.ReadAhead.find_body.Goals as goal

pub returns-clause-body : goal.returns-clause-body
returns-clause-body g c = λ bytes reads.
    ap (λ (a : Ahead). a.body) c.note_body.ensures
    ∙ piece_stands c.cover.new.self (g.D.Disk.view c.cover.new.disk) bytes c.args.at c.args.count c.cover.ensures.ahead
    (c.in_ok-cover.ensures.reads.stays.content ∙ reads) c.in_ok-cover.ensures.covers
