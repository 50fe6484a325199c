use Rattle.std.proofs.Common.{◌+◌, arith}
use Rattle.std.proofs.lemmas.Result.{on_ok_weaker}
use Rattle.svr_edge.specs.Disk.{IsSettled, Writes}
use Rattle.svr_journal.specs.Keeping.{framed}
use Rattle.svr_journal.specs.Staging.{IsStaged}
use Rattle.svr_journal.proofs.Answered.{on_both}
use Rattle.svr_journal.proofs.Appended.{is_staged, leaves_front}
use Rattle.svr_journal.proofs.Below.{below-written}
use Rattle.svr_journal.proofs.journal.stage.Goals as goal

pub returns-clause-kept : goal.returns-clause-kept
returns-clause-kept g c = λ bodies at_end safe.
    leaves_front _ _ bodies c.args.frame.now c.bytes.ensures.body c.args.end _ at_end safe c.write_synced.ensures.images

pub returns-clause-staged : goal.returns-clause-staged
returns-clause-staged g c = λ bodies stored.
    let old = g.D.Disk.view c.args.disk.now in
    let new = g.D.Disk.view c.write_synced.new.disk in
    on_both (Writes old new (c.args.end + 1) (framed c.args.frame.now)) (IsSettled new)
    (IsStaged new c.args.end bodies c.args.frame.now) c.write_synced.result
    (is_staged old new bodies c.args.frame.now c.bytes.ensures.body c.args.end stored)
    (rw c.bytes.ensures.bytes at c.write_synced.ensures.ok) c.write_synced.ensures.settled

pub returns-clause-below : goal.returns-clause-below
returns-clause-below g c =
    on_ok_weaker c.write_synced.result
    (λ wrote. below-written c.args.end (c.args.end + 1) _ _ _ (g.met.D.Disk.laws c.args.disk.now) (omega (arith, c.requires.inside)) (omega arith) wrote)
    c.write_synced.ensures.ok
