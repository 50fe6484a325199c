use Rattle.std.proofs.Common.{◌+◌, ◌++◌, ◌∷◌, [], ap, arith}
use Rattle.std.proofs.lemmas.Result.{on_ok_weaker}
use Rattle.svr_edge.specs.Disk.{IsSettled, Writes}
use Rattle.svr_journal.specs.Keeping.{IsSafe}
use Rattle.svr_journal.proofs.Answered.{on_both}
use Rattle.svr_journal.proofs.Appended.{leaves_opened, safe_more, stored_more}
use Rattle.svr_journal.proofs.Below.{below-written}
use Rattle.svr_journal.proofs.journal.open_gate.Goals as goal

pub returns-clause-torn : goal.returns-clause-torn
returns-clause-torn g c = λ bodies body staged. leaves_opened _ _ bodies body c.args.end staged c.write_synced.ensures.images

pub returns-clause-stored : goal.returns-clause-stored
returns-clause-stored g c = λ bodies body staged size.
    let end = c.args.end in
    on_ok_weaker c.write_synced.result
    (λ wrote. stored_more _ _ bodies body end staged wrote (end + 5 + c.args.count) (ap (λ n. end + 5 + n) size))
    c.write_synced.ensures.ok

pub returns-clause-safe : goal.returns-clause-safe
returns-clause-safe g c = λ bodies body staged.
    let old = g.D.Disk.view c.args.disk.now in
    let new = g.D.Disk.view c.write_synced.new.disk in
    on_both (Writes old new c.args.end (1 ∷ [])) (IsSettled new) (IsSafe new (bodies ++ body ∷ [])) c.write_synced.result
    (safe_more old new bodies body c.args.end staged) c.write_synced.ensures.ok c.write_synced.ensures.settled

pub returns-clause-below : goal.returns-clause-below
returns-clause-below g c =
    on_ok_weaker c.write_synced.result
    (λ wrote. below-written c.args.end c.args.end _ _ _ (g.met.D.Disk.laws c.args.disk.now) (omega (arith, c.requires.inside)) (omega arith) wrote)
    c.write_synced.ensures.ok
