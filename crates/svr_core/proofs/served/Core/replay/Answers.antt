use Rattle.std.proofs.Common.{◌≡◌, ◌+◌, ℕ, length, Err, sym, ap, ◌∙◌, subst, arith, rules}
use Rattle.svr_journal.specs.declared.faults.JournalError.TheVariants as error
use Rattle.svr_journal.specs.File.{end_of}
use Rattle.svr_journal.specs.Place.{Place}
use Rattle.svr_core.specs.Replay.{IsAtFault}
use Rattle.svr_core.specs.Steps.{RefusesBody, TakesBody}
use Rattle.svr_core.proofs.SoFar.{IsAhead-none, IsRead-more, IsRead-none, SoFar-more, SoFar-none, fault_at_next, fault_at_record}
use Rattle.svr_core.proofs.served.Core.replay.Goals as goal

pub loop-ahead-init : goal.loop-ahead-init
loop-ahead-init g c =
    let disk = g.D.Disk.view c.args.disk.now in
    record {
      so_far = SoFar-none disk c.empty-core.result c.args.journal.now c.empty-core.ensures c.requires;
      read = IsRead-none disk;
      ahead = IsAhead-none c.new-ahead.result disk c.new-ahead.ensures;
    }

pub loop-ahead-preserved : goal.loop-ahead-preserved
loop-ahead-preserved g c =
    let disk = g.D.Disk.view c.args.disk.now in
    let mid = g.D.Disk.view c.loop-ahead.disk in
    let inv = c.loop-ahead.invariant in
    let old = c.loop-ahead.journal in
    let body = c.next.new.ahead.body in
    let place : c.in-Some.address ≡ old.end + 5 = search rules in
    let moved : c.next.new.self ≡ record { end = c.in-Some.address + length body; size = old.size } = search rules in
    let here : c.end.result ≡ end_of inv.so_far.bodies + 5 + length c.body.result.now =
    omega (arith, c.end.ensures, ap (λ (p : Place). p.end) moved, place, inv.so_far.at_end, ap length c.body.ensures) in
    record {
      so_far = SoFar-more disk mid c.loop-ahead.core old inv.so_far inv.read c.in_ok-address.field-0 c.in-Some.address
          c.in-Some.is body c.in_ok-address.ensures.answer c.take_at.new.self c.next.new.self
          (subst (TakesBody inv.so_far.bodies inv.so_far.served c.take_at.new.self) c.body.ensures
          (c.in_ok-take_at.ensures.ok inv.so_far.bodies inv.so_far.served here inv.so_far.serves))
          (moved ∙ ap (λ (n : ℕ). record { end = n + length body; size = old.size }) place);
      read = IsRead-more disk mid (g.D.Disk.view c.next.new.disk) c.next.result inv.read c.next.ensures.reads;
      ahead = c.next.ensures.ahead;
    }

pub returns-in_err-address-clause-fault : goal.returns-in_err-address-clause-fault
returns-in_err-address-clause-fault g c = λ at bytes e reads.
    let inv = c.loop-ahead.invariant in
    let failed : c.next.result ≡ Err (error.NotAJournal at) = search (rules, e) in
    fault_at_next (g.D.Disk.view c.args.disk.now) (g.D.Disk.view c.loop-ahead.disk) c.loop-ahead.core c.loop-ahead.journal inv.so_far inv.read
    c.next.result c.next.new.ahead.body c.next.ensures.answer at bytes failed reads

pub returns-in_err-take_at-clause-fault : goal.returns-in_err-take_at-clause-fault
returns-in_err-take_at-clause-fault g c = λ at bytes e reads.
    let inv = c.loop-ahead.invariant in
    let old = c.loop-ahead.journal in
    let place : c.in-Some.address ≡ old.end + 5 = search rules in
    let failed : c.take_at.result ≡ Err (error.NotAJournal at) = search (rules, e) in
    let moved : c.next.new.self ≡ record { end = c.in-Some.address + length c.next.new.ahead.body; size = old.size } = search rules in
    let here : c.end.result ≡ end_of inv.so_far.bodies + 5 + length c.body.result.now =
    omega (arith, c.end.ensures, ap (λ (p : Place). p.end) moved, place, inv.so_far.at_end, ap length c.body.ensures) in
    let told = c.take_at.ensures.fault inv.so_far.bodies inv.so_far.served at here inv.so_far.serves failed in
    let at_gate : at ≡ old.end = omega (arith, told.0, place) in
    subst (IsAtFault bytes) (sym at_gate)
    (fault_at_record (g.D.Disk.view c.args.disk.now) (g.D.Disk.view c.loop-ahead.disk) c.loop-ahead.core old inv.so_far inv.read
    c.in_ok-address.field-0 c.in-Some.address c.in-Some.is c.next.new.ahead.body c.in_ok-address.ensures.answer bytes reads
    (subst (RefusesBody inv.so_far.bodies inv.so_far.served) c.body.ensures told.1))
