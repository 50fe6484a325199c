use Rattle.std.proofs.Common.{◌≡◌, ◌<◌, ◌≤◌, ◌+◌, ◌^◌, ℕ, length, Result, Err, ap, subst, ◌∙◌, arith}
use Rattle.svr_journal.specs.declared.faults.AppendFault.{AppendFault}
use Rattle.svr_request.specs.declared.refusal.Refusal.TheVariants as refusal
use Rattle.svr_request.specs.declared.reply.Reply.TheVariants.{Refused}
use Rattle.svr_store.specs.Merging.{SubmitsUnread}
use Rattle.svr_store.specs.Store.{StoreValue}
use Rattle.svr_pages.proofs.Grown.{ready-grown}
use Rattle.svr_store.proofs.Appended.{made_unread, opened_behind, write_unread}
use Rattle.svr_store.proofs.Kept.{any_moment, fits_unless, keeps}
use Rattle.svr_store.proofs.Silent.{full_unread, memory_unread}
use Rattle.svr_store.proofs.store.Store.commit.Goals as goal

pub returns-in_default-clause-submits : goal.returns-in_default-clause-submits
returns-in_default-clause-submits g c = λ s request serves is.
    memory_unread (g.D.Disk.view c.args.disk.now) (g.met.D.Disk.laws c.args.disk.now) c.args.self.now s request serves

pub returns-in-Ok-append-clause-submits : goal.returns-in-Ok-append-clause-submits
returns-in-Ok-append-clause-submits g c = λ s request serves is.
    let here = rw (← c.self.view_is) at serves in
    let old = g.D.Disk.view c.args.disk.now in
    let new = g.D.Disk.view c.append.new.disk in
    let place = c.self.inside.journal.end in
    let same : c.in-Ok.frame ≡ c.args.entry.body = c.in-Ok.ensures ∙ c.as_slice.ensures in
    let start : StoreValue = record { core = c.self.inside.core; end = c.append.new.self.end; pages = c.self.inside.pages; closed = c.self.inside.closed } in
    let fits : place + 6 + length c.in-Ok.frame ≤ 2 ^ 40 =
    fits_unless (place + 6 + length c.in-Ok.frame) (2 ^ 40)
    (λ more. absurd (cc (c.in-Ok-append.ensures.full.1 more))) in
    made_unread old new s request c.args.entry is (omega (arith, fits, ap length same, here.end)) c.append.ensures.trace
    (any_moment old new s.bodies place here.end c.in-Ok.frame c.args.entry.body same c.append.ensures.any_moment)
    (keeps old new s.bodies place here.end c.in-Ok.frame c.args.entry.body same c.append.new.self.end
    c.in-Ok-append.ensures.stored c.in-Ok-append.ensures.safe)
    start (record { serves = here.serves; pages = here.pages }) (omega (arith, c.in-Ok-append.ensures.end, ap length same, here.end))
    c.args.self.now c.make.new.self (ap (λ (v : StoreValue). v.pages) c.self.view_is) c.make.result c.make.ensures.makes

pub returns-in-Err-Full-clause-submits : goal.returns-in-Err-Full-clause-submits
returns-in-Err-Full-clause-submits g c = λ s request serves is.
    let here = rw (← c.self.view_is) at serves in
    let old = g.D.Disk.view c.args.disk.now in
    let place = c.self.inside.journal.end in
    let same : c.in-Ok.frame ≡ c.args.entry.body = c.in-Ok.ensures ∙ c.as_slice.ensures in
    let why = ap (λ (e : AppendFault). let r : Result ℕ AppendFault = Err e in r) c.in-Err-Full.field-0-is in
    let full : 2 ^ 40 < place + 6 + length c.in-Ok.frame = c.in-Err-Full.ensures.full.0 why in
    let start : StoreValue = record { core = c.self.inside.core; end = place; pages = c.self.inside.pages; closed = c.self.inside.closed } in
    let stays = full_unread old (g.met.D.Disk.laws c.args.disk.now) start s request here c.args.entry is
    (omega (arith, full, ap length same, ap length is.body, here.end)) in
    let over = subst (λ (v : StoreValue). SubmitsUnread old old v start s request (Refused refusal.JournalFull)) c.self.view_is stays in
    rw (c.in-Err-Full.ensures.untouched why, c.in-Err-Full.ensures.err) over

pub returns-clause-submits : goal.returns-clause-submits
returns-clause-submits g c = λ s request serves is.
    let here = rw (← c.self.view_is) at serves in
    let old = g.D.Disk.view c.args.disk.now in
    let new = g.D.Disk.view c.append.new.disk in
    let place = c.self.inside.journal.end in
    let same : c.in-Ok.frame ≡ c.args.entry.body = c.in-Ok.ensures ∙ c.as_slice.ensures in
    let fits : place + 6 + length c.in-Ok.frame ≤ 2 ^ 40 =
    fits_unless (place + 6 + length c.in-Ok.frame) (2 ^ 40)
    (λ more. absurd (cc (c.in-Err-Write.ensures.full.1 more, c.in-Err-Write.field-0-is))) in
    write_unread old new s request c.args.entry is c.args.self.now _ (ap (λ (v : StoreValue). v.pages) c.self.view_is) (g.met.D.Disk.laws c.append.new.disk) (omega (arith, fits, ap length same, here.end)) c.append.ensures.trace
    (any_moment old new s.bodies place here.end c.in-Ok.frame c.args.entry.body same c.append.ensures.any_moment)

pub returns-in-Ok-append-clause-open : goal.returns-in-Ok-append-clause-open
returns-in-Ok-append-clause-open g c = λ going.
    let was = rw (← c.self.view_is) at c.requires.open in
    let place = c.self.inside.journal.end in
    let appended = c.in-Ok-append.ensures in
    opened_behind
    (record { core = c.self.inside.core; end = c.append.new.self.end; pages = c.self.inside.pages; closed = c.self.inside.closed })
    c.make.new.self c.args.entry.edit c.make.result (g.D.Disk.view c.append.new.disk) c.make.ensures.makes going (record {
      unclosed = was.unclosed;
      inside = appended.size;
      ready = ready-grown place c.append.new.self.end (g.D.Disk.view c.args.disk.now) (g.D.Disk.view c.append.new.disk) c.self.inside.pages
          was.ready (omega (arith, appended.end)) (omega (arith, appended.size)) appended.below;
    })
