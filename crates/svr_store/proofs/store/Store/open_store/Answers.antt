use Rattle.std.proofs.Common.{ℕ, List, ap, subst}
use Rattle.svr_edge.specs.Disk.{IsTornImage, Reads}
use Rattle.svr_edge.proofs.DiskLemmas.{Leaves-more}
use Rattle.svr_journal.specs.File.{StandsFor}
use Rattle.svr_journal.specs.Opening.{opened_bytes}
use Rattle.std.specs.Option.{option_map}
use Rattle.svr_core.specs.State.{settled}
use Rattle.svr_core.proofs.Standing.{pages-settled}
use Rattle.svr_store.proofs.Opened.{found_bodies, keeps, stand_for}
use Rattle.svr_store.proofs.store.Store.open_store.Goals as goal

pub returns-clause-ok : goal.returns-clause-ok
returns-clause-ok g c =
    let mid = g.D.Disk.view c.open_journal.new.disk in
    let new = g.D.Disk.view c.replay.new.disk in
    let there = c.in_ok-core.ensures.ok in
    let end = c.replay.new.journal.end in
    record {
      state = record { served = settled there.served; bodies = there.bodies };
      gives = ap (option_map settled) there.gives;
      serves = record {
        serves = c.forget_merge.ensures.forgets there.served there.serves;
        pages = pages-settled there.bodies there.served there.pages;
        end = there.at_end;
      };
      stood = λ bytes reads.
          let now : Reads mid (opened_bytes bytes) = c.in_ok-journal.ensures.content bytes reads in
          stand_for (opened_bytes bytes) end (there.closed (opened_bytes bytes) now) there.bodies (c.in_ok-journal.ensures.answer bytes reads)
          (there.gates (opened_bytes bytes) now);
      found = λ bodies stood.
          let bytes = opened_bytes stood.bytes in
          let now : Reads mid bytes = c.in_ok-journal.ensures.content stood.bytes stood.reads in
          let same = found_bodies bytes end (there.closed bytes now) there.bodies bodies stood.stands (there.gates bytes now) in (
            same,
            keeps mid new bytes there.bodies (g.met.D.Disk.laws c.replay.new.disk)
                c.in_ok-journal.ensures.settled c.in_ok-core.ensures.reads.stays now
                (subst (λ (bs : List (List ℕ)). StandsFor bytes bs) same stood.stands),
          );
    }

pub returns-in_default-clause-images : goal.returns-in_default-clause-images
returns-in_default-clause-images g c =
    let old = g.D.Disk.view c.args.disk.now in
    Leaves-more old (g.D.Disk.view c.open_journal.new.disk) (g.D.Disk.view c.replay.new.disk) (IsTornImage old 0 9)
    c.in_ok-journal.ensures.images c.in_ok-core.ensures.reads.stays.images
