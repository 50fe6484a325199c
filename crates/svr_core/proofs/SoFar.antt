-- The records of a journal that were read so far.
use Rattle.std.proofs.Common.{◌≡◌, ◌≤◌, ◌<◌, ◌+◌, ℕ, List, [], ◌∷◌, ◌++◌, length, drop, Option, Some, Result, Ok, Err}
use Rattle.std.proofs.Common.{refl, sym, ap, ◌∙◌, subst, arith}
use Rattle.svr_edge.specs.Disk.{DiskView, Reads, Stays}
use Rattle.svr_edge.proofs.DiskLemmas.{Leaves-refl, Stays-trans}
use Rattle.svr_journal.specs.Ahead.{Ahead, IsAhead}
use Rattle.svr_journal.specs.Causes.{ReadsAlone}
use Rattle.svr_journal.specs.File.{end_of}
use Rattle.svr_journal.specs.Gates.{NextAnswers, broken, gate_of, record_of}
use Rattle.svr_journal.specs.Place.{Place}
use Rattle.svr_journal.specs.declared.faults.JournalError.{JournalError}
use Rattle.svr_journal.specs.declared.faults.JournalError.TheVariants as error
use Rattle.svr_core.specs.Pages.{HavePages}
use Rattle.svr_core.specs.Replay.{HasGates, IsAtFault, IsRefusedAt, replayed}
use Rattle.svr_core.specs.Kept.{CoreValue, ServesAs}
use Rattle.svr_core.specs.State.{Served, empty}
use Rattle.svr_core.specs.Steps.{RefusesBody, TakesBody}
use Rattle.svr_core.proofs.Replayed.{HasGates-more, after_body-numbered, end_of-more, next_record, replayed-more, replayed-none}
use Rattle.svr_core.proofs.Standing.{pages-none}

-- the disk is as it was, and no count has fallen
pub record IsRead (old new : DiskView) : Type 0 where
  pub stays : Stays old new
  pub later : old.read_faults ≤ new.read_faults
  pub writes : new.write_faults ≡ old.write_faults

-- nothing was read ahead
pub IsAhead-none : (a : Ahead) (disk : DiskView) → a ≡ record { at = 0; bytes = []; body = [] } → IsAhead a disk
IsAhead-none a disk is = λ bytes reads. rw is refl

pub IsRead-none : (disk : DiskView) → IsRead disk disk
IsRead-none disk = record {
  stays = record { size = refl; content = refl; images = Leaves-refl disk (λ _. ⊥) };
  later = omega arith;
  writes = refl;
}

-- a step more
pub IsRead-more : {T : Type 0} (old mid new : DiskView) (result : Result T JournalError) → IsRead old mid → ReadsAlone mid new result
    → IsRead old new
IsRead-more old mid new result first second = record {
  stays = Stays-trans old mid new first.stays second.stays;
  later = omega (arith, first.later, second.later);
  writes = second.writes ∙ first.writes;
}

-- the records up to the place of the journal are accepted, and give what is served by the core
pub record SoFar (disk : DiskView) (core : CoreValue) (journal : Place) : Type 0 where
  pub bodies : List (List ℕ)
  pub served : Served
  pub gives : replayed [] empty bodies ≡ Some served
  pub serves : ServesAs core served
  pub pages : HavePages bodies served.listed
  pub at_end : journal.end ≡ end_of bodies
  pub gates : (bytes : List ℕ) → Reads disk bytes → HasGates bytes 8 bodies journal.end
  pub numbers : core.changes < journal.end
  pub size : journal.size ≡ disk.size

pub SoFar-none : (disk : DiskView) (core : CoreValue) (journal : Place) → ServesAs core empty
    → journal ≡ record { end = 8; size = disk.size } → SoFar disk core journal
SoFar-none disk core journal serves is = rw is (record {
  bodies = [];
  served = empty;
  gives = replayed-none [] empty;
  serves = serves;
  pages = pages-none;
  at_end = refl;
  gates = λ bytes reads. refl;
  numbers = omega (arith, serves.changes);
  size = refl;
})

module _ (disk mid : DiskView) (core : CoreValue) (old : Place) (so_far : SoFar disk core old) (read : IsRead disk mid) where
  module _ (found : Option ℕ) (address : ℕ) (is_some : found ≡ Some address) (body : List ℕ)
      (answer : (bytes : List ℕ) → Reads mid bytes → NextAnswers (gate_of (drop old.end bytes)) old.end (Ok found) body) where
    there : (bytes : List ℕ) → Reads disk bytes → gate_of (drop old.end bytes) ≡ record_of body
    there bytes reads =
        next_record (gate_of (drop old.end bytes)) old.end address body
        (subst (λ (f : Option ℕ). NextAnswers (gate_of (drop old.end bytes)) old.end (Ok f) body) is_some
        (answer bytes (read.stays.content ∙ reads)))

    pub SoFar-more : (next : CoreValue) (new : Place) → TakesBody so_far.bodies so_far.served next body
        → new ≡ record { end = old.end + 5 + length body; size = old.size } → SoFar disk next new
    SoFar-more next new taken is = rw is (record {
      bodies = so_far.bodies ++ body ∷ [];
      served = taken.next;
      gives = replayed-more [] empty so_far.bodies body so_far.served so_far.gives ∙ taken.gives;
      serves = taken.serves;
      pages = taken.pages so_far.pages;
      at_end = ap (λ n. n + 5 + length body) so_far.at_end ∙ sym (end_of-more so_far.bodies body);
      gates = λ bytes reads. HasGates-more bytes 8 so_far.bodies body old.end (so_far.gates bytes reads) (there bytes reads);
      numbers = omega (
        arith,
        after_body-numbered so_far.bodies so_far.served taken.next body taken.gives,
        so_far.numbers,
        so_far.serves.changes,
        taken.serves.changes,
      );
      size = so_far.size;
    })

    -- a record that isn't accepted
    pub fault_at_record : (bytes : List ℕ) → Reads disk bytes → RefusesBody so_far.bodies so_far.served body → IsAtFault bytes old.end
    fault_at_record bytes reads none = record {
      bodies = so_far.bodies;
      served = so_far.served;
      gates = so_far.gates bytes reads;
      gives = so_far.gives;
      refused = subst (IsRefusedAt so_far.bodies so_far.served) (sym (there bytes reads)) none;
    }

  -- a gate without a whole record behind it
  fault_at_gate : (bytes : List ℕ) → Reads disk bytes → gate_of (drop old.end bytes) ≡ broken → IsAtFault bytes old.end
  fault_at_gate bytes reads is = record {
    bodies = so_far.bodies;
    served = so_far.served;
    gates = so_far.gates bytes reads;
    gives = so_far.gives;
    refused = subst (IsRefusedAt so_far.bodies so_far.served) (sym is) tt;
  }

  -- the step to the next record tells that
  pub fault_at_next : (result : Result (Option ℕ) JournalError) (body : List ℕ)
      → ((bytes : List ℕ) → Reads mid bytes → NextAnswers (gate_of (drop old.end bytes)) old.end result body)
      → (at : ℕ) (bytes : List ℕ) → result ≡ Err (error.NotAJournal at) → Reads disk bytes → IsAtFault bytes at
  fault_at_next result body answer at bytes e reads =
      let told = subst (λ r. NextAnswers (gate_of (drop old.end bytes)) old.end r body) e (answer bytes (read.stays.content ∙ reads)) in
      subst (IsAtFault bytes) (sym told.1) (fault_at_gate bytes reads told.0)
