-- A turn that appends nothing.
use Rattle.std.proofs.Common.{◌≡◌, ◌⊎◌, ◌≤◌, ◌<◌, ◌+◌, ◌^◌, ℕ, false, inl, inr, List, [], ◌∷◌, ◌++◌, length, take, Some, None, refl, sym, ap, ◌∙◌, subst, arith, append-nil}
use Rattle.std.specs.List.{sum_by}
use Rattle.std.specs.Option.{option_map}
use Rattle.std.proofs.Math.Seq.{take-append_seam}
use Rattle.std.proofs.lemmas.Bool.{false≢true}
use Rattle.svr_listing.proofs.ByBytes.{posted-told}
use Rattle.svr_edge.specs.Disk.{DiskView, IsDisk}
use Rattle.svr_journal.specs.File.{StandsForSome, end_of, front}
use Rattle.svr_pages.specs.Cached.{CachedPages}
use Rattle.svr_pages.specs.Stretch.{IsCached, ReadsInTurn}
use Rattle.svr_pages.proofs.Stretching.{reads_none}
use Rattle.svr_record.specs.Bodies.{body_of}
use Rattle.svr_request.specs.declared.refusal.Refusal.{Refusal}
use Rattle.svr_request.specs.declared.refusal.Refusal.TheVariants as refusal
use Rattle.svr_request.specs.declared.reply.Reply.{Reply}
use Rattle.svr_request.specs.declared.reply.Fault.TheVariants as fault
use Rattle.svr_request.specs.declared.reply.Reply.TheVariants.{Faulted, Found, Refused}
use Rattle.svr_request.specs.Requests.{Submitted}
use Rattle.svr_core.specs.declared.plan.Entry.{Entry}
use Rattle.svr_core.specs.Kept.{CoreValue, ServesAs}
use Rattle.svr_core.specs.Merges.{IsKnown}
use Rattle.svr_core.specs.Outcomes.{Outcome, edits, merges, merges_whole, outcome_of, refused, searches}
use Rattle.svr_core.specs.Pages.{HavePages}
use Rattle.svr_topk.specs.declared.search.Answer.{Answer}
use Rattle.svr_core.specs.declared.queries.Query.{Query}
use Rattle.svr_core.specs.Answers.{answer_in}
use Rattle.svr_core.specs.Plans.{IsQuery, MayRefuse}
use Rattle.svr_core.specs.Replay.{replayed}
use Rattle.svr_core.specs.Run.{AreSingle, AreSteps, ComesSingle, Due, IsDue, IsForcedBy, IsForcedPlain, IsSingle, IsTurn, IsTurnBy, IsUnanswered, IsWhole, ReadsNeeded, Turn}
use Rattle.svr_core.specs.Run.{answer_due, asks_for, due_by, due_of, is_in_doubt, needed_by, served_then, step_due}
use Rattle.svr_core.specs.Reads.{IsFound, ReadsBy, ReadsIfSearch}
use Rattle.svr_core.proofs.Apart.{needed-once}
use Rattle.svr_core.proofs.Reading.{reads-unfound}
use Rattle.svr_core.proofs.Runs.{by_single}
use Rattle.svr_core.proofs.Standing.{posted-stand}
use Rattle.svr_core.specs.declared.plan.Step.TheVariants as step
use Rattle.svr_core.specs.State.{Served, State}
use Rattle.svr_store.specs.Caching.{KeepsPages}
use Rattle.svr_store.specs.Finding.{CameTo, Finds, IsToSearch}
use Rattle.svr_store.specs.Store.{Keeps, KeepsState, Serves, StoreValue}
use Rattle.svr_store.specs.Merging.{SubmitsOne, SubmitsUnread}
use Rattle.svr_store.specs.Submitting.{SubmitCauses, Submits, closed_by}
use Rattle.svr_store.specs.Making.{IsDueEntry}
use Rattle.svr_store.proofs.Appended.{due_full, forced_is}
use Rattle.svr_store.proofs.Caching.{keeps-none}
use Rattle.svr_store.proofs.Kept.{keeps_read, leaves_read}

module _ (old new : DiskView) (laws : IsDisk new) (before after : StoreValue) (s : State) (request : Submitted) (serves : Serves after s)
    (reads : List ℕ) (disk : ReadsInTurn reads old new) (pages : KeepsPages reads before.pages after.pages) where
  -- nothing is changed, and nothing is written
  silent_reads : (reply : Reply) → IsTurn (KeepsState old s) s (record { request = request; reply = reply; added = []; reads = reads })
      → (KeepsState old s → ReadsIfSearch (λ at. IsCached at before.pages) before.pages.capacity s
      (record { request = request; reply = reply; added = []; reads = reads }))
      → served_then s (record { request = request; reply = reply; added = []; reads = reads }) reply ≡ s.served → is_in_doubt reply ≡ false
      → (one : SubmitsOne old new before after s request reply) × (one.submits.turn.reads ≡ reads)
  unfolding replayed
  silent_reads reply is search same sure = (
    record {
      submits = record {
        turn = record { request = request; reply = reply; added = []; reads = reads };
        asked = refl;
        told = refl;
        is = is;
        trace = disk.trace;
        caches = record { keeps = pages; search = search };
        spelled = tt;
        serves = λ _. record {
          serves = subst (ServesAs after.core) (sym same) serves.serves;
          pages = subst (λ (v : Served). HavePages (s.bodies ++ []) v.listed) (sym same)
              (subst (λ (bs : List (List ℕ)). HavePages bs s.served.listed) (sym (append-nil s.bodies)) serves.pages);
          end = serves.end ∙ ap end_of (sym (append-nil s.bodies));
        };
        next = s.served;
        replays = refl;
        same = λ _. inr (sym same);
        lawful = λ known. known.lawful;
        any_moment = λ _. leaves_read old new (StandsForSome s.bodies []) disk.stays;
        keeps = λ kept _. subst (λ (bodies : List (List ℕ)). Keeps new bodies) (sym (append-nil s.bodies)) (keeps_read old new laws s.bodies disk.stays kept);
        in_doubt = λ kept doubt. absurd (false≢true (sym sure ∙ doubt));
      };
      exact = λ _. sym same;
      beside = λ n left. record { catalog = refl; changes = refl; listing = refl };
      one = λ doubt. absurd (false≢true (sym sure ∙ doubt));
    },
    refl,
  )

  pub silent_one : (reply : Reply) → IsTurn (KeepsState old s) s (record { request = request; reply = reply; added = []; reads = reads })
      → (KeepsState old s → ReadsIfSearch (λ at. IsCached at before.pages) before.pages.capacity s
      (record { request = request; reply = reply; added = []; reads = reads }))
      → served_then s (record { request = request; reply = reply; added = []; reads = reads }) reply ≡ s.served → is_in_doubt reply ≡ false
      → SubmitsOne old new before after s request reply
  silent_one reply is search same sure = (silent_reads reply is search same sure).0

-- want of memory may come to any request
pub memory_forced : (known : Type 0) (o : Outcome) (due : Due) → IsForcedBy known o (Refused refusal.Memory) due []
memory_forced known (refused why) due = refl
memory_forced known (searches terms m k) due = refl
memory_forced known (edits e entry) due = refl
memory_forced known (merges part) due = refl
memory_forced known merges_whole due = refl

module _ (known : Type 0) (s : State) (request : Submitted) where
  memory_single : (request : Submitted) → IsSingle known s (record { request = request; reply = Refused refusal.Memory; added = []; reads = [] })
  memory_single request = record {
    came = inr (memory_forced known (outcome_of s.served request) (due_of s request));
    reads = λ kept weight. omega arith;
  }

  -- a whole merge may end so at its first step
  memory_whole : IsWhole known s (record { request = request; reply = Refused refusal.Memory; added = []; reads = [] })
  unfolding AreSingle AreSteps
  memory_whole = record {
    steps = [];
    last = record { request = asks_for step.Begin; reply = Refused refusal.Memory; added = []; reads = [] };
    are = (refl, refl);
    run = (memory_single (asks_for step.Begin), tt);
    reply = refl;
    added = refl;
    reads = refl;
  }

  memory_turn : (o : Outcome) → IsTurnBy known s (record { request = request; reply = Refused refusal.Memory; added = []; reads = [] }) o
  memory_turn (refused why) = memory_single request
  memory_turn (searches terms m k) = memory_single request
  memory_turn (edits e entry) = memory_single request
  memory_turn (merges part) = memory_single request
  memory_turn merges_whole = memory_whole

module _ (disk : DiskView) (laws : IsDisk disk) (store : StoreValue) (s : State) (request : Submitted) (serves : Serves store s) where
  abbrev pub quiet : Reply → Turn
  quiet reply = record { request = request; reply = reply; added = []; reads = [] }

  quiet_one : (reply : Reply) → IsTurn (KeepsState disk s) s (quiet reply) → (IsFound reply → ⊥) → served_then s (quiet reply) reply ≡ s.served
      → is_in_doubt reply ≡ false → SubmitsUnread disk disk store store s request reply
  quiet_one reply is unfound same sure =
      let one = silent_reads disk disk laws store store s request serves [] (reads_none disk disk refl) (keeps-none store.pages) reply is
      (λ _. reads-unfound (λ at. IsCached at store.pages) store.pages.capacity s (quiet reply) unfound refl) same sure in
      record { submits = one.0; unread = one.1 }

  -- a turn for which nothing is read, of a request that isn't a whole merge
  pub unread : (reply : Reply) → ComesSingle (outcome_of s.served request)
      → IsDue (due_of s request) reply [] ⊎ IsForcedBy (KeepsState disk s) (outcome_of s.served request) reply (due_of s request) []
      → (IsFound reply → ⊥) → served_then s (quiet reply) reply ≡ s.served → is_in_doubt reply ≡ false
      → SubmitsUnread disk disk store store s request reply
  unread reply single came unfound same sure =
      quiet_one reply (by_single (KeepsState disk s) s (quiet reply) (outcome_of s.served request) single
      (record { came = came; reads = λ kept weight. omega arith })) unfound same sure

  pub memory_unread : SubmitsUnread disk disk store store s request (Refused refusal.Memory)
  memory_unread =
      quiet_one (Refused refusal.Memory) (memory_turn (KeepsState disk s) s request (outcome_of s.served request)) (λ found. found) refl refl

  pub due_submits : (why : Refusal) → ComesSingle (outcome_of s.served request) → due_of s request ≡ answer_due (Refused why)
      → SubmitsOne disk disk store store s request (Refused why)
  due_submits why single due =
      (unread (Refused why) single (inl (ap (λ (d : Due). d.reply) (sym due), ap (λ (d : Due). d.added) (sym due))) (λ found. found) refl refl).submits

  -- a refusal, or want of memory
  pub refused_submits : (why : Refusal) → MayRefuse (outcome_of s.served request) why → SubmitsOne disk disk store store s request (Refused why)
  refused_submits why (inl is) = due_submits why (subst ComesSingle (sym is) tt) (ap (λ (o : Outcome). due_by s o) is)
  refused_submits why (inr is) = subst (λ (w : Refusal). SubmitsOne disk disk store store s request (Refused w)) (sym is) memory_unread.submits

  -- a journal without room
  pub full_unread : (entry : Entry) (is : IsDueEntry disk s request entry)
      → 2 ^ 40 < end_of s.bodies + 6 + length (body_of is.kept) → SubmitsUnread disk disk store store s request (Refused refusal.JournalFull)
  full_unread entry is full =
      let none = due_full s entry.edit is.kept full in
      let single : ComesSingle (outcome_of s.served request) = elim is.is [
        | inl e ↦ subst ComesSingle (sym e.outcome) tt
        | inr o ↦ subst ComesSingle (sym o.outcome) tt
      ] in
      unread (Refused refusal.JournalFull) single (elim is.is [
        | inl e ↦ inl (by_due (due_of s request) (ap (λ (o : Outcome). due_by s o) e.outcome ∙ none))
        | inr o ↦ inr (forced_is (KeepsState disk s) s request o.part o.outcome (Refused refusal.JournalFull) []
            ((λ keeps. by_due (step_due s o.part) (o.due keeps ∙ none)), o.of_merge))
      ]) (λ found. found) refl refl
    where
      by_due : (due : Due) → due ≡ answer_due (Refused refusal.JournalFull) → IsDue due (Refused refusal.JournalFull) []
      by_due due is = (ap (λ (d : Due). d.reply) (sym is), ap (λ (d : Due). d.added) (sym is))

-- ---- searches

-- the disk tells what is posted where it keeps the records
pub held_by : (disk : DiskView) (store : StoreValue) (s : State) → Serves store s → KeepsState disk s
    → IsKnown (option_map (take store.end) disk.content) s.served
held_by disk store s serves kept =
    let stored = kept.keeps.stored in
    let told : option_map (take store.end) disk.content ≡ Some (front s.bodies) =
    ap (option_map (take store.end)) stored.reads
    ∙ ap (λ (n : ℕ). Some (take n stored.bytes)) serves.end
    ∙ ap (λ (bytes : List ℕ). Some (take (end_of s.bodies) bytes)) stored.stands.spelled
    ∙ ap (λ (bytes : List ℕ). Some bytes) (take-append_seam (front s.bodies) (stored.stands.gate ∷ stored.stands.behind)) in
    record {
      lawful = kept.lawful;
      bytes = front s.bodies;
      is = told;
      holds = posted-told (front s.bodies) s.served.listed.listing (posted-stand s.bodies s.served.listed.listing.lists serves.pages.posted);
    }

module _ (old new : DiskView) (laws : IsDisk new) (store after : StoreValue) (s : State) (request : Submitted)
    (serves : Serves store s) (still : Serves after s) (q : Query) (is : IsQuery (outcome_of s.served request) q) where
  abbrev answer : Answer
  answer = answer_in s.served q.terms q.mode q.k

  due_is : due_of s request ≡ answer_due (Found answer)
  due_is = ap (λ (o : Outcome). due_by s o) is.outcome

  unanswered : IsUnanswered (due_of s request) []
  unanswered = record { answer = answer; found = ap (λ (d : Due). d.reply) due_is; added = refl }

  module _ (reply : Reply) (finds : Finds store.core q store.end old new store.pages after.pages reply) where
    abbrev turn : Turn
    turn = record { request = request; reply = reply; added = []; reads = finds.reads }

    reads_needed : KeepsState old s → ReadsNeeded (needed_by s.served (outcome_of s.served request)) turn
    reads_needed kept = λ weight.
        subst (λ (o : Outcome). sum_by weight finds.reads ≤ sum_by weight (needed_by s.served o)) (sym is.outcome)
        (finds.needed s.served serves.serves (held_by old store s serves kept) weight)

    reads_searched : KeepsState old s → ReadsIfSearch (λ at. IsCached at store.pages) store.pages.capacity s turn
    reads_searched kept =
        let held = held_by old store s serves kept in
        let l = s.served.listed.listing in
        subst (λ (o : Outcome). ReadsBy (λ at. IsCached at store.pages) store.pages.capacity (needed_by s.served o) turn o) (sym is.outcome) (record {
          once = needed-once s.bodies l serves.pages.posted q.terms is.may.ascending q.mode q.k finds.reads (finds.needed s.served serves.serves held);
          each = finds.each s.served serves.serves held;
          exact = finds.exact s.served serves.serves held;
        })

    made : IsForcedPlain (KeepsState old s) reply (due_of s request) [] → served_then s turn reply ≡ s.served → is_in_doubt reply ≡ false
        → SubmitsOne old new store after s request reply
    made forced same sure = silent_one old new laws store after s request still finds.reads finds.disk finds.keeps reply
        (by_single (KeepsState old s) s turn (outcome_of s.served request) (subst ComesSingle (sym is.outcome) tt) (record {
          came = inr (subst (λ (o : Outcome). IsForcedBy (KeepsState old s) o reply (due_of s request) []) (sym is.outcome) forced);
          reads = reads_needed;
        })) reads_searched same sure

  -- what a search was replied to, and that it was due or has a cause outside
  pub search_submits : (reply : Reply) → Finds store.core q store.end old new store.pages after.pages reply → SubmitsOne old new store after s request reply
  search_submits reply finds = by reply finds (finds.came s.served serves.serves)
    where
      by : (reply : Reply) (finds : Finds store.core q store.end old new store.pages after.pages reply)
          → CameTo (IsKnown (option_map (take store.end) old.content) s.served) answer reply → SubmitsOne old new store after s request reply
      by (Found a) finds came = made (Found a) finds (
        (λ kept. (
          ap Found (came (held_by old store s serves kept)) ∙ sym (ap (λ (d : Due). d.reply) due_is),
          sym (ap (λ (d : Due). d.added) due_is),
        )),
        unanswered,
      ) refl refl
      by (Refused refusal.Memory) finds came = made (Refused refusal.Memory) finds refl refl refl
      by (Faulted fault.Read) finds came = made (Faulted fault.Read) finds unanswered refl refl
      by (Faulted (fault.Damaged at)) finds came = made (Faulted (fault.Damaged at)) finds
          ((λ kept. came (held_by old store s serves kept)), unanswered) refl refl
      by _ finds came = absurd came

-- by another name of the store
pub submits-over : {old new : DiskView} {store same after : StoreValue} {s : State} {request : Submitted} {reply : Reply} → store ≡ same
    → Submits old new store after s request reply → Submits old new same after s request reply
submits-over {old} {new} {store} {same} {after} {s} {request} {reply} is it =
    subst (λ (v : StoreValue). Submits old new v after s request reply) is it

-- such a reply closes nothing
pub search_unclosed : (reply : Reply) → IsToSearch reply → closed_by reply ≡ None
search_unclosed (Found a) is = refl
search_unclosed (Refused refusal.Memory) is = refl
search_unclosed (Faulted fault.Read) is = refl
search_unclosed (Faulted (fault.Damaged at)) is = refl
search_unclosed _ is = absurd is

pub search_writes_nothing : (reply : Reply) → IsToSearch reply → reply ≡ Faulted fault.Write → ⊥
search_writes_nothing (Found a) is h = cc
search_writes_nothing (Refused refusal.Memory) is h = cc
search_writes_nothing (Faulted fault.Read) is h = cc
search_writes_nothing (Faulted (fault.Damaged at)) is h = cc
search_writes_nothing _ is h = absurd is

-- and its causes
pub search_causes : (core : CoreValue) (q : Query) (reach : ℕ) (old new : DiskView) (pages kept : CachedPages) (reply : Reply)
    → Finds core q reach old new pages kept reply
    → IsToSearch reply → SubmitCauses old new reply
search_causes core q reach old new pages kept reply finds is = record {
  write = λ h. absurd (search_writes_nothing reply is h);
  writes = omega (arith, finds.disk.writes);
  read = finds.read;
  reads = finds.disk.later;
}
