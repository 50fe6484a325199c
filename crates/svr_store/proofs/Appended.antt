-- A turn whose record is appended.
use Rattle.std.proofs.Common.{◌≡◌, ◌⊎◌, ◌≤◌, ◌<◌, ◌+◌, ◌^◌, ℕ, Bool, true, false, inl, inr, List, [], ◌∷◌, ◌++◌, length, Option, None, Some, unwrap_or, refl, sym, ap, subst, ◌∙◌, arith, append-nil}
use Rattle.std.specs.Prelude.{⊤, if◌then◌else◌}
use Rattle.std.specs.Option.{option_and_then}
use Rattle.std.proofs.lemmas.Bool.Decides.{nat_tests}
use Rattle.svr_edge.specs.Disk.{DiskView, IsDisk, IsImage, Leaves}
use Rattle.svr_journal.specs.File.{StandsForSome, end_of}
use Rattle.svr_journal.proofs.Appended.{end_of-push}
use Rattle.svr_record.specs.declared.record.Record.{Record}
use Rattle.svr_record.specs.Bodies.{body_of}
use Rattle.svr_record.specs.Grammar.{record_in}
use Rattle.svr_record.proofs.Records.{record_in-body_of}
use Rattle.svr_request.specs.declared.refusal.Refusal.TheVariants as refusal
use Rattle.svr_request.specs.declared.reply.Fault.TheVariants as fault
use Rattle.svr_request.specs.declared.reply.Reply.{Reply}
use Rattle.svr_request.specs.declared.reply.Reply.TheVariants.{Accepted, Faulted, Left, Refused}
use Rattle.svr_request.specs.Requests.{Submitted}
use Rattle.svr_core.specs.declared.plan.Edit.{Edit}
use Rattle.svr_core.specs.declared.plan.Edit.TheVariants as edit
use Rattle.svr_core.specs.declared.plan.Entry.{Entry}
use Rattle.svr_core.specs.declared.plan.Step.{Step}
use Rattle.svr_core.specs.Edits.{counted, relisted, served_with, slice_with, taken_into, with_taken_terms}
use Rattle.svr_core.specs.Kept.{ServesAs}
use Rattle.svr_core.specs.Outcomes.{Outcome, merges, outcome_of}
use Rattle.svr_core.specs.Pages.{HavePages}
use Rattle.svr_core.specs.Reads.{IsFound}
use Rattle.svr_core.proofs.Reading.{reads-unfound}
use Rattle.svr_pages.specs.Stretch.{IsCached}
use Rattle.svr_store.proofs.Caching.{keeps-same}
use Rattle.svr_core.specs.Replay.{after_body, after_record, replayed}
use Rattle.svr_core.specs.Run.{ComesSingle, Due, IsAccepted, IsBroken, IsDue, IsForcedBy, IsForcedPlain, IsForcedStep, Turn, answer_due, closes, doubtful, due_by, due_of, kept}
use Rattle.svr_core.specs.Run.{edit_due, has_room, is_in_doubt, reply_to, served_then, state_then, step_due, terms_reply}
use Rattle.svr_core.specs.State.{Served, State}
use Rattle.svr_pages.proofs.Stretching.{with_reads-none}
use Rattle.svr_core.proofs.Runs.{by_single}
use Rattle.svr_core.proofs.Standing.{pages-after}
use Rattle.svr_catalog.specs.Catalog.{Catalog}
use Rattle.svr_listing.specs.Served as listing
use Rattle.svr_listing.specs.declared.pages.TermPages.{TermPages}
use Rattle.svr_store.specs.Making.{IsDueEntry, IsOfEdit, IsOfStep, Makes, ServesEdit}
use Rattle.svr_store.specs.Store.{IsOpen, Keeps, KeepsState, Serves, StoreValue}
use Rattle.svr_store.specs.Merging.{IsBeside, SubmitsUnread}
use Rattle.svr_store.proofs.Kept.{some_in_doubt}

-- ---- replies to edits

pub reply_accepted : (s : Served) (e : Edit) → IsAccepted (reply_to s e)
reply_accepted s (edit.Schema schema) = tt
reply_accepted s (edit.Change change) = tt
reply_accepted s (edit.Load at rows) = tt
reply_accepted s edit.Begin = tt
reply_accepted s (edit.Slice terms pages at) = tt
reply_accepted s edit.Publish = tt

reply_numbered : (s : Served) (e : Edit) → counted e ≡ 1 → reply_to s e ≡ Accepted s.changes
reply_numbered s (edit.Schema schema) one = refl
reply_numbered s (edit.Change change) one = refl
reply_numbered s (edit.Load at rows) one = refl
reply_numbered s edit.Begin one = absurd cc
reply_numbered s (edit.Slice terms pages at) one = absurd cc
reply_numbered s edit.Publish one = refl

reply_uncounted : (s : Served) (e : Edit) → counted e ≡ 0 → reply_to s e ≡ terms_reply s
reply_uncounted s (edit.Schema schema) none = absurd cc
reply_uncounted s (edit.Change change) none = absurd cc
reply_uncounted s (edit.Load at rows) none = absurd cc
reply_uncounted s edit.Begin none = refl
reply_uncounted s (edit.Slice terms pages at) none = refl
reply_uncounted s edit.Publish none = absurd cc

-- ---- what an edit is due, by the room in the journal

module _ (s : State) (e : Edit) (kept : Record) where
  abbrev by_room : Bool → Due
  by_room b =
      if b then record { reply = reply_to (served_with s.served e) e; added = body_of kept ∷ [] } else answer_due (Refused refusal.JournalFull)

  pub due_fits : end_of s.bodies + 6 + length (body_of kept) ≤ 2 ^ 40
      → edit_due s e kept ≡ record { reply = reply_to (served_with s.served e) e; added = body_of kept ∷ [] }
  due_fits fits = ap by_room (let room : has_room s.bodies (body_of kept) ≡ true = grind (arith, nat_tests) in room)

  pub due_full : 2 ^ 40 < end_of s.bodies + 6 + length (body_of kept) → edit_due s e kept ≡ answer_due (Refused refusal.JournalFull)
  due_full full = ap by_room (let none : has_room s.bodies (body_of kept) ≡ false = grind (arith, nat_tests) in none)

-- ---- a step of a merge, by the outcome of its request

module _ (known : Type 0) (s : State) (request : Submitted) (part : Step) (is : outcome_of s.served request ≡ merges part) where
  pub due_is : due_of s request ≡ step_due s part
  due_is = ap (λ (o : Outcome). due_by s o) is

  pub forced_is : (reply : Reply) (added : List (List ℕ)) → IsForcedStep known part reply (step_due s part) added
      → IsForcedBy known (outcome_of s.served request) reply (due_of s request) added
  forced_is reply added forced = subst (λ (o : Outcome). IsForcedBy known o reply (due_by s o) added) (sym is) forced

-- ---- the listing beside a merge

begun_listing : (set : Option Catalog) (l : listing.Served) → (relisted set l edit.Begin).listing ≡ l.listing
begun_listing None l = refl
begun_listing (Some c) l = refl

taken_listing : (l : listing.Served) (terms : Option (List TermPages)) → (with_taken_terms l terms).listing ≡ l.listing
taken_listing l None = refl
taken_listing l (Some terms) = refl

-- what a store served before, whose journal has one record more
pub record IsBefore (start : StoreValue) (s : State) : Type 0 where
  pub serves : ServesAs start.core s.served
  pub pages : HavePages s.bodies s.served.listed

-- ---- the turn with its record

module _ (old new : DiskView) (s : State) (request : Submitted) (entry : Entry) (is : IsDueEntry old s request entry) where
  abbrev with_record : Reply → Turn
  with_record reply = record { request = request; reply = reply; added = entry.body ∷ []; reads = [] }

  -- what is served after it
  abbrev after : Served
  after = served_with s.served entry.edit

  -- read again, the record gives that
  read : record_in entry.body ≡ Some is.kept
  read = ap record_in is.body ∙ record_in-body_of is.kept is.is_record

  taken : after_body s.bodies s.served entry.body ≡ Some after
  taken = ap (λ (o : Option Record). option_and_then (after_record s.bodies s.served) o) read ∙ is.again

  replays : replayed s.bodies s.served (entry.body ∷ []) ≡ Some after
  unfolding replayed
  replays = ap (λ (o : Option Served). option_and_then (λ (next : Served). replayed (s.bodies ++ entry.body ∷ []) next []) o) taken

  -- what is served then
  replayed_is : unwrap_or (replayed s.bodies s.served (entry.body ∷ [])) s.served ≡ after
  replayed_is = ap (λ (o : Option Served). unwrap_or o s.served) replays

  -- the reply that is due, and the record
  abbrev IsWanted : Due → Type 0
  IsWanted due = due ≡ record { reply = reply_to after entry.edit; added = entry.body ∷ [] }

  wanted : end_of s.bodies + 6 + length entry.body ≤ 2 ^ 40 → IsWanted (edit_due s entry.edit is.kept)
  wanted fits =
      due_fits s entry.edit is.kept (omega (arith, fits, ap length is.body))
      ∙ ap (λ (body : List ℕ). record { reply = reply_to after entry.edit; added = body ∷ [] }) (sym is.body)

  -- a turn with the record came so, if its reply is an accepted one or a fault
  broken : (due : Due) → IsWanted due → IsBroken due (entry.body ∷ [])
  broken due w = record {
    accepted = subst (λ (d : Due). IsAccepted d.reply) (sym w) (reply_accepted after entry.edit);
    added = sym (ap (λ (d : Due). d.added) w);
  }

  abbrev Came : Reply → Type 0
  Came reply = IsDue (due_of s request) reply (entry.body ∷ [])
      ⊎ IsForcedBy (KeepsState old s) (outcome_of s.served request) reply (due_of s request) (entry.body ∷ [])

  comes_single : ComesSingle (outcome_of s.served request)
  comes_single = elim is.is [ inl e ↦ subst ComesSingle (sym e.outcome) tt | inr o ↦ subst ComesSingle (sym o.outcome) tt ]

  beside : (n : ℕ) (e : Edit) → counted e ≡ 0 → IsBeside s.served (served_with s.served e)
  beside n edit.Begin none = record { catalog = refl; changes = omega arith; listing = begun_listing s.served.catalog s.served.listed }
  beside n (edit.Slice terms pages at) none = record { catalog = refl; changes = omega arith; listing = taken_listing s.served.listed (taken_into s.served.listed (slice_with terms pages) at) }
  beside n (edit.Schema schema) none = absurd cc
  beside n (edit.Change change) none = absurd cc
  beside n (edit.Load at rows) none = absurd cc
  beside n edit.Publish none = absurd cc

  module _ (start store : StoreValue) (reply : Reply) where
    submits : Came reply → (IsFound reply → ⊥) → store.pages ≡ start.pages
        → (closes reply ≡ false → Serves store (state_then s (with_record reply)))
        → (closes reply ≡ false → after ≡ served_then s (with_record reply) reply)
        → new.trace ≡ old.trace
        → (Keeps old s.bodies → Leaves old new (StandsForSome s.bodies (entry.body ∷ [])))
        → (Keeps old s.bodies → is_in_doubt reply ≡ false → Keeps new (s.bodies ++ entry.body ∷ []))
        → (Keeps old s.bodies → is_in_doubt reply ≡ true → (image : List ℕ) → IsImage new image
        → StandsForSome (s.bodies ++ kept (with_record reply)) (doubtful (with_record reply)) image)
        → ((n : ℕ) → reply ≡ Left n → counted entry.edit ≡ 0)
        → SubmitsUnread old new start store s request reply
    submits came unfound cached serves same trace any_moment keeps in_doubt left = record {
      submits = record {
        submits = record {
          turn = with_record reply;
          asked = refl;
          told = refl;
          is = by_single (KeepsState old s) s (with_record reply) (outcome_of s.served request) comes_single
              (record { came = came; reads = λ kept weight. omega arith });
          trace = trace ∙ sym (with_reads-none old.trace);
          caches = record {
            keeps = keeps-same [] start.pages store.pages cached;
            search = λ _. reads-unfound (λ at. IsCached at start.pages) start.pages.capacity s (with_record reply) unfound refl;
          };
          spelled = (record { kept = is.kept; is_record = is.is_record; spelled = is.body }, tt);
          serves = serves;
          next = after;
          replays = replays;
          same = λ going. inr (same going);
          lawful = is.lawful;
          any_moment = any_moment;
          keeps = keeps;
          in_doubt = in_doubt;
        };
        exact = same;
        beside = λ n is_left. beside n entry.edit (left n is_left);
        one = λ doubt. (entry.body, refl);
      };
      unread = refl;
    }

  edit_due_of : (e : IsOfEdit s request entry.edit is.kept) → due_of s request ≡ edit_due s entry.edit is.kept
  edit_due_of e = ap (λ (o : Outcome). due_by s o) e.outcome

  -- a fault behind the write of the record
  abbrev IsClosing : Reply → Type 0
  IsClosing (Faulted fault.Write) = ⊤
  IsClosing (Faulted fault.Memory) = ⊤
  IsClosing _ = ⊥

  closing_step : (o : IsOfStep old s request entry.edit is.kept) → end_of s.bodies + 6 + length entry.body ≤ 2 ^ 40 → (reply : Reply) → IsClosing reply
      → IsForcedStep (KeepsState old s) o.part reply (step_due s o.part) (entry.body ∷ [])
  closing_step o fits (Faulted fault.Write) closing = ((λ keeps. broken (step_due s o.part) (o.due keeps ∙ wanted fits)), o.of_merge)
  closing_step o fits (Faulted fault.Memory) closing = ((λ keeps. broken (step_due s o.part) (o.due keeps ∙ wanted fits)), o.of_merge)
  closing_step o fits _ closing = absurd closing

  closing_edit : (e : IsOfEdit s request entry.edit is.kept) → end_of s.bodies + 6 + length entry.body ≤ 2 ^ 40 → (reply : Reply) → IsClosing reply
      → IsForcedPlain (KeepsState old s) reply (edit_due s entry.edit is.kept) (entry.body ∷ [])
  closing_edit e fits (Faulted fault.Write) closing = broken (edit_due s entry.edit is.kept) (wanted fits)
  closing_edit e fits (Faulted fault.Memory) closing = broken (edit_due s entry.edit is.kept) (wanted fits)
  closing_edit e fits _ closing = absurd closing

  closing_came : end_of s.bodies + 6 + length entry.body ≤ 2 ^ 40 → (reply : Reply) → IsClosing reply → Came reply
  closing_came fits reply closing = elim is.is [
    | inl e ↦ inr (subst (λ (o : Outcome). IsForcedBy (KeepsState old s) o reply (due_by s o) (entry.body ∷ [])) (sym e.outcome)
        (closing_edit e fits reply closing))
    | inr o ↦ inr (forced_is (KeepsState old s) s request o.part o.outcome reply (entry.body ∷ []) (closing_step o fits reply closing))
  ]

  -- the reply to an edit that was made
  abbrev IsMadeReply : Reply → Type 0
  IsMadeReply (Accepted n) = ⊤
  IsMadeReply (Left n) = ⊤
  IsMadeReply _ = ⊥

  made_due : (due : Due) → IsWanted due → (reply : Reply) → reply ≡ reply_to after entry.edit → IsDue due reply (entry.body ∷ [])
  made_due due w reply same = (same ∙ sym (ap (λ (d : Due). d.reply) w), sym (ap (λ (d : Due). d.added) w))

  made_step : (o : IsOfStep old s request entry.edit is.kept) → end_of s.bodies + 6 + length entry.body ≤ 2 ^ 40 → (reply : Reply)
      → IsMadeReply reply → (KeepsState old s → reply ≡ reply_to after entry.edit)
      → IsForcedStep (KeepsState old s) o.part reply (step_due s o.part) (entry.body ∷ [])
  made_step o fits (Accepted n) made same =
      ((λ keeps. made_due (step_due s o.part) (o.due keeps ∙ wanted fits) (Accepted n) (same keeps)), o.of_merge)
  made_step o fits (Left n) made same =
      ((λ keeps. made_due (step_due s o.part) (o.due keeps ∙ wanted fits) (Left n) (same keeps)), o.of_merge)
  made_step o fits _ made same = absurd made

  made_came : end_of s.bodies + 6 + length entry.body ≤ 2 ^ 40 → (reply : Reply) → IsMadeReply reply
      → (KeepsState old s → reply ≡ reply_to after entry.edit) → (counted entry.edit ≡ 1 → reply ≡ reply_to after entry.edit) → Came reply
  made_came fits reply made known counts = elim is.is [
    | inl e ↦ inl (made_due (due_of s request) (edit_due_of e ∙ wanted fits) reply (counts e.counts))
    | inr o ↦ inr (forced_is (KeepsState old s) s request o.part o.outcome reply (entry.body ∷ []) (made_step o fits reply made known))
  ]

  -- a write failed: the record is there or not
  pub write_unread : (start store : StoreValue) → store.pages ≡ start.pages → IsDisk new → end_of s.bodies + 6 + length entry.body ≤ 2 ^ 40 → new.trace ≡ old.trace
      → (Keeps old s.bodies → Leaves old new (StandsForSome s.bodies (entry.body ∷ []))) → SubmitsUnread old new start store s request (Faulted fault.Write)
  write_unread start store cached laws fits trace any_moment =
      submits start store (Faulted fault.Write) (closing_came fits (Faulted fault.Write) tt) (λ found. found) cached
      (λ open_still. absurd cc) (λ open_still. absurd cc) trace any_moment (λ _ certain. absurd cc)
      (λ keeps doubt image there. subst (λ (bs : List (List ℕ)). StandsForSome bs (entry.body ∷ []) image) (sym (append-nil s.bodies))
      (some_in_doubt old new laws s.bodies (entry.body ∷ []) keeps (any_moment keeps) image there))
      (λ n is_left. absurd cc)

  module _ (fits : end_of s.bodies + 6 + length entry.body ≤ 2 ^ 40) (trace : new.trace ≡ old.trace)
      (any_moment : Keeps old s.bodies → Leaves old new (StandsForSome s.bodies (entry.body ∷ [])))
      (keeps : Keeps old s.bodies → Keeps new (s.bodies ++ entry.body ∷ [])) (start : StoreValue) (serves : IsBefore start s)
      (at_end : start.end ≡ end_of s.bodies + 5 + length entry.body) where
    -- memory was wanting once the record was there
    memory_unread : (before store : StoreValue) → store.pages ≡ before.pages → SubmitsUnread old new before store s request (Faulted fault.Memory)
    memory_unread before store cached =
        submits before store (Faulted fault.Memory) (closing_came fits (Faulted fault.Memory) tt) (λ found. found) cached
        (λ open_still. absurd cc) (λ open_still. absurd cc) trace any_moment (λ kept _. keeps kept) (λ kept doubt. absurd cc)
        (λ n is_left. absurd cc)

    -- what a store serves behind it
    serves_after : (store : StoreValue) → ServesEdit start store entry.edit → (x : Served) → x ≡ after
        → Serves store (record { served = x; bodies = s.bodies ++ entry.body ∷ [] })
    serves_after store made x same = record {
      serves = subst (ServesAs store.core) (sym same) (made.serves s.served serves.serves is.is_ready);
      pages = subst (λ (v : Served). HavePages (s.bodies ++ entry.body ∷ []) v.listed) (sym same)
          (pages-after s.bodies s.served after entry.body is.kept read is.body taken serves.pages);
      end = ap (λ (v : StoreValue). v.end) made.others ∙ at_end ∙ sym (end_of-push s.bodies entry.body);
    }

    pub made_unread : (before store : StoreValue) → start.pages ≡ before.pages → (reply : Reply) → Makes start store entry.edit reply
        → SubmitsUnread old new before store s request reply
    made_unread before store cached (Accepted n) makes =
        let number : after.changes ≡ s.served.changes + 1 = ap (λ (k : ℕ). s.served.changes + k) makes.0 in
        let same : Accepted n ≡ reply_to after entry.edit =
        ap Accepted (makes.1 ∙ ap (λ (k : ℕ). k + 1) serves.serves.changes ∙ sym number) ∙ sym (reply_numbered after entry.edit makes.0) in
        submits before store (Accepted n) (made_came fits (Accepted n) tt (λ known. same) (λ counts. same)) (λ found. found)
        (ap (λ (v : StoreValue). v.pages) makes.2.others ∙ cached)
        (λ _. serves_after store makes.2 (served_then s (with_record (Accepted n)) (Accepted n)) replayed_is)
        (λ _. sym replayed_is) trace any_moment (λ kept _. keeps kept) (λ kept doubt. absurd cc) (λ n is_left. absurd cc)
    made_unread before store cached (Left n) makes =
        let same : KeepsState old s → Left n ≡ reply_to after entry.edit = λ known.
        ap Left (makes.1 after (makes.2.serves s.served serves.serves is.is_ready) (is.lawful known))
        ∙ sym (reply_uncounted after entry.edit makes.0) in
        submits before store (Left n) (made_came fits (Left n) tt same (λ counts. absurd (let zero_one : 0 ≡ 1 = sym makes.0 ∙ counts in cc)))
        (λ found. found) (ap (λ (v : StoreValue). v.pages) makes.2.others ∙ cached)
        (λ _. serves_after store makes.2 (served_then s (with_record (Left n)) (Left n)) replayed_is)
        (λ _. sym replayed_is) trace any_moment (λ kept _. keeps kept) (λ kept doubt. absurd cc) (λ m is_left. makes.0)
    made_unread before store cached (Faulted fault.Memory) makes = memory_unread before store (makes.1 ∙ cached)
    made_unread before store cached _ makes = absurd makes

-- an edit that was made leaves a store open
pub opened_behind : (start store : StoreValue) (e : Edit) (reply : Reply) (disk : DiskView) → Makes start store e reply → closes reply ≡ false
    → IsOpen start disk → IsOpen store disk
opened_behind start store e (Accepted n) disk makes going was = subst (λ (v : StoreValue). IsOpen v disk) (sym makes.2.others)
    (record { unclosed = was.unclosed; inside = was.inside; ready = was.ready })
opened_behind start store e (Left n) disk makes going was = subst (λ (v : StoreValue). IsOpen v disk) (sym makes.2.others)
    (record { unclosed = was.unclosed; inside = was.inside; ready = was.ready })
opened_behind start store e (Faulted fault.Memory) disk makes going was = absurd cc
opened_behind start store e _ disk makes going was = absurd makes
