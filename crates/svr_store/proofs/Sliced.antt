-- A turn for which the pages of a merge's next slice were read.
use Rattle.std.proofs.Common.{◌≡◌, ◌≤◌, ℕ, true, false, inr, List, [], ◌++◌, map, take, Option, None, Some, unwrap_or, Result, Ok, Err, IfOk}
use Rattle.std.proofs.Common.{refl, sym, ap, ◌∙◌, subst, arith, append-nil}
use Rattle.std.specs.List.{sum_by}
use Rattle.std.specs.Option.{IsSome, is_some, option_map}
use Rattle.svr_edge.specs.Causes.{Rose}
use Rattle.svr_edge.specs.Disk.{DiskView, IsDisk}
use Rattle.svr_edge.proofs.CausesLemmas.{Rose-earlier}
use Rattle.svr_edge.proofs.DiskLemmas.{Leaves-trans}
use Rattle.svr_iter.specs.declared.fault.ScanFault.{ScanFault}
use Rattle.svr_iter.specs.declared.fault.ScanFault.TheVariants as scan
use Rattle.svr_journal.specs.File.{StandsForSome}
use Rattle.svr_listing.specs.Merges.{Merge}
use Rattle.svr_pages.specs.Stretch.{IsCached, ReadsInTurn, with_reads}
use Rattle.svr_pages.proofs.Stretching.{with_reads-none}
use Rattle.svr_postpage.specs.declared.page_ref.PageFault.TheVariants as page
use Rattle.svr_request.specs.declared.refusal.Refusal.TheVariants as refusal
use Rattle.svr_request.specs.declared.reply.Fault.TheVariants as fault
use Rattle.svr_request.specs.declared.reply.Reply.{Reply}
use Rattle.svr_request.specs.declared.reply.Reply.TheVariants.{Accepted, Faulted, Found, Left, Refused}
use Rattle.svr_request.specs.Requests.{Submitted}
use Rattle.svr_core.specs.declared.plan.Entry.{Entry}
use Rattle.svr_core.specs.declared.plan.Step.{Step}
use Rattle.svr_core.specs.declared.plan.Step.TheVariants as step
use Rattle.svr_core.specs.Kept.{CoreValue, ServesAs, last_of}
use Rattle.svr_core.specs.Merges.{IsKnown, PlansSlice}
use Rattle.svr_core.specs.Outcomes.{Outcome, merges, outcome_of}
use Rattle.svr_core.specs.Run.{ComesSingle, Due, IsForcedStep, IsOfMerge, IsSingle, IsUnsliced, ReadsNeeded, Turn}
use Rattle.svr_core.specs.Run.{answer_due, is_in_doubt, needed_by, pages_for, served_then, slice_due, state_then, step_due}
use Rattle.svr_core.proofs.Reading.{reads-step}
use Rattle.svr_core.proofs.Runs.{IsSingle-by, by_single, single_of}
use Rattle.svr_core.specs.State.{IsWithMerge, Served, State}
use Rattle.svr_core.proofs.Replayed.{replayed-none}
use Rattle.svr_core.proofs.Slicing.{sliced_of_merge}
use Rattle.svr_store.specs.Caching.{KeepsPages}
use Rattle.svr_store.specs.Making.{IsDueEntry, TellsLeft}
use Rattle.svr_store.specs.Merging.{IsNoFault, PlansNext, SubmitsOne, SubmitsUnread, reply_of_fault}
use Rattle.svr_store.specs.Store.{KeepsState, Serves, StoreValue}
use Rattle.svr_store.specs.Submitting.{SubmitCauses}
use Rattle.svr_store.proofs.Appended.{forced_is}
use Rattle.svr_store.proofs.Caching.{keeps-on}
use Rattle.svr_store.proofs.Kept.{keeps_read, leaves_read}
use Rattle.svr_store.proofs.Silent.{held_by, silent_one}
use Rattle.svr_store.proofs.Steps.{step_entry_due}

-- ---- the same turn, for which these pages were read

module _ (reads : List ℕ) where
  abbrev reading : Turn → Turn
  reading t = record { request = t.request; reply = t.reply; added = t.added; reads = reads }

  served_same : (s : State) (t : Turn) (r : Reply) → served_then s (reading t) r ≡ served_then s t r
  served_same s t (Accepted n) = refl
  served_same s t (Left n) = refl
  served_same s t (Found answer) = refl
  served_same s t (Refused why) = refl
  served_same s t (Faulted why) = refl

  state_same : (s : State) (t : Turn) → state_then s (reading t) ≡ state_then s t
  state_same s t = ap (λ (v : Served). record { served = v; bodies = s.bodies ++ t.added }) (served_same s t t.reply)

-- ---- a turn behind the reads of its pages

-- the pages of a step weigh as much as what was read for it, or more
abbrev pub AreNeeded : State → Step → List ℕ → Type 0
AreNeeded s part reads = (weight : ℕ → ℕ) → sum_by weight reads ≤ sum_by weight (map (λ page. page.at) (pages_for s.served part))

needed_for : (s : State) (request : Submitted) (part : Step) → outcome_of s.served request ≡ merges part → (t : Turn) → AreNeeded s part t.reads
    → ReadsNeeded (needed_by s.served (outcome_of s.served request)) t
needed_for s request part outcome t needed = subst (λ (o : Outcome). ReadsNeeded (needed_by s.served o) t) (sym outcome) needed

module _ (old mid : DiskView) (laws : IsDisk mid) (reads : List ℕ) (disk : ReadsInTurn reads old mid) (first between : StoreValue)
    (pages : KeepsPages reads first.pages between.pages) where
  still_kept : (s : State) → KeepsState old s → KeepsState mid s
  still_kept s kept = record { keeps = keeps_read old mid laws s.bodies disk.stays kept.keeps; lawful = kept.lawful }

  pub behind_reads : (new : DiskView) (after : StoreValue) (s : State) (request : Submitted) (part : Step) (reply : Reply)
      → outcome_of s.served request ≡ merges part → SubmitsUnread mid new between after s request reply
      → (KeepsState old s → AreNeeded s part reads) → SubmitsOne old new first after s request reply
  behind_reads new after s request part reply outcome it needed =
      let one = it.submits.submits in
      let t = one.turn in
      let asked : outcome_of s.served t.request ≡ merges part = ap (outcome_of s.served) one.asked ∙ outcome in
      let single : IsSingle (KeepsState old s) s t =
      IsSingle-by (KeepsState mid s) (KeepsState old s) (still_kept s) s t (single_of (KeepsState mid s) s t part asked one.is) in
      let same_state : state_then s t ≡ state_then s (reading reads t) = sym (state_same reads s t) in
      record {
        submits = record {
          turn = reading reads t;
          asked = one.asked;
          told = one.told;
          is = by_single (KeepsState old s) s (reading reads t) (outcome_of s.served t.request) (subst ComesSingle (sym asked) tt) (record {
            came = single.came;
            reads = λ kept. needed_for s t.request part asked (reading reads t) (needed kept);
          });
          trace = one.trace ∙ ap (with_reads mid.trace) it.unread ∙ with_reads-none mid.trace ∙ disk.trace;
          caches = record {
            keeps = subst (λ (l : List ℕ). KeepsPages l first.pages after.pages)
                (ap (λ (l : List ℕ). reads ++ l) it.unread ∙ append-nil reads)
                (keeps-on reads t.reads first.pages between.pages after.pages pages one.caches.keeps);
            search = λ _. reads-step (λ at. IsCached at first.pages) first.pages.capacity s (reading reads t) part asked;
          };
          spelled = one.spelled;
          serves = λ going. subst (Serves after) same_state (one.serves going);
          next = one.next;
          replays = one.replays;
          same = λ going. subst (λ (v : State). IsWithMerge one.next v.served) same_state (one.same going);
          lawful = λ kept. one.lawful (still_kept s kept);
          any_moment = λ kept. Leaves-trans old mid new (StandsForSome s.bodies t.added) (StandsForSome s.bodies t.added)
              (StandsForSome s.bodies t.added) (leaves_read old mid (StandsForSome s.bodies t.added) disk.stays)
              (one.any_moment (keeps_read old mid laws s.bodies disk.stays kept)) (λ image is. is) (λ image is. is);
          keeps = λ kept certain. one.keeps (keeps_read old mid laws s.bodies disk.stays kept) certain;
          in_doubt = λ kept doubt. one.in_doubt (keeps_read old mid laws s.bodies disk.stays kept) doubt;
        };
        exact = λ going. it.submits.exact going ∙ ap (λ (v : State). v.served) same_state;
        beside = it.submits.beside;
        one = it.submits.one;
      }

pub causes_behind : (old mid new : DiskView) (reads : List ℕ) (reply : Reply) → ReadsInTurn reads old mid → SubmitCauses mid new reply
    → SubmitCauses old new reply
causes_behind old mid new reads reply disk causes = record {
  write = λ h. subst (λ (n : ℕ). Rose n new.write_faults) disk.writes (causes.write h);
  writes = omega (arith, disk.writes, causes.writes);
  read = λ h. Rose-earlier old.read_faults mid.read_faults new.read_faults disk.later (causes.read h);
  reads = omega (arith, disk.later, causes.reads);
}

-- a store of which the pages alone are others serves the same
pub serves_pages : (store after : StoreValue) (s : State) → after ≡ record store { pages = after.pages } → Serves store s → Serves after s
serves_pages store after s same serves = record {
  serves = subst (λ (core : CoreValue). ServesAs core s.served) (ap (λ (v : StoreValue). v.core) (sym same)) serves.serves;
  pages = serves.pages;
  end = ap (λ (v : StoreValue). v.end) same ∙ serves.end;
}

-- ---- where no merge is begun

none_begun : (o : Option Merge) → is_some (option_map (λ m. m.last) o) ≡ false → o ≡ None
none_begun None none = refl
none_begun (Some m) none = absurd (let e : true ≡ false = none in cc)

pub no_merge_due : (core : CoreValue) (s : State) (most : ℕ) → ServesAs core s.served → is_some (last_of core) ≡ false
    → step_due s (step.Slice most) ≡ answer_due (Refused refusal.NoMerge)
no_merge_due core s most serves none = ap (slice_due s most)
    (none_begun s.served.listed.merge (subst (λ (o : Option (Option (List ℕ))). is_some o ≡ false) serves.last none))

-- ---- the slice of a merge

module _ (old mid : DiskView) (laws : IsDisk mid) (store after : StoreValue) (s : State) (request : Submitted) (serves : Serves store s)
    (still : Serves after s) (most : ℕ) (outcome : outcome_of s.served request ≡ merges (step.Slice most)) (begun : IsSome (last_of store.core))
    (result : Result (Option Entry) ScanFault) (plans : PlansNext store.core most store.end old mid store.pages after.pages result) where
  abbrev told : Option (List ℕ)
  told = option_map (take store.end) old.content

  abbrev turn : Reply → Turn
  turn reply = record { request = request; reply = reply; added = []; reads = plans.reads }

  needed : KeepsState old s → AreNeeded s (step.Slice most) plans.reads
  needed kept = plans.needed s.served serves.serves (held_by old store s serves kept)

  due_of_merge : IsOfMerge (step_due s (step.Slice most)).reply
  due_of_merge = sliced_of_merge s most (subst (λ (o : Option (Option (List ℕ))). IsSome o) serves.serves.last begun)

  -- nothing is appended
  quiet_slice : (reply : Reply) → IsForcedStep (KeepsState old s) (step.Slice most) reply (step_due s (step.Slice most)) []
      → served_then s (turn reply) reply ≡ s.served → is_in_doubt reply ≡ false → SubmitsOne old mid store after s request reply
  quiet_slice reply forced same sure =
      silent_one old mid laws store after s request still plans.reads plans.disk plans.keeps reply
      (by_single (KeepsState old s) s (turn reply) (outcome_of s.served request) (subst ComesSingle (sym outcome) tt) (record {
        came = inr (forced_is (KeepsState old s) s request (step.Slice most) outcome reply [] forced);
        reads = λ kept. needed_for s request (step.Slice most) outcome (turn reply) (needed kept);
      })) (λ _. reads-step (λ at. IsCached at store.pages) store.pages.capacity s (turn reply) (step.Slice most) outcome) same sure

  unsliced : IsUnsliced (step.Slice most) (step_due s (step.Slice most)) []
  unsliced = record { slices = tt; of_merge = due_of_merge; added = refl }

  -- it couldn't be made
  pub stopped_submits : (why : ScanFault) → result ≡ Err why → SubmitsOne old mid store after s request (reply_of_fault why)
  stopped_submits scan.Memory is = quiet_slice (Refused refusal.Memory) refl refl refl
  stopped_submits (scan.Page page.Read) is = quiet_slice (Faulted fault.Read) unsliced refl refl
  stopped_submits (scan.Page (page.Damaged at why)) is = quiet_slice (Faulted (fault.Damaged at)) (
    (λ kept. subst (λ (r : Result (Option Entry) ScanFault). IsNoFault (IsKnown told s.served) r) is
        (plans.sound s.served serves.serves) (held_by old store s serves kept)),
    unsliced,
  ) refl refl

  planned : (made : Option Entry) → result ≡ Ok made → PlansSlice told store.core s most made
  planned made is = subst (λ (r : Result (Option Entry) ScanFault). IfOk r (PlansSlice told store.core s most)) is
      (plans.plans s serves.serves serves.end)

  -- it has no term
  pub left_submits : (n : ℕ) → result ≡ Ok None → TellsLeft store n → SubmitsOne old mid store after s request (Left n)
  left_submits n is tells =
      let none = planned None is in
      quiet_slice (Left n) (
        (λ kept.
            let due = none.0 (held_by old store s serves kept) in (
              ap Left (tells s.served serves.serves kept.lawful) ∙ sym (ap (λ (d : Due). d.reply) due),
              sym (ap (λ (d : Due). d.added) due),
            )),
        none.1,
      ) (ap (λ (o : Option Served). unwrap_or o s.served) (replayed-none s.bodies s.served)) refl

  -- it is an entry
  pub entry_is_due : (e : Entry) → result ≡ Ok (Some e) → IsDueEntry mid s request e
  entry_is_due e is =
      step_entry_due mid (IsKnown told s.served) store.core s request (step.Slice most) e outcome
      (λ kept. subst (λ (content : Option (List ℕ)). IsKnown (option_map (take store.end) content) s.served) plans.disk.stays.content
      (held_by mid store s serves kept)) (planned (Some e) is)

  pub entry_submits : (new : DiskView) (last : StoreValue) (reply : Reply) → SubmitsUnread mid new after last s request reply
      → SubmitsOne old new store last s request reply
  entry_submits new last reply it =
      behind_reads old mid laws plans.reads plans.disk store after plans.keeps new last s request (step.Slice most) reply outcome it needed

-- a slice that couldn't be made writes nothing
stopped_writes : (why : ScanFault) → reply_of_fault why ≡ Faulted fault.Write → ⊥
stopped_writes scan.Memory h = cc
stopped_writes (scan.Page page.Read) h = cc
stopped_writes (scan.Page (page.Damaged at why)) h = cc

stopped_reads : (why : ScanFault) (P : Type 0) → (why ≡ scan.Page page.Read → P) → reply_of_fault why ≡ Faulted fault.Read → P
stopped_reads scan.Memory P is h = absurd cc
stopped_reads (scan.Page page.Read) P is h = is refl
stopped_reads (scan.Page (page.Damaged at why)) P is h = absurd cc

pub stopped_causes : (core : _) (most reach : ℕ) (old new : DiskView) (pages kept : _) (result : Result (Option Entry) ScanFault)
    → PlansNext core most reach old new pages kept result → (why : ScanFault) → result ≡ Err why → SubmitCauses old new (reply_of_fault why)
stopped_causes core most reach old new pages kept result plans why is = record {
  write = λ h. absurd (stopped_writes why h);
  writes = omega (arith, plans.disk.writes);
  read = stopped_reads why (Rose old.read_faults new.read_faults)
      (λ e. plans.read (is ∙ ap (λ (w : ScanFault). let r : Result (Option Entry) ScanFault = Err w in r) e));
  reads = plans.disk.later;
}
