-- Words of private clauses: what the slice of a merge comes to over the pages of a disk.
use Rattle.std.specs.Prelude.{◌≡◌, ◌≤◌, ◌++◌, ℕ, Bool, true, false, List, [], ◌∷◌, map, Option, None, Some, Result, Ok, Err, IfOk, take}
use Rattle.std.specs.List.{AllByRecursion, sum_by}
use Rattle.std.specs.Option.{option_map}
use Rattle.svr_edge.specs.Causes.{Rose}
use Rattle.svr_edge.specs.Disk.{DiskView, Leaves}
use Rattle.svr_iter.specs.declared.fault.ScanFault.{ScanFault}
use Rattle.svr_iter.specs.declared.fault.ScanFault.TheVariants as scan
use Rattle.svr_pages.specs.Cached.{CachedPages}
use Rattle.svr_pages.specs.Stretch.{ReadsInTurn, with_reads}
use Rattle.svr_postpage.specs.declared.page_ref.PageFault.TheVariants as page
use Rattle.svr_request.specs.declared.refusal.Refusal.TheVariants as refusal
use Rattle.svr_request.specs.declared.reply.Fault.TheVariants as fault
use Rattle.svr_request.specs.declared.reply.Reply.{Reply}
use Rattle.svr_request.specs.declared.reply.Reply.TheVariants.{Accepted, Faulted, Found, Left, Refused}
use Rattle.svr_request.specs.Requests.{Submitted}
use Rattle.svr_core.specs.declared.plan.Entry.{Entry}
use Rattle.svr_core.specs.declared.plan.Step.{Step}
use Rattle.svr_core.specs.declared.plan.Step.TheVariants as step
use Rattle.svr_core.specs.Kept.{CoreValue, ServesAs}
use Rattle.svr_core.specs.Merges.{IsKnown, PlansSlice}
use Rattle.svr_core.specs.Pages.{IsSpelled}
use Rattle.svr_core.specs.Replay.{replayed}
use Rattle.svr_core.specs.Run.{AreSingle, AreSteps, Turn, closes, is_in_doubt, pages_for, reads_of, records_of, state_in_end, state_then}
use Rattle.svr_core.specs.State.{Served, State, settled}
use Rattle.svr_journal.specs.File.{StandsForSome, end_of}
use Rattle.svr_store.specs.Caching.{KeepsPages}
use Rattle.svr_store.specs.Store.{Keeps, KeepsState, Serves, StoreValue}
use Rattle.svr_store.specs.Submitting.{Submits}

-- the reply where a slice couldn't be made
abbrev pub reply_of_fault : ScanFault → Reply
reply_of_fault scan.Memory = Refused refusal.Memory
reply_of_fault (scan.Page page.Read) = Faulted fault.Read
reply_of_fault (scan.Page (page.Damaged at why)) = Faulted (fault.Damaged at)

-- no page is damaged where it is known what stands there
abbrev pub IsNoDamage : Type 0 → ScanFault → Type 0
IsNoDamage known scan.Memory = Unit {0}
IsNoDamage known (scan.Page page.Read) = Unit {0}
IsNoDamage known (scan.Page (page.Damaged at why)) = known → ⊥

abbrev pub IsNoFault : {T : Type 0} → Type 0 → Result T ScanFault → Type 0
IsNoFault known (Ok value) = Unit {0}
IsNoFault known (Err why) = IsNoDamage known why

-- a slice was planned, or why not, and these reads of pages below a place were made for it
pub record PlansNext (core : CoreValue) (most reach : ℕ) (old new : DiskView) (pages kept : CachedPages) (result : Result (Option Entry) ScanFault) : Type 0 where
  pub reads : List ℕ
  pub disk : ReadsInTurn reads old new
  pub keeps : KeepsPages reads pages kept
  pub plans : (s : State) → ServesAs core s.served → reach ≡ end_of s.bodies
      → IfOk result (PlansSlice (option_map (take reach) old.content) core s most)
  pub sound : (s : Served) → ServesAs core s → IsNoFault (IsKnown (option_map (take reach) old.content) s) result
  pub needed : (s : Served) → ServesAs core s → IsKnown (option_map (take reach) old.content) s
      → (weight : ℕ → ℕ) → sum_by weight reads ≤ sum_by weight (map (λ page. page.at) (pages_for s (step.Slice most)))
  pub read : result ≡ Err (scan.Page page.Read) → Rose old.read_faults new.read_faults

-- ---- steps

-- the same but for the merge that is begun
pub record IsBeside (s next : Served) : Type 0 where
  pub catalog : next.catalog ≡ s.catalog
  pub changes : next.changes ≡ s.changes
  pub listing : next.listed.listing ≡ s.listed.listing

-- a turn that keeps one record or none: what is served is what that gives, and after the begin or slice of a merge the same but for the merge
pub record SubmitsOne (old new : DiskView) (before after : StoreValue) (s : State) (request : Submitted) (reply : Reply) : Type 0 where
  pub submits : Submits old new before after s request reply
  pub exact : closes reply ≡ false → submits.next ≡ (state_then s submits.turn).served
  pub beside : (n : ℕ) → reply ≡ Left n → IsBeside s.served submits.next
  pub one : is_in_doubt reply ≡ true → (body : List ℕ) × (submits.turn.added ≡ body ∷ [])

-- the same where no page is read
pub record SubmitsUnread (old new : DiskView) (before after : StoreValue) (s : State) (request : Submitted) (reply : Reply) : Type 0 where
  pub submits : SubmitsOne old new before after s request reply
  pub unread : submits.submits.turn.reads ≡ []

-- a whole merge so far, which goes on with this step
pub record Stepped (opening : State) (part : Step) (start now : DiskView) (cached : CachedPages) (store : StoreValue) : Type 0 where
  pub steps : List Turn
  pub are : AreSteps (Some step.Begin) steps (Some part)
  pub run : AreSingle (KeepsState start opening) opening steps
  pub trace : now.trace ≡ with_reads start.trace (reads_of steps)
  pub caches : KeepsPages (reads_of steps) cached store.pages
  pub spelled : AllByRecursion IsSpelled (records_of steps)
  pub serves : Serves store (state_in_end opening steps)
  pub any_moment : Keeps start opening.bodies → Leaves start now (StandsForSome opening.bodies (records_of steps))
  pub keeps : Keeps start opening.bodies → Keeps now (opening.bodies ++ records_of steps)
  pub lawful : KeepsState start opening → (state_in_end opening steps).served.lawful ≡ true
  pub again : replayed opening.bodies opening.served (records_of steps) ≡ Some (state_in_end opening steps).served
  pub beside : IsBeside opening.served (state_in_end opening steps).served
  pub first : part ≡ step.Begin → steps ≡ []
  pub unmerged : (part ≡ step.Begin → ⊥) → opening.served.listed.merge ≡ None

abbrev pub is_accepted : Reply → Bool
is_accepted (Accepted n) = true
is_accepted (Left n) = true
is_accepted (Found answer) = false
is_accepted (Refused why) = false
is_accepted (Faulted why) = false

-- whether the merge stays behind its last step, which was replied to so: none was begun, or it was published
abbrev pub keeps_merge : Step → Reply → Bool
keeps_merge step.Begin reply = true
keeps_merge (step.Slice most) reply = is_accepted reply
keeps_merge step.Publish reply = is_accepted reply

-- the merge was forgotten
pub record Forgot (old new : StoreValue) : Type 0 where
  pub forgets : (s : Served) → ServesAs old.core s → ServesAs new.core (settled s)
  pub others : new ≡ record old { core = new.core }
