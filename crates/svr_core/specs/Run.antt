-- Turns: requests with their replies and the records that they append, one after the other.
use Rattle.std.specs.Prelude.{◌≡◌, ◌⊎◌, ℕ, ◌+◌, ◌-◌, ◌^◌, ◌==◌, min, Bool, true, false, ⊤, List, [], ◌∷◌, ◌++◌, drop, flat_map, length, map, nat_le, take}
use Rattle.std.specs.Prelude.{◌≤◌, if◌then◌else◌, Ok, Option, None, Some, unwrap_or}
use Rattle.std.specs.List.{sum_by}
use Rattle.svr_listing.specs.Listing.{Listing, documents_of, is_effective, needed, refs_of, score_in}
use Rattle.svr_listing.specs.Merges.{Merge, terms_left}
use Rattle.svr_lists.specs.Slices.{slice_of}
use Rattle.svr_lists.specs.declared.slice.Slice.{Slice}
use Rattle.svr_num.specs.declared.mode.Mode.{Mode}
use Rattle.svr_postpage.specs.declared.page_ref.PageRef.{PageRef}
use Rattle.svr_journal.specs.File.{end_of}
use Rattle.svr_record.specs.Bodies.{body_of}
use Rattle.svr_record.specs.declared.record.Record.{Record}
use Rattle.svr_record.specs.declared.record.Record.TheVariants as entry
use Rattle.svr_request.specs.declared.refusal.Refusal.TheVariants as refusal
use Rattle.svr_request.specs.declared.reply.Fault.TheVariants as fault
use Rattle.svr_request.specs.declared.reply.Reply.{Reply}
use Rattle.svr_request.specs.declared.reply.Reply.TheVariants.{Accepted, Faulted, Found, Left, Refused}
use Rattle.svr_request.specs.Replies.{text_of}
use Rattle.svr_request.specs.Requests.{Submitted, merge_begin, merge_publish, merge_slice}
use Rattle.svr_topk.specs.declared.search.Answer.{Answer}
use Rattle.svr_core.specs.Answers.{answer_in}
use Rattle.svr_core.specs.Edits.{served_with}
use Rattle.svr_core.specs.Outcomes.{Outcome, edits, merges, merges_whole, outcome_of, refused, searches}
use Rattle.svr_core.specs.Replay.{is_merging, pages_place, replayed}
use Rattle.svr_core.specs.State.{Served, State}
use Rattle.svr_core.specs.declared.plan.Edit.{Edit}
use Rattle.svr_core.specs.declared.plan.Edit.TheVariants as edit
use Rattle.svr_core.specs.declared.plan.Step.{Step}
use Rattle.svr_core.specs.declared.plan.Step.TheVariants as step

-- all that is said of one turn
pub record Turn : Type 0 where
  pub request : Submitted
  pub reply : Reply
  -- the bodies of the records that it appends, one whose write failed last
  pub added : List (List ℕ)
  -- the addresses of the pages that are read for it
  pub reads : List ℕ

-- ---- what is due to a request

-- its reply, and the bodies of the records that it appends
pub record Due : Type 0 where
  pub reply : Reply
  pub added : List (List ℕ)

-- nothing is appended
abbrev pub answer_due : Reply → Due
answer_due reply = record { reply = reply; added = [] }

-- a journal of at most 2^40 bytes has room for a record behind those that it has
abbrev pub has_room : List (List ℕ) → List ℕ → Bool
has_room bodies body = nat_le (end_of bodies + 6 + length body) (2 ^ 40)

-- how many terms the merge has left, of which a reply tells 2^64 - 1 at most
abbrev pub left_in : Listing → Option Merge → ℕ
left_in l None = 0
left_in l (Some m) = min (length (terms_left l m)) (2 ^ 64 - 1)

abbrev pub terms_reply : Served → Reply
terms_reply s = Left (left_in s.listed.listing s.listed.merge)

-- the reply to an edit, by what is served after it: a change by its number, a begin or slice by how many terms are left
abbrev pub reply_to : Served → Edit → Reply
reply_to s edit.Begin = terms_reply s
reply_to s (edit.Slice terms pages at) = terms_reply s
reply_to s (edit.Schema _) = Accepted s.changes
reply_to s (edit.Change change) = Accepted s.changes
reply_to s (edit.Load at rows) = Accepted s.changes
reply_to s edit.Publish = Accepted s.changes

-- an edit is made, and its record appended, if there is room
abbrev pub edit_due : State → Edit → Record → Due
edit_due s e kept =
    if has_room s.bodies (body_of kept)
    then record { reply = reply_to (served_with s.served e) e; added = body_of kept ∷ [] }
    else answer_due (Refused refusal.JournalFull)

-- one merge at a time
abbrev pub begin_due : State → Due
begin_due s = if is_merging s.served then answer_due (Refused refusal.Merging) else edit_due s edit.Begin entry.Begin

-- a slice without a term is no record
abbrev pub unless_empty : State → Slice → Due
unless_empty s slice =
    if length slice.terms == 0 then answer_due (terms_reply s.served)
    else edit_due s (edit.Slice slice.terms slice.pages (pages_place s.bodies slice.terms slice.pages)) (entry.Slice slice.terms slice.pages)

-- the next slice of a merge; a record has 1,000 terms at most
abbrev pub next_slice : Listing → Merge → ℕ → Slice
next_slice l m most = slice_of (is_effective l) l m (min most 1000)

abbrev pub slice_due : State → ℕ → Option Merge → Due
slice_due s most None = answer_due (Refused refusal.NoMerge)
slice_due s most (Some m) = unless_empty s (next_slice s.served.listed.listing m most)

abbrev pub publish_due : State → Option Merge → Due
publish_due s None = answer_due (Refused refusal.NoMerge)
publish_due s (Some m) =
    if length (terms_left s.served.listed.listing m) == 0 then edit_due s edit.Publish entry.Publish
    else answer_due (Refused refusal.MergeUnbuilt)

-- a step of a merge
abbrev pub step_due : State → Step → Due
step_due s step.Begin = begin_due s
step_due s (step.Slice most) = slice_due s most s.served.listed.merge
step_due s step.Publish = publish_due s s.served.listed.merge

-- of a whole merge, what its first step is due
abbrev pub due_by : State → Outcome → Due
due_by s (refused why) = answer_due (Refused why)
due_by s (searches terms m k) = answer_due (Found (answer_in s.served terms m k))
due_by s (edits e kept) = edit_due s e kept
due_by s (merges part) = step_due s part
due_by s merges_whole = begin_due s

-- the first refusal that holds, or the reply and the record
abbrev pub due_of : State → Submitted → Due
due_of s request = due_by s (outcome_of s.served request)

abbrev pub IsDue : Due → Reply → List (List ℕ) → Type 0
IsDue due reply added = (reply ≡ due.reply) × (added ≡ due.added)

-- ---- a turn that came out otherwise, for a cause outside

-- a change or a step of a merge that is accepted
abbrev pub IsAccepted : Reply → Type 0
IsAccepted (Accepted n) = ⊤
IsAccepted (Left n) = ⊤
IsAccepted _ = ⊥

-- the turn would have been accepted, and its record may be there or not
pub record IsBroken (due : Due) (appended : List (List ℕ)) : Type 0 where
  pub accepted : IsAccepted due.reply
  pub added : appended ≡ due.added

-- an answer is due, to a search
pub record IsUnanswered (due : Due) (appended : List (List ℕ)) : Type 0 where
  pub answer : Answer
  pub found : due.reply ≡ Found answer
  pub added : appended ≡ []

-- memory was wanting, and nothing has changed; or a change that is accepted couldn't be written, or couldn't be made once it was; or
-- a page of a search couldn't be read. Where the disk isn't known to keep the records, its pages may be any: then a search may come to
-- a damaged one, or be answered by what stands there; where it is known, a search that is answered has the answer due
abbrev pub IsForcedPlain : Type 0 → Reply → Due → List (List ℕ) → Type 0
IsForcedPlain kept (Refused refusal.Memory) due added = added ≡ []
IsForcedPlain kept (Faulted fault.Write) due added = IsBroken due added
IsForcedPlain kept (Faulted fault.Memory) due added = IsBroken due added
IsForcedPlain kept (Faulted fault.Read) due added = IsUnanswered due added
IsForcedPlain kept (Faulted (fault.Damaged page)) due added = (kept → ⊥) × IsUnanswered due added
IsForcedPlain kept (Found answer) due added = (kept → IsDue due (Found answer) added) × IsUnanswered due added
IsForcedPlain kept _ due added = ⊥

-- what a step of a merge may come to that isn't refused because a merge is begun, or none is
abbrev pub IsOfMerge : Reply → Type 0
IsOfMerge (Accepted n) = ⊤
IsOfMerge (Left n) = ⊤
IsOfMerge (Refused refusal.MergeUnbuilt) = ⊤
IsOfMerge (Refused refusal.JournalFull) = ⊤
IsOfMerge _ = ⊥

abbrev pub IsSliceStep : Step → Type 0
IsSliceStep (step.Slice most) = ⊤
IsSliceStep step.Begin = ⊥
IsSliceStep step.Publish = ⊥

-- a page of a slice couldn't be read
pub record IsUnsliced (s : Step) (due : Due) (appended : List (List ℕ)) : Type 0 where
  pub slices : IsSliceStep s
  pub of_merge : IsOfMerge due.reply
  pub added : appended ≡ []

-- the same of a step of a merge: where the disk isn't known to keep the records, or a slice among them wasn't the next one, the terms and
-- pages of the merge may be any
abbrev pub IsForcedStep : Type 0 → Step → Reply → Due → List (List ℕ) → Type 0
IsForcedStep kept s (Refused refusal.Memory) due added = added ≡ []
IsForcedStep kept s (Faulted fault.Read) due added = IsUnsliced s due added
IsForcedStep kept s (Faulted (fault.Damaged page)) due added = (kept → ⊥) × IsUnsliced s due added
IsForcedStep kept s (Faulted fault.Write) due added = (kept → IsBroken due added) × IsOfMerge due.reply
IsForcedStep kept s (Faulted fault.Memory) due added = (kept → IsBroken due added) × IsOfMerge due.reply
IsForcedStep kept s (Accepted n) due added = (kept → IsDue due (Accepted n) added) × IsOfMerge due.reply
IsForcedStep kept s (Left n) due added = (kept → IsDue due (Left n) added) × IsOfMerge due.reply
IsForcedStep kept s (Refused refusal.MergeUnbuilt) due added = (kept → IsDue due (Refused refusal.MergeUnbuilt) added) × IsOfMerge due.reply
IsForcedStep kept s (Refused refusal.JournalFull) due added = (kept → IsDue due (Refused refusal.JournalFull) added) × IsOfMerge due.reply
IsForcedStep kept s _ due added = ⊥

abbrev pub IsForcedBy : Type 0 → Outcome → Reply → Due → List (List ℕ) → Type 0
IsForcedBy kept (merges s) reply due added = IsForcedStep kept s reply due added
IsForcedBy kept merges_whole reply due added = IsForcedStep kept step.Begin reply due added
IsForcedBy kept (refused why) reply due added = IsForcedPlain kept reply due added
IsForcedBy kept (searches terms m k) reply due added = IsForcedPlain kept reply due added
IsForcedBy kept (edits e entry) reply due added = IsForcedPlain kept reply due added

-- ---- what is read for a turn

-- the pages that a search needs
abbrev pub pages_needed : Listing → List (List ℕ) → Mode → ℕ → List PageRef
pages_needed l terms m k = needed l terms m k (score_in (documents_of l))

-- the posted pages of the terms that a slice takes
abbrev pub pages_sliced : Listing → ℕ → Option Merge → List PageRef
pages_sliced l most None = []
pages_sliced l most (Some m) = refs_of l (map (λ t. t.term) (next_slice l m most).terms)

abbrev pub pages_for : Served → Step → List PageRef
pages_for s (step.Slice most) = pages_sliced s.listed.listing most s.listed.merge
pages_for s step.Begin = []
pages_for s step.Publish = []

-- their addresses
abbrev pub needed_by : Served → Outcome → List ℕ
needed_by s (searches terms m k) = map (λ page. page.at) (pages_needed s.listed.listing terms m k)
needed_by s (merges part) = map (λ page. page.at) (pages_for s part)
needed_by s merges_whole = []
needed_by s (refused why) = []
needed_by s (edits e entry) = []

-- needed pages alone are read, none more often than it is needed, whatever its address weighs
abbrev pub ReadsNeeded : List ℕ → Turn → Type 0
ReadsNeeded places turn = (weight : ℕ → ℕ) → sum_by weight turn.reads ≤ sum_by weight places

-- what a turn other than a whole merge may be in a state, where the disk is known to keep the records and each slice among them was the
-- next one, or not
pub record IsSingle (kept : Type 0) (s : State) (t : Turn) : Type 0 where
  pub came : IsDue (due_of s t.request) t.reply t.added ⊎ IsForcedBy kept (outcome_of s.served t.request) t.reply (due_of s t.request) t.added
  pub reads : kept → ReadsNeeded (needed_by s.served (outcome_of s.served t.request)) t

-- ---- after a turn

-- whether each slice was the next one, also of those that a stopped merge has left
abbrev pub lawful_then : State → List (List ℕ) → Bool
lawful_then s [] = s.served.lawful
lawful_then s (body ∷ added) = (unwrap_or (replayed s.bodies s.served (body ∷ added)) s.served).lawful

-- nothing has changed: records that a stopped merge has left are without effect
abbrev pub unchanged : State → List (List ℕ) → Served
unchanged s added = record { catalog = s.served.catalog; listed = s.served.listed; changes = s.served.changes; lawful = lawful_then s added }

-- what is served after a request that is accepted is what its records give; else nothing has changed
abbrev pub served_then : State → Turn → Reply → Served
served_then s t (Accepted n) = unwrap_or (replayed s.bodies s.served t.added) s.served
served_then s t (Left n) = unwrap_or (replayed s.bodies s.served t.added) s.served
served_then s t (Found answer) = unchanged s t.added
served_then s t (Refused why) = unchanged s t.added
served_then s t (Faulted why) = unchanged s t.added

-- a request, its reply and its records determine the state
abbrev pub state_then : State → Turn → State
state_then s t = record { served = served_then s t t.reply; bodies = s.bodies ++ t.added }

-- nothing can be answered after this reply: a write failed, or what is served couldn't follow its journal
abbrev pub closes : Reply → Bool
closes (Faulted fault.Write) = true
closes (Faulted fault.Memory) = true
closes _ = false

-- the last record of the turn may be missing, and no other
abbrev pub is_in_doubt : Reply → Bool
is_in_doubt (Faulted fault.Write) = true
is_in_doubt _ = false

-- the records that are there after a turn, and the one whose write failed
abbrev pub kept : Turn → List (List ℕ)
kept t = if is_in_doubt t.reply then take (length t.added - 1) t.added else t.added

abbrev pub doubtful : Turn → List (List ℕ)
doubtful t = if is_in_doubt t.reply then drop (length t.added - 1) t.added else []

-- ---- a whole merge

-- the request for a step of a merge
abbrev pub asks_for : Step → Submitted
asks_for step.Begin = record { request = Ok merge_begin; block = [] }
asks_for (step.Slice most) = record { request = Ok (merge_slice most); block = [] }
asks_for step.Publish = record { request = Ok merge_publish; block = [] }

-- records were appended
abbrev pub appends : List (List ℕ) → Bool
appends [] = false
appends (body ∷ added) = true

-- behind a slice with a record comes another one, of 1,000 terms, and behind one without the publish
abbrev pub behind_step : Step → Bool → Option Step
behind_step step.Begin appended = Some (step.Slice 1000)
behind_step (step.Slice most) true = Some (step.Slice 1000)
behind_step (step.Slice most) false = Some step.Publish
behind_step step.Publish appended = None

-- the next step of a whole merge behind one that came out so, with a record or without; none behind a refusal or a fault
abbrev pub next_step : Step → Bool → Reply → Option Step
next_step part appended (Left n) = behind_step part appended
next_step part appended (Accepted n) = None
next_step part appended (Found answer) = None
next_step part appended (Refused why) = None
next_step part appended (Faulted why) = None

-- these turns are steps of a whole merge, from the first one on to the last
unfoldable pub AreSteps : Option Step → List Turn → Option Step → Type 0
AreSteps first [] last = first ≡ last
AreSteps None (t ∷ ts) last = ⊥
AreSteps (Some part) (t ∷ ts) last = (t.request ≡ asks_for part) × AreSteps (next_step part (appends t.added) t.reply) ts last

-- turns in order, from a state on
unfoldable pub AreSingle : Type 0 → State → List Turn → Type 0
AreSingle kept s [] = Unit {0}
AreSingle kept s (t ∷ ts) = IsSingle kept s t × AreSingle kept (state_then s t) ts

-- the bodies of their records
abbrev pub records_of : List Turn → List (List ℕ)
records_of turns = flat_map (λ t. t.added) turns

-- the addresses of the pages that are read for them
abbrev pub reads_of : List Turn → List ℕ
reads_of turns = flat_map (λ t. t.reads) turns

-- a whole merge is made in steps, from its begin on as far as they come; it is answered by the reply to the last one
pub record IsWhole (kept : Type 0) (s : State) (t : Turn) : Type 0 where
  pub steps : List Turn
  pub last : Turn
  pub are : AreSteps (Some step.Begin) (steps ++ last ∷ []) None
  pub run : AreSingle kept s (steps ++ last ∷ [])
  pub reply : t.reply ≡ last.reply
  pub added : t.added ≡ records_of (steps ++ last ∷ [])
  pub reads : t.reads ≡ reads_of (steps ++ last ∷ [])

-- what comes of a request isn't a whole merge
abbrev pub ComesSingle : Outcome → Type 0
ComesSingle merges_whole = ⊥
ComesSingle (refused why) = ⊤
ComesSingle (searches terms m k) = ⊤
ComesSingle (edits e entry) = ⊤
ComesSingle (merges part) = ⊤

-- what a turn may be, by what comes of its request
abbrev pub IsTurnBy : Type 0 → State → Turn → Outcome → Type 0
IsTurnBy kept s t merges_whole = IsWhole kept s t
IsTurnBy kept s t (refused why) = IsSingle kept s t
IsTurnBy kept s t (searches terms m k) = IsSingle kept s t
IsTurnBy kept s t (edits e entry) = IsSingle kept s t
IsTurnBy kept s t (merges part) = IsSingle kept s t

abbrev pub IsTurn : Type 0 → State → Turn → Type 0
IsTurn kept s t = IsTurnBy kept s t (outcome_of s.served t.request)

-- ---- many turns

-- these turns, in order, from a state on; none comes behind a reply that closes
unfoldable pub IsRun : Type 0 → State → List Turn → Type 0
IsRun kept s [] = Unit {0}
IsRun kept s (t ∷ ts) = IsTurn kept s t × (closes t.reply ≡ true → ts ≡ []) × IsRun kept (state_then s t) ts

-- the state after all of them
abbrev pub state_in_end : State → List Turn → State
state_in_end s [] = s
state_in_end s (t ∷ ts) = state_in_end (state_then s t) ts

-- the lines of replies
abbrev pub texts : List Reply → List ℕ
texts replies = flat_map text_of replies
