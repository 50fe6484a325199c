-- Lists of turns, and whole merges as lists of steps.
use Rattle.std.proofs.Common.{◌≡◌, ℕ, Bool, true, false, List, [], ◌∷◌, ◌++◌, flat_map, inl, inr, Option}
use Rattle.std.proofs.Common.{None, Some, refl, sym, ap, ◌∙◌, append_assoc, append-nil, subst}
use Rattle.std.specs.Option.{IsSome, option_and_then}
use Rattle.svr_catalog.specs.Catalog.{Catalog}
use Rattle.svr_core.specs.Outcomes.{Outcome, edits, merges, merges_whole, outcome_of, outcome_over, refused, searches}
use Rattle.svr_core.specs.Replay.{after_body, replayed}
use Rattle.svr_core.specs.Run.{AreSingle, AreSteps, ComesSingle, Due, IsForcedBy, IsForcedPlain, IsForcedStep, IsRun, IsSingle, IsTurn, IsTurnBy, Turn}
use Rattle.svr_core.specs.Run.{appends, asks_for, closes, due_of, is_in_doubt, next_step, reads_of, records_of, state_in_end, state_then}
use Rattle.svr_core.specs.State.{Served, State}
use Rattle.svr_core.specs.declared.plan.Step.{Step}
use Rattle.svr_core.specs.declared.plan.Step.TheVariants as step
use Rattle.svr_request.specs.declared.refusal.Refusal.TheVariants as refusal
use Rattle.svr_request.specs.declared.reply.Fault.TheVariants as fault
use Rattle.svr_request.specs.declared.reply.Reply.{Reply}
use Rattle.svr_request.specs.declared.reply.Reply.TheVariants.{Accepted, Left, Found, Refused, Faulted}

-- ---- lists of turns

pub flat_map-more : {X : Type 0} (f : Turn → List X) (ts : List Turn) (t : Turn) → flat_map f (ts ++ t ∷ []) ≡ flat_map f ts ++ f t
flat_map-more f [] t = append-nil (f t)
flat_map-more f (u ∷ ts) t = ap (λ xs. f u ++ xs) (flat_map-more f ts t) ∙ sym (append_assoc (f u) (flat_map f ts) (f t))

pub records_of-more : (ts : List Turn) (t : Turn) → records_of (ts ++ t ∷ []) ≡ records_of ts ++ t.added
records_of-more ts t = flat_map-more (λ t. t.added) ts t

pub reads_of-more : (ts : List Turn) (t : Turn) → reads_of (ts ++ t ∷ []) ≡ reads_of ts ++ t.reads
reads_of-more ts t = flat_map-more (λ t. t.reads) ts t

pub bodies_in_end : (s : State) (ts : List Turn) → (state_in_end s ts).bodies ≡ s.bodies ++ records_of ts
bodies_in_end s [] = sym (append-nil s.bodies)
bodies_in_end s (t ∷ ts) = bodies_in_end (state_then s t) ts ∙ append_assoc s.bodies t.added (records_of ts)

pub state_in_end-more : (s : State) (ts : List Turn) (t : Turn) → state_in_end s (ts ++ t ∷ []) ≡ state_then (state_in_end s ts) t
state_in_end-more s [] t = refl
state_in_end-more s (u ∷ ts) t = state_in_end-more (state_then s u) ts t

-- where the store isn't closed no record is in doubt
pub going_is_sure : (reply : Reply) → closes reply ≡ false → is_in_doubt reply ≡ false
going_is_sure (Accepted n) h = refl
going_is_sure (Left n) h = refl
going_is_sure (Found answer) h = refl
going_is_sure (Refused why) h = refl
going_is_sure (Faulted fault.Read) h = refl
going_is_sure (Faulted (fault.Damaged page)) h = refl
going_is_sure (Faulted fault.Write) h = cc
going_is_sure (Faulted fault.Memory) h = cc

-- ---- steps of a whole merge

pub AreSingle-none : (kept : Type 0) (s : State) → AreSingle kept s []
unfolding AreSingle
AreSingle-none kept s = tt

pub AreSingle-more : (kept : Type 0) (s : State) (ts : List Turn) (t : Turn) → AreSingle kept s ts → IsSingle kept (state_in_end s ts) t
    → AreSingle kept s (ts ++ t ∷ [])
unfolding AreSingle
AreSingle-more kept s [] t run is = (is, tt)
AreSingle-more kept s (u ∷ ts) t run is = (run.0, AreSingle-more kept (state_then s u) ts t run.1 is)

pub AreSteps-none : (part : Option Step) → AreSteps part [] part
unfolding AreSteps
AreSteps-none part = refl

pub AreSteps-more : (first : Option Step) (ts : List Turn) (t : Turn) (part : Step) → AreSteps first ts (Some part) → t.request ≡ asks_for part
    → AreSteps first (ts ++ t ∷ []) (next_step part (appends t.added) t.reply)
unfolding AreSteps
AreSteps-more first [] t part are asked =
    subst (λ (o : Option Step). AreSteps o (t ∷ []) (next_step part (appends t.added) t.reply)) (sym are) (asked, refl)
AreSteps-more None (u ∷ ts) t part are asked = are
AreSteps-more (Some from) (u ∷ ts) t part are asked = (are.0, AreSteps-more (next_step from (appends u.added) u.reply) ts t part are.1 asked)

-- no begin comes behind another step
pub not_begin : (part : Step) (appended : Bool) (reply : Reply) → next_step part appended reply ≡ Some step.Begin → ⊥
not_begin step.Begin appended (Left n) h = cc
not_begin (step.Slice most) true (Left n) h = cc
not_begin (step.Slice most) false (Left n) h = cc
not_begin step.Publish appended (Left n) h = cc
not_begin part appended (Accepted n) h = cc
not_begin part appended (Found answer) h = cc
not_begin part appended (Refused why) h = cc
not_begin part appended (Faulted why) h = cc

-- such a request asks for its step where a catalog is set
pub asks_step : (s : Served) (part : Step) → IsSome s.catalog → outcome_of s (asks_for part) ≡ merges part
unfolding outcome_over
asks_step s part set = by part s.catalog set
  where
    by : (part : Step) (o : Option Catalog) → IsSome o → outcome_over o (asks_for part) ≡ merges part
    by step.Begin (Some c) set = refl
    by (step.Slice most) (Some c) set = refl
    by step.Publish (Some c) set = refl
    by part None set = absurd cc

-- ---- turns by what comes of their requests

pub by_single : (kept : Type 0) (s : State) (t : Turn) (o : Outcome) → ComesSingle o → IsSingle kept s t → IsTurnBy kept s t o
by_single kept s t (refused why) comes is = is
by_single kept s t (searches terms m k) comes is = is
by_single kept s t (edits e entry) comes is = is
by_single kept s t (merges part) comes is = is
by_single kept s t merges_whole comes is = absurd comes

-- the turn of a step
pub single_of : (kept : Type 0) (s : State) (t : Turn) (part : Step) → outcome_of s.served t.request ≡ merges part → IsTurn kept s t → IsSingle kept s t
single_of kept s t part is turn = subst (IsTurnBy kept s t) is turn

-- ---- what is said where less is known

module _ (kept more : Type 0) (knows : more → kept) where
  forced_plain : (reply : Reply) (due : Due) (added : List (List ℕ)) → IsForcedPlain kept reply due added → IsForcedPlain more reply due added
  forced_plain (Refused refusal.Memory) due added h = h
  forced_plain (Faulted fault.Write) due added h = h
  forced_plain (Faulted fault.Memory) due added h = h
  forced_plain (Faulted fault.Read) due added h = h
  forced_plain (Faulted (fault.Damaged page)) due added h = ((λ known. h.0 (knows known)), h.1)
  forced_plain (Found answer) due added h = ((λ known. h.0 (knows known)), h.1)
  forced_plain _ due added h = absurd h

  forced_step : (s : Step) (reply : Reply) (due : Due) (added : List (List ℕ)) → IsForcedStep kept s reply due added → IsForcedStep more s reply due added
  forced_step s (Refused refusal.Memory) due added h = h
  forced_step s (Faulted fault.Read) due added h = h
  forced_step s (Faulted (fault.Damaged page)) due added h = ((λ known. h.0 (knows known)), h.1)
  forced_step s (Faulted fault.Write) due added h = ((λ known. h.0 (knows known)), h.1)
  forced_step s (Faulted fault.Memory) due added h = ((λ known. h.0 (knows known)), h.1)
  forced_step s (Accepted n) due added h = ((λ known. h.0 (knows known)), h.1)
  forced_step s (Left n) due added h = ((λ known. h.0 (knows known)), h.1)
  forced_step s (Refused refusal.MergeUnbuilt) due added h = ((λ known. h.0 (knows known)), h.1)
  forced_step s (Refused refusal.JournalFull) due added h = ((λ known. h.0 (knows known)), h.1)
  forced_step s _ due added h = absurd h

  forced_by : (o : Outcome) (reply : Reply) (due : Due) (added : List (List ℕ)) → IsForcedBy kept o reply due added → IsForcedBy more o reply due added
  forced_by (merges s) reply due added h = forced_step s reply due added h
  forced_by merges_whole reply due added h = forced_step step.Begin reply due added h
  forced_by (refused why) reply due added h = forced_plain reply due added h
  forced_by (searches terms m k) reply due added h = forced_plain reply due added h
  forced_by (edits e entry) reply due added h = forced_plain reply due added h

  pub IsSingle-by : (s : State) (t : Turn) → IsSingle kept s t → IsSingle more s t
  IsSingle-by s t is = record {
    came = elim is.came [ inl due ↦ inl due | inr forced ↦ inr (forced_by (outcome_of s.served t.request) t.reply (due_of s t.request) t.added forced) ];
    reads = λ known. is.reads (knows known);
  }

  AreSingle-by : (s : State) (ts : List Turn) → AreSingle kept s ts → AreSingle more s ts
  unfolding AreSingle
  AreSingle-by s [] run = tt
  AreSingle-by s (t ∷ ts) run = (IsSingle-by s t run.0, AreSingle-by (state_then s t) ts run.1)

  turn_by : (s : State) (t : Turn) (o : Outcome) → IsTurnBy kept s t o → IsTurnBy more s t o
  turn_by s t (refused why) is = IsSingle-by s t is
  turn_by s t (searches terms m k) is = IsSingle-by s t is
  turn_by s t (edits e entry) is = IsSingle-by s t is
  turn_by s t (merges part) is = IsSingle-by s t is
  turn_by s t merges_whole is = record {
    steps = is.steps;
    last = is.last;
    are = is.are;
    run = AreSingle-by s (is.steps ++ is.last ∷ []) is.run;
    reply = is.reply;
    added = is.added;
    reads = is.reads;
  }

  pub IsTurn-by : (s : State) (t : Turn) → IsTurn kept s t → IsTurn more s t
  IsTurn-by s t is = turn_by s t (outcome_of s.served t.request) is

  pub IsRun-by : (s : State) (ts : List Turn) → IsRun kept s ts → IsRun more s ts
  unfolding IsRun
  IsRun-by s [] run = tt
  IsRun-by s (t ∷ ts) run = (IsTurn-by s t run.0, run.1, IsRun-by (state_then s t) ts run.2)

-- ---- records that are read again

-- the first of records that are accepted are accepted, and the others behind them
by_first : (o : Option Served) (f : Served → Option Served) (x : Served) → option_and_then f o ≡ Some x
    → (y : Served) × (o ≡ Some y) × (f y ≡ Some x)
by_first None f x h = cc
by_first (Some y) f x h = (y, refl, h)

pub replayed-first : (before : List (List ℕ)) (s x : Served) (first others : List (List ℕ)) → replayed before s (first ++ others) ≡ Some x
    → (y : Served) × (replayed before s first ≡ Some y) × (replayed (before ++ first) y others ≡ Some x)
unfolding replayed
replayed-first before s x [] others h =
    (s, refl, subst (λ (bs : List (List ℕ)). replayed bs s others ≡ Some x) (sym (append-nil before)) h)
replayed-first before s x (body ∷ first) others h =
    let on = before ++ body ∷ [] in
    let p = by_first (after_body before s body) (λ next. replayed on next (first ++ others)) x h in
    let q = replayed-first on p.0 x first others p.2 in (
      q.0,
      subst (λ (o : Option Served). option_and_then (λ next. replayed on next first) o ≡ Some q.0) (sym p.1) q.1,
      subst (λ (bs : List (List ℕ)). replayed bs q.0 others ≡ Some x) (append_assoc before (body ∷ []) first) q.2,
    )

pub replayed-append : (before : List (List ℕ)) (s y x : Served) (first others : List (List ℕ)) → replayed before s first ≡ Some y
    → replayed (before ++ first) y others ≡ Some x → replayed before s (first ++ others) ≡ Some x
unfolding replayed
replayed-append before s y x [] others p q =
    let same : s ≡ y = cc in
    rw same (subst (λ (bs : List (List ℕ)). replayed bs y others ≡ Some x) (append-nil before) q)
replayed-append before s y x (body ∷ first) others p q =
    let on = before ++ body ∷ [] in
    let r = by_first (after_body before s body) (λ next. replayed on next first) y p in
    subst (λ (o : Option Served). option_and_then (λ next. replayed on next (first ++ others)) o ≡ Some x) (sym r.1)
    (replayed-append on r.0 y x first others r.2
    (subst (λ (bs : List (List ℕ)). replayed bs y others ≡ Some x) (sym (append_assoc before (body ∷ []) first)) q))
