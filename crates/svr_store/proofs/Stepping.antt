-- A whole merge, one step after the other.
use Rattle.std.proofs.Common.{◌≡◌, ◌≤◌, ◌<◌, ◌+◌, ◌-◌, ◌^◌, ◌⊎◌, ℕ, Bool, true, false, inl, inr, List, [], ◌∷◌, ◌++◌, length, take, drop, nat_lt, Option, None, Some, unwrap_or}
use Rattle.std.proofs.Common.{refl, sym, ap, ap₂, subst, ◌∙◌, arith, append-nil, append_assoc, length-append}
use Rattle.std.proofs.Math.Seq.{drop-append_seam, take-append_seam}
use Rattle.std.proofs.lemmas.Bool.{false≢true}
use Rattle.std.proofs.lemmas.Bool.Decides.{nat_tests}
use Rattle.std.proofs.lemmas.Grind.{flat_map-append}
use Rattle.std.specs.Option.{IsSome}
use Rattle.std.specs.List.{AllByRecursion, flat_map}
use Rattle.svr_catalog.specs.Catalog.{Catalog}
use Rattle.svr_edge.specs.Disk.{DiskView, IsImage, Leaves}
use Rattle.svr_edge.proofs.CausesLemmas.{Rose-earlier}
use Rattle.svr_edge.proofs.DiskLemmas.{Leaves-refl, Leaves-trans}
use Rattle.svr_journal.specs.File.{StandsForSome, end_of, front, magic, open_record}
use Rattle.svr_listing.specs.Merges.{Merge}
use Rattle.svr_listing.specs.Served as listing
use Rattle.svr_pages.specs.Stretch.{IsCached, with_reads}
use Rattle.svr_pages.proofs.Stretching.{with_reads-append, with_reads-none}
use Rattle.svr_request.specs.declared.refusal.Refusal.TheVariants as refusal
use Rattle.svr_request.specs.declared.reply.Reply.{Reply}
use Rattle.svr_request.specs.declared.reply.Reply.TheVariants.{Accepted, Faulted, Found, Left, Refused}
use Rattle.svr_request.specs.Requests.{Submitted}
use Rattle.svr_core.specs.declared.plan.Step.{Step}
use Rattle.svr_core.specs.declared.plan.Step.TheVariants as step
use Rattle.svr_core.specs.Outcomes.{Outcome, merges, merges_whole, outcome_of}
use Rattle.svr_core.specs.Kept.{ServesAs}
use Rattle.svr_core.specs.Pages.{HavePages, IsSpelled}
use Rattle.svr_core.specs.Replay.{replayed}
use Rattle.svr_core.specs.Run.{AreSingle, AreSteps, Due, IsDue, IsForcedBy, IsForcedStep, IsOfMerge, IsSingle, IsTurn, IsTurnBy, Turn, answer_due, appends, asks_for, closes, doubtful, due_by}
use Rattle.svr_core.specs.Run.{behind_step, is_in_doubt, kept, lawful_then, next_step, reads_of, records_of, served_then, state_in_end, state_then, step_due, unchanged}
use Rattle.svr_core.specs.State.{IsWithMerge, Served, State, settled}
use Rattle.svr_core.proofs.Reading.{reads-whole}
use Rattle.svr_core.proofs.Replayed.{replayed-none}
use Rattle.svr_core.proofs.Runs.{AreSingle-more, AreSingle-none, AreSteps-more, AreSteps-none, IsSingle-by, asks_step, bodies_in_end, going_is_sure, not_begin}
use Rattle.svr_core.proofs.Runs.{reads_of-more, records_of-more, replayed-append, single_of, state_in_end-more}
use Rattle.svr_store.specs.Caching.{KeepsPages}
use Rattle.svr_store.specs.Merging.{Forgot, IsBeside, Stepped, SubmitsOne, is_accepted, keeps_merge}
use Rattle.svr_store.specs.Store.{Keeps, KeepsState, Serves, StoreValue}
use Rattle.svr_store.specs.Submitting.{SubmitCauses, Submits}
use Rattle.svr_core.proofs.Standing.{all_append, pages-settled}
use Rattle.svr_store.proofs.Caching.{keeps-none, keeps-on}
use Rattle.svr_store.proofs.Kept.{some_behind, some_more}

-- ---- places

front-append : (bodies more : List (List ℕ)) → front (bodies ++ more) ≡ front bodies ++ flat_map open_record more
front-append bodies more = ap (λ (xs : List ℕ). magic ++ xs) (flat_map-append open_record bodies more)
    ∙ sym (append_assoc magic (flat_map open_record bodies) (flat_map open_record more))

-- a place is behind another one where records were appended
pub appends-ends : (bodies added : List (List ℕ)) → nat_lt (end_of bodies) (end_of (bodies ++ added)) ≡ appends added
appends-ends bodies [] =
    let same : end_of (bodies ++ []) ≡ end_of bodies = ap end_of (append-nil bodies) in
    grind (arith, nat_tests, same)
appends-ends bodies (body ∷ added) =
    let more = flat_map open_record (body ∷ added) in
    let longer : end_of (bodies ++ body ∷ added) ≡ end_of bodies + length more =
    ap length (front-append bodies (body ∷ added)) ∙ length-append (front bodies) more in
    let some : 0 < length more = omega arith in
    grind (arith, nat_tests, longer, some)

-- ---- the last record

-- where the write of the last record failed the others are there
last_in_doubt : (t : Turn) (front : List (List ℕ)) (body : List ℕ) → is_in_doubt t.reply ≡ true → t.added ≡ front ++ body ∷ []
    → (kept t ≡ front) × (doubtful t ≡ body ∷ [])
last_in_doubt t front body doubt is =
    let place : length (front ++ body ∷ []) - 1 ≡ length front = omega (arith, length-append front (body ∷ [])) in (
      (rw (doubt, is) (ap (λ (n : ℕ). take n (front ++ body ∷ [])) place ∙ take-append_seam front (body ∷ []))),
      (rw (doubt, is) (ap (λ (n : ℕ). drop n (front ++ body ∷ [])) place ∙ drop-append_seam front (body ∷ []))),
    )

-- ---- whether each slice was the next one

lawful_then-is : (s : State) (added : List (List ℕ)) (next : Served) → replayed s.bodies s.served added ≡ Some next → lawful_then s added ≡ next.lawful
lawful_then-is s [] next is =
    let same : Some s.served ≡ Some next = sym (replayed-none s.bodies s.served) ∙ is in
    ap (λ (o : Option Served). (unwrap_or o s.served).lawful) same
lawful_then-is s (body ∷ added) next is = ap (λ (o : Option Served). (unwrap_or o s.served).lawful) is

-- what is served without the merge, where none was begun before
settled_beside : (s r : Served) → IsBeside s r → s.listed.merge ≡ None → (b : Bool) → r.lawful ≡ b
    → settled r ≡ record { catalog = s.catalog; listed = s.listed; changes = s.changes; lawful = b }
settled_beside s r beside none b lawful =
    let listed : listing.after r.listed listing.merge_forgotten ≡ s.listed =
    ap (λ (l : _). let v : listing.Served = record { listing = l; merge = None } in v) beside.listing
    ∙ ap (λ (m : Option Merge). let v : listing.Served = record { listing = s.listed.listing; merge = m } in v) (sym none) in
    rw (beside.catalog, beside.changes, lawful, listed) refl

-- ---- a begin that was accepted

begin_merging : (s : State) (m : Merge) → s.served.listed.merge ≡ Some m → step_due s step.Begin ≡ answer_due (Refused refusal.Merging)
begin_merging s m is = rw is refl

not_left : (known : Type 0) (s : State) (m : Merge) (n : ℕ) (added : List (List ℕ)) → s.served.listed.merge ≡ Some m
    → IsDue (step_due s step.Begin) (Left n) added ⊎ IsForcedStep known step.Begin (Left n) (step_due s step.Begin) added → ⊥
not_left known s m n added is came =
    let refused : (step_due s step.Begin).reply ≡ Refused refusal.Merging = ap (λ (d : Due). d.reply) (begin_merging s m is) in
    elim came [
      | inl due ↦ (let e : Left n ≡ Refused refusal.Merging = due.0 ∙ refused in cc)
      | inr forced ↦ subst IsOfMerge refused forced.1
    ]

-- where a begin was accepted no merge was begun before
begin_unmerged : (known : Type 0) (s : State) (n : ℕ) (added : List (List ℕ))
    → IsDue (step_due s step.Begin) (Left n) added ⊎ IsForcedStep known step.Begin (Left n) (step_due s step.Begin) added
    → s.served.listed.merge ≡ None
begin_unmerged known s n added came = by s.served.listed.merge refl
  where
    by : (o : Option Merge) → s.served.listed.merge ≡ o → o ≡ None
    by None is = refl
    by (Some m) is = absurd (not_left known s m n added is came)

-- a step goes on behind the reply of one that was accepted alone
pub left_of : (part : Step) (appended : Bool) (reply : Reply) (next : Step) → next_step part appended reply ≡ Some next → (n : ℕ) × (reply ≡ Left n)
left_of part appended (Left n) next h = (n, refl)
left_of part appended (Accepted n) next h = absurd (let e : None ≡ Some next = h in cc)
left_of part appended (Found answer) next h = absurd (let e : None ≡ Some next = h in cc)
left_of part appended (Refused why) next h = absurd (let e : None ≡ Some next = h in cc)
left_of part appended (Faulted why) next h = absurd (let e : None ≡ Some next = h in cc)

none_by : (part : Step) (b c : Bool) (reply : Reply) → (closes reply ≡ false → b ≡ c) → next_step part b reply ≡ None → next_step part c reply ≡ None
none_by part b c (Left n) same none = ap (behind_step part) (sym (same refl)) ∙ none
none_by part b c (Accepted n) same none = refl
none_by part b c (Found answer) same none = refl
none_by part b c (Refused why) same none = refl
none_by part b c (Faulted why) same none = refl

-- ---- a reply that isn't that of an accepted step

accepted_is : (s : State) (u : Turn) (reply : Reply) → is_accepted reply ≡ true
    → served_then s u reply ≡ unwrap_or (replayed s.bodies s.served u.added) s.served
accepted_is s u (Accepted n) is = refl
accepted_is s u (Left n) is = refl
accepted_is s u (Found answer) is = absurd (let e : false ≡ true = is in cc)
accepted_is s u (Refused why) is = absurd (let e : false ≡ true = is in cc)
accepted_is s u (Faulted why) is = absurd (let e : false ≡ true = is in cc)

unaccepted_is : (s : State) (u : Turn) (reply : Reply) → is_accepted reply ≡ false → served_then s u reply ≡ unchanged s u.added
unaccepted_is s u (Accepted n) is = absurd (let e : true ≡ false = is in cc)
unaccepted_is s u (Left n) is = absurd (let e : true ≡ false = is in cc)
unaccepted_is s u (Found answer) is = refl
unaccepted_is s u (Refused why) is = refl
unaccepted_is s u (Faulted why) is = refl

pub Stepped-start : (opening : State) (start : DiskView) (store : StoreValue) → Serves store opening
    → Stepped opening step.Begin start start store.pages store
Stepped-start opening start store serves = record {
  steps = [];
  are = AreSteps-none (Some step.Begin);
  run = AreSingle-none (KeepsState start opening) opening;
  trace = sym (with_reads-none start.trace);
  caches = keeps-none store.pages;
  spelled = tt;
  serves = serves;
  any_moment = λ keeps. Leaves-refl start (StandsForSome opening.bodies []);
  keeps = λ keeps. subst (λ (bs : List (List ℕ)). Keeps start bs) (sym (append-nil opening.bodies)) keeps;
  lawful = λ kept. kept.lawful;
  again = replayed-none opening.bodies opening.served;
  beside = record { catalog = refl; changes = refl; listing = refl };
  first = λ begin. refl;
  unmerged = λ not. absurd (not refl);
}

module _ (opening : State) (set : IsSome opening.served.catalog) (part : Step) (start old new : DiskView) (first store then : StoreValue)
    (k : Stepped opening part start old first.pages store) (reply : Reply)
    (it : SubmitsOne old new store then (state_in_end opening k.steps) (asks_for part) reply) where
  abbrev state : State
  state = state_in_end opening k.steps

  abbrev t : Turn
  t = it.submits.turn

  abbrev all : List Turn
  all = k.steps ++ t ∷ []

  outcome : outcome_of state.served t.request ≡ merges part
  outcome = ap (outcome_of state.served) it.submits.asked
      ∙ asks_step state.served part (subst (λ (o : Option Catalog). IsSome o) (sym k.beside.catalog) set)

  before : state.bodies ≡ opening.bodies ++ records_of k.steps
  before = bodies_in_end opening k.steps

  keeps_before : Keeps start opening.bodies → Keeps old state.bodies
  keeps_before keeps = subst (λ (bs : List (List ℕ)). Keeps old bs) (sym before) (k.keeps keeps)

  kept_before : KeepsState start opening → KeepsState old state
  kept_before kept = record { keeps = keeps_before kept.keeps; lawful = k.lawful kept }

  single : IsSingle (KeepsState start opening) state t
  single = IsSingle-by (KeepsState old state) (KeepsState start opening) kept_before state t
      (single_of (KeepsState old state) state t part outcome it.submits.is)

  are_more : AreSteps (Some step.Begin) all (next_step part (appends t.added) reply)
  are_more = subst (λ (r : Reply). AreSteps (Some step.Begin) all (next_step part (appends t.added) r)) it.submits.told
      (AreSteps-more (Some step.Begin) k.steps t part k.are it.submits.asked)

  run_more : AreSingle (KeepsState start opening) opening all
  run_more = AreSingle-more (KeepsState start opening) opening k.steps t k.run single

  trace_more : new.trace ≡ with_reads start.trace (reads_of all)
  trace_more = it.submits.trace ∙ ap (λ t. with_reads t it.submits.turn.reads) k.trace
      ∙ with_reads-append start.trace (reads_of k.steps) t.reads
      ∙ ap (λ (l : List ℕ). with_reads start.trace l) (sym (reads_of-more k.steps t))

  caches_more : KeepsPages (reads_of all) first.pages then.pages
  caches_more = subst (λ (l : List ℕ). KeepsPages l first.pages then.pages) (sym (reads_of-more k.steps t))
      (keeps-on (reads_of k.steps) t.reads first.pages store.pages then.pages k.caches it.submits.caches.keeps)

  spelled_more : AllByRecursion IsSpelled (records_of all)
  spelled_more = subst (AllByRecursion IsSpelled) (sym (records_of-more k.steps t))
      (all_append IsSpelled (records_of k.steps) t.added k.spelled it.submits.spelled)

  bodies_more : state.bodies ++ t.added ≡ opening.bodies ++ records_of all
  bodies_more = ap (λ (bs : List (List ℕ)). bs ++ t.added) before ∙ append_assoc opening.bodies (records_of k.steps) t.added
      ∙ ap (λ (bs : List (List ℕ)). opening.bodies ++ bs) (sym (records_of-more k.steps t))

  moment_more : Keeps start opening.bodies → Leaves start new (StandsForSome opening.bodies (records_of all))
  moment_more keeps =
      subst (λ (bs : List (List ℕ)). Leaves start new (StandsForSome opening.bodies bs)) (sym (records_of-more k.steps t))
      (Leaves-trans start old new (StandsForSome opening.bodies (records_of k.steps))
      (StandsForSome (opening.bodies ++ records_of k.steps) t.added)
      (StandsForSome opening.bodies (records_of k.steps ++ t.added)) (k.any_moment keeps)
      (subst (λ (bs : List (List ℕ)). Leaves old new (StandsForSome bs t.added)) before (it.submits.any_moment (keeps_before keeps)))
      (some_more opening.bodies (records_of k.steps) t.added) (some_behind opening.bodies (records_of k.steps) t.added))

  keeps_more : Keeps start opening.bodies → is_in_doubt reply ≡ false → Keeps new (opening.bodies ++ records_of all)
  keeps_more keeps sure = subst (λ (bs : List (List ℕ)). Keeps new bs) bodies_more (it.submits.keeps (keeps_before keeps) sure)

  replays_all : replayed opening.bodies opening.served (records_of all) ≡ Some it.submits.next
  replays_all =
      subst (λ (bs : List (List ℕ)). replayed opening.bodies opening.served bs ≡ Some it.submits.next) (sym (records_of-more k.steps t))
      (replayed-append opening.bodies opening.served state.served it.submits.next (records_of k.steps) t.added k.again
      (subst (λ (bs : List (List ℕ)). replayed bs state.served t.added ≡ Some it.submits.next) before it.submits.replays))

  came_is : (p : Step) → part ≡ p → IsDue (step_due state p) reply t.added ⊎ IsForcedStep (KeepsState start opening) p reply (step_due state p) t.added
  came_is p is = subst (λ (r : Reply). IsDue (step_due state p) r t.added ⊎ IsForcedStep (KeepsState start opening) p r (step_due state p) t.added)
      it.submits.told (subst (λ (o : Outcome). IsDue (due_by state o) t.reply t.added ⊎ IsForcedBy (KeepsState start opening) o t.reply (due_by state o) t.added)
      (outcome ∙ ap merges is) single.came)

  at_start : part ≡ step.Begin → state ≡ opening
  at_start is = ap (state_in_end opening) (k.first is)

  -- ---- it goes on

  -- records were appended where the journal has grown
  grown_is : closes reply ≡ false → nat_lt store.end then.end ≡ appends t.added
  grown_is going =
      ap (λ (n : ℕ). nat_lt n then.end) k.serves.end
      ∙ ap (λ (n : ℕ). nat_lt (end_of state.bodies) n) (it.submits.serves going).end
      ∙ appends-ends state.bodies t.added

  Stepped-more : (next : Step) (n : ℕ) → reply ≡ Left n → next_step part (appends t.added) reply ≡ Some next → Stepped opening next start new first.pages then
  Stepped-more next n left goes =
      let going : closes reply ≡ false = ap closes left in
      let same : it.submits.next ≡ (state_in_end opening all).served =
      it.exact going ∙ ap (λ (s : State). s.served) (sym (state_in_end-more opening k.steps t)) in
      let beside = it.beside n left in
      record {
        steps = all;
        are = subst (λ (o : Option Step). AreSteps (Some step.Begin) all o) goes are_more;
        run = run_more;
        trace = trace_more;
        caches = caches_more;
        spelled = spelled_more;
        serves = subst (λ (s : State). Serves then s) (sym (state_in_end-more opening k.steps t)) (it.submits.serves going);
        any_moment = moment_more;
        keeps = λ keeps. keeps_more keeps (going_is_sure reply going);
        lawful = λ kept. ap (λ (v : Served). v.lawful) (sym same) ∙ it.submits.lawful (kept_before kept);
        again = replays_all ∙ ap (λ (v : Served). Some v) same;
        beside = subst (IsBeside opening.served) same (record {
          catalog = beside.catalog ∙ k.beside.catalog;
          changes = beside.changes ∙ k.beside.changes;
          listing = beside.listing ∙ k.beside.listing;
        });
        first = λ begin. absurd (not_begin part (appends t.added) reply (goes ∙ ap (λ (p : Step). Some p) begin));
        unmerged = λ _. unmerged n left;
      }
    where
      unmerged : (n : ℕ) → reply ≡ Left n → opening.served.listed.merge ≡ None
      unmerged n left = by part refl
        where
          by : (p : Step) → part ≡ p → opening.served.listed.merge ≡ None
          by step.Begin is = ap (λ (s : State). s.served.listed.merge) (sym (at_start is))
              ∙ begin_unmerged (KeepsState start opening) state n t.added
              (subst (λ (r : Reply). IsDue (step_due state step.Begin) r t.added ⊎ IsForcedStep (KeepsState start opening) step.Begin r (step_due state step.Begin) t.added)
              left (came_is step.Begin is))
          by (step.Slice most) is = k.unmerged (λ begin. (let e : step.Slice most ≡ step.Begin = sym is ∙ begin in cc))
          by step.Publish is = k.unmerged (λ begin. (let e : step.Publish ≡ step.Begin = sym is ∙ begin in cc))

  -- by what the journal tells
  pub Stepped-on : (next : Step) → next_step part (nat_lt store.end then.end) reply ≡ Some next → Stepped opening next start new first.pages then
  Stepped-on next goes =
      let left = left_of part (nat_lt store.end then.end) reply next goes in
      Stepped-more next left.0 left.1 (ap (λ (b : Bool). next_step part b reply) (sym (grown_is (ap closes left.1))) ∙ goes)

  pub ends_by : next_step part (nat_lt store.end then.end) reply ≡ None → next_step part (appends t.added) reply ≡ None
  ends_by ends = none_by part (nat_lt store.end then.end) (appends t.added) reply grown_is ends

  -- ---- it ends

  module _ (request : Submitted) (whole : outcome_of opening.served request ≡ merges_whole)
      (ends : next_step part (appends t.added) reply ≡ None) where
    abbrev turn : Turn
    turn = record { request = request; reply = reply; added = records_of all; reads = reads_of all }

    is_turn : IsTurn (KeepsState start opening) opening turn
    is_turn = subst (IsTurnBy (KeepsState start opening) opening turn) (sym whole) (record {
      steps = k.steps;
      last = t;
      are = subst (λ (o : Option Step). AreSteps (Some step.Begin) all o) ends are_more;
      run = run_more;
      reply = sym it.submits.told;
      added = refl;
      reads = refl;
    })

    in_doubt : Keeps start opening.bodies → is_in_doubt reply ≡ true → (image : List ℕ) → IsImage new image
        → StandsForSome (opening.bodies ++ kept turn) (doubtful turn) image
    in_doubt keeps doubt image there =
        let one = it.one doubt in
        let last = last_in_doubt t [] one.0 (ap is_in_doubt it.submits.told ∙ doubt) one.1 in
        let whole = last_in_doubt turn (records_of k.steps) one.0 doubt
        (records_of-more k.steps t ∙ ap (λ (bs : List (List ℕ)). records_of k.steps ++ bs) one.1) in
        let stands = it.submits.in_doubt (keeps_before keeps) doubt image there in
        let here : StandsForSome (state.bodies ++ []) (one.0 ∷ []) image =
        subst (λ (bs : List (List ℕ)). StandsForSome (state.bodies ++ bs) (one.0 ∷ []) image) last.0
        (subst (λ (bs : List (List ℕ)). StandsForSome (state.bodies ++ kept t) bs image) last.1 stands) in
        let first : StandsForSome (opening.bodies ++ records_of k.steps) (one.0 ∷ []) image =
        subst (λ (bs : List (List ℕ)). StandsForSome bs (one.0 ∷ []) image) (append-nil state.bodies ∙ before) here in
        subst (λ (bs : List (List ℕ)). StandsForSome (opening.bodies ++ bs) (doubtful turn) image) (sym whole.0)
        (subst (λ (bs : List (List ℕ)). StandsForSome (opening.bodies ++ records_of k.steps) bs image) (sym whole.1) first)

    -- by what is served behind it
    submits : (last : StoreValue) → last.pages ≡ then.pages → (closes reply ≡ false → Serves last (state_then opening turn))
        → (closes reply ≡ false → IsWithMerge it.submits.next (state_then opening turn).served) → Submits start new first last opening request reply
    submits last cached serves same = record {
      turn = turn;
      asked = refl;
      told = refl;
      is = is_turn;
      trace = trace_more;
      caches = record {
        keeps = subst (KeepsPages (reads_of all) first.pages) (sym cached) caches_more;
        search = λ _. reads-whole (λ at. IsCached at first.pages) first.pages.capacity opening turn whole;
      };
      spelled = spelled_more;
      serves = serves;
      next = it.submits.next;
      replays = replays_all;
      same = same;
      lawful = λ kept. it.submits.lawful (kept_before kept);
      any_moment = moment_more;
      keeps = keeps_more;
      in_doubt = in_doubt;
    }

    -- what the last step was replied to is served
    told_then : served_then state t t.reply ≡ served_then state t reply
    told_then = ap (served_then state t) it.submits.told

    lawful_is : lawful_then opening (records_of all) ≡ it.submits.next.lawful
    lawful_is = lawful_then-is opening (records_of all) it.submits.next replays_all

    -- a begin that wasn't accepted is the whole
    begin_is : part ≡ step.Begin → unchanged opening (records_of all) ≡ unchanged state t.added
    begin_is is = by k.steps (k.first is)
      where
        by : (steps : List Turn) → steps ≡ [] → unchanged opening (records_of (steps ++ t ∷ [])) ≡ unchanged (state_in_end opening steps) t.added
        by [] is = ap (unchanged opening) (append-nil t.added)
        by (u ∷ steps) is = absurd (let e : u ∷ steps ≡ [] = is in cc)

    stays_same : keeps_merge part reply ≡ true → closes reply ≡ false → it.submits.next ≡ served_then opening turn reply
    stays_same keeps going = by (is_accepted reply) refl
      where
        by : (b : Bool) → is_accepted reply ≡ b → it.submits.next ≡ served_then opening turn reply
        by true is = sym (accepted_is opening turn reply is ∙ ap (λ (o : Option Served). unwrap_or o opening.served) replays_all)
        by false is = it.exact going ∙ told_then ∙ unaccepted_is state t reply is ∙ sym (begin_is (begins part keeps is)) ∙ sym (unaccepted_is opening turn reply is)
          where
            begins : (p : Step) → keeps_merge p reply ≡ true → is_accepted reply ≡ false → p ≡ step.Begin
            begins step.Begin keeps is = refl
            begins (step.Slice most) keeps is = absurd (false≢true (sym is ∙ keeps))
            begins step.Publish keeps is = absurd (false≢true (sym is ∙ keeps))

    -- the merge stays as its last step has left it
    pub whole_stays : keeps_merge part reply ≡ true → Submits start new first then opening request reply
    whole_stays keeps =
        submits then refl (λ going.
        let same : state_then opening turn ≡ state_then state t =
        ap₂ (λ (v : Served) (bs : List (List ℕ)). record { served = v; bodies = bs })
        (sym (stays_same keeps going) ∙ it.exact going) (sym bodies_more) in
        subst (Serves then) (sym same) (it.submits.serves going))
        (λ going. inr (stays_same keeps going))

    forgotten_is : keeps_merge part reply ≡ false → closes reply ≡ false → settled it.submits.next ≡ served_then opening turn reply
    forgotten_is left going =
        let is = unaccepted part left in
        let x = it.exact going ∙ told_then ∙ unaccepted_is state t reply is in
        settled_beside opening.served it.submits.next (record {
          catalog = ap (λ (v : Served). v.catalog) x ∙ k.beside.catalog;
          changes = ap (λ (v : Served). v.changes) x ∙ k.beside.changes;
          listing = ap (λ (v : Served). v.listed.listing) x ∙ k.beside.listing;
        }) (k.unmerged (not_first part left)) (lawful_then opening (records_of all)) (sym lawful_is) ∙ sym (unaccepted_is opening turn reply is)
      where
        unaccepted : (p : Step) → keeps_merge p reply ≡ false → is_accepted reply ≡ false
        unaccepted step.Begin h = absurd (let e : true ≡ false = h in cc)
        unaccepted (step.Slice most) h = h
        unaccepted step.Publish h = h

        not_first : (p : Step) → keeps_merge p reply ≡ false → p ≡ step.Begin → ⊥
        not_first step.Begin h is = let e : true ≡ false = h in cc
        not_first (step.Slice most) h is = cc
        not_first step.Publish h is = cc

    -- the merge was forgotten
    pub whole_forgotten : keeps_merge part reply ≡ false → (last : StoreValue) → Forgot then last → Submits start new first last opening request reply
    whole_forgotten left last forgot =
        submits last (ap (λ (v : StoreValue). v.pages) forgot.others) (λ going.
        let there = it.submits.serves going in
        let next_there : ServesAs then.core it.submits.next = subst (ServesAs then.core) (sym (it.exact going)) there.serves in
        let same = forgotten_is left going in
        record {
          serves = subst (ServesAs last.core) same (forgot.forgets it.submits.next next_there);
          pages = subst (λ (v : Served). HavePages (opening.bodies ++ records_of all) v.listed) same
              (pages-settled (opening.bodies ++ records_of all) it.submits.next
              (subst (λ (bs : List (List ℕ)). HavePages bs it.submits.next.listed) bodies_more
              (subst (λ (v : Served). HavePages (state.bodies ++ t.added) v.listed) (sym (it.exact going)) there.pages)));
          end = ap (λ (v : StoreValue). v.end) forgot.others ∙ there.end ∙ ap end_of bodies_more;
        })
        (λ going. inl (sym (forgotten_is left going)))

-- ---- how many steps are left, where each slice has a record

abbrev pub steps_left : Step → ℕ
steps_left step.Begin = 2
steps_left (step.Slice most) = 1
steps_left step.Publish = 0

pub fewer-left : (part next : Step) (n old new : ℕ) → next_step part (nat_lt old new) (Left n) ≡ Some next → old ≤ new → (old < new → new ≤ 2 ^ 40)
    → steps_left next + (2 ^ 40 - new) < steps_left part + (2 ^ 40 - old)
fewer-left step.Begin next n old new is later within =
    let same : step.Slice 1000 ≡ next = let e : Some (step.Slice 1000) ≡ Some next = is in cc in
    subst (λ (p : Step). steps_left p + (2 ^ 40 - new) < 2 + (2 ^ 40 - old)) same (omega (arith, later))
fewer-left (step.Slice most) next n old new is later within = by (nat_lt old new) refl
  where
    by : (b : Bool) → nat_lt old new ≡ b → steps_left next + (2 ^ 40 - new) < 1 + (2 ^ 40 - old)
    by true longer =
        let same : step.Slice 1000 ≡ next =
        let e : Some (step.Slice 1000) ≡ Some next = ap (behind_step (step.Slice most)) (sym longer) ∙ is in cc in
        let more : old < new = grind (arith, nat_tests, longer) in
        subst (λ (p : Step). steps_left p + (2 ^ 40 - new) < 1 + (2 ^ 40 - old)) same (omega (arith, more, within more))
    by false longer =
        let same : step.Publish ≡ next =
        let e : Some step.Publish ≡ Some next = ap (behind_step (step.Slice most)) (sym longer) ∙ is in cc in
        subst (λ (p : Step). steps_left p + (2 ^ 40 - new) < 1 + (2 ^ 40 - old)) same (omega (arith, later))
fewer-left step.Publish next n old new is later within = absurd (let e : None ≡ Some next = is in cc)

-- a fault behind steps whose counts have not fallen
pub causes_after : (old mid new : DiskView) (reply : Reply) → old.write_faults ≤ mid.write_faults → old.read_faults ≤ mid.read_faults
    → SubmitCauses mid new reply → SubmitCauses old new reply
causes_after old mid new reply writes reads causes = record {
  write = λ h. Rose-earlier old.write_faults mid.write_faults new.write_faults writes (causes.write h);
  writes = omega (arith, writes, causes.writes);
  read = λ h. Rose-earlier old.read_faults mid.read_faults new.read_faults reads (causes.read h);
  reads = omega (arith, reads, causes.reads);
}

-- the whole merge, behind which the merge stays as its last step has left it, or is forgotten
pub whole_by : (opening : State) (set : IsSome opening.served.catalog) (part : Step) (start old new : DiskView) (first store then : StoreValue)
    (k : Stepped opening part start old first.pages store) (reply : Reply)
    (it : SubmitsOne old new store then (state_in_end opening k.steps) (asks_for part) reply) (request : Submitted)
    → outcome_of opening.served request ≡ merges_whole → next_step part (nat_lt store.end then.end) reply ≡ None → (last : StoreValue)
    → (keeps_merge part reply ≡ true → last ≡ then) → (keeps_merge part reply ≡ false → Forgot then last)
    → Submits start new first last opening request reply
whole_by opening set part start old new first store then k reply it request whole none last stays forgotten = by (keeps_merge part reply) refl
  where
    ends : next_step part (appends it.submits.turn.added) reply ≡ None
    ends = ends_by opening set part start old new first store then k reply it none

    by : (b : Bool) → keeps_merge part reply ≡ b → Submits start new first last opening request reply
    by true keeps = subst (λ (v : StoreValue). Submits start new first v opening request reply) (sym (stays keeps))
        (whole_stays opening set part start old new first store then k reply it request whole ends keeps)
    by false left = whole_forgotten opening set part start old new first store then k reply it request whole ends left last (forgotten left)
