-- Turns that were carried from an opening state on, and what the store and its disk have become.
use Rattle.std.proofs.Common.{◌≡◌, ℕ, List, [], ◌∷◌, ◌++◌, false, true, flat_map, inl, inr, length, take, Bool, Some}
use Rattle.std.proofs.Common.{refl, sym, ap, ◌∙◌, subst, arith, append_assoc, append-nil, Contains, nat_eq}
use Rattle.std.specs.List.{AllByRecursion}
use Rattle.std.specs.Map.{lookup}
use Rattle.std.specs.Option.{IsSome}
use Rattle.std.proofs.lemmas.Bool.{false≢true}
use Rattle.std.proofs.lemmas.List.Elements.{Contains-append_left, Contains-append_right}
use Rattle.std.proofs.lemmas.List.{take_all}
use Rattle.svr_core.specs.Pages.{HavePages, IsSpelled}
use Rattle.svr_core.specs.Replay.{replayed}
use Rattle.svr_core.specs.Run.{IsRun, Turn, closes, doubtful, is_in_doubt, kept, reads_of, records_of, state_in_end, state_then}
use Rattle.svr_core.specs.State.{IsWithMerge, Served, State}
use Rattle.svr_core.proofs.Lawful.{replayed-lawful}
use Rattle.svr_core.proofs.Reading.{reads-from}
use Rattle.svr_core.proofs.Standing.{all_append, pages-replayed}
use Rattle.svr_core.proofs.Recovering.{IsWithMerge-trans, lawful_ahead, replayed-ahead}
use Rattle.svr_core.proofs.Replayed.{replayed-none}
use Rattle.svr_core.proofs.Runs.{IsTurn-by, bodies_in_end, going_is_sure, reads_of-more, records_of-more, replayed-append, replayed-first, state_in_end-more}
use Rattle.svr_edge.specs.Disk.{DiskView, IsImage, Leaves}
use Rattle.svr_edge.proofs.DiskLemmas.{Leaves-more, Leaves-refl, Leaves-trans}
use Rattle.svr_journal.specs.File.{StandsForSome}
use Rattle.svr_pages.specs.Stretch.{IsCached, with_reads}
use Rattle.svr_pages.proofs.Stretching.{with_reads-append, with_reads-none}
use Rattle.svr_request.specs.declared.reply.Reply.{Reply}
use Rattle.svr_request.specs.Requests.{Submitted}
use Rattle.svr_store.specs.Store.{Keeps, KeepsState, Serves, StoreValue}
use Rattle.svr_store.specs.Submitting.{Submits}
use Rattle.svr_store.proofs.Kept.{some_behind, some_more, some_of_none}
use Rattle.svr_serve.specs.Program.{GoesOn, ReadAsNeeded}
use Rattle.svr_serve.specs.Ran.{GivesAgain, GivesFirst, Stores}
use Rattle.svr_serve.specs.Turning.{IsIdle}
use Rattle.svr_serve.proofs.Runs.{GoesOn-last, GoesOn-more, IsRun-more, IsRun-none, ReadAsNeeded-more, ReadAsNeeded-none, doubtful-more, doubts_none, kept-more, kept_all, take-more}

-- the turns so far, none of which closed the store
pub record Kept (cache : ℕ) (opening : State) (turns : List Turn) (start now : DiskView) (store : StoreValue) : Type 0 where
  pub run : IsRun (KeepsState start opening) opening turns
  pub trace : now.trace ≡ with_reads start.trace (reads_of turns)
  pub going : GoesOn turns
  pub serves : Serves store (state_in_end opening turns)
  pub any_moment : Keeps start opening.bodies → Leaves start now (StandsForSome opening.bodies (records_of turns))
  pub keeps : Keeps start opening.bodies → Keeps now (opening.bodies ++ records_of turns)
  -- each slice was the next one of its merge, where all were at the opening
  pub lawful : KeepsState start opening → (state_in_end opening turns).served.lawful ≡ true
  pub again : (n : ℕ) → GivesAgain opening (take n turns)
  -- what is cached was read, and what was read was needed
  pub capacity : store.pages.capacity ≡ cache
  pub cached : (at : ℕ) → IsCached at store.pages → Contains (reads_of turns) at
  pub needed : ReadAsNeeded (KeepsState start opening) cache opening [] turns
  pub spelled : AllByRecursion IsSpelled (records_of turns)
  pub pages : HavePages opening.bodies opening.served.listed

-- the records of all turns
whole : (opening : State) (turns : List Turn) → ((n : ℕ) → GivesAgain opening (take n turns)) → GivesAgain opening turns
whole opening turns again = subst (GivesAgain opening) (take_all (length turns) turns (omega arith)) (again (length turns))

first_spelled : (first others : List (List ℕ)) → AllByRecursion IsSpelled (first ++ others) → AllByRecursion IsSpelled first
first_spelled [] others all = tt
first_spelled (body ∷ first) others all = (all.0, first_spelled first others all.1)

-- the first records of those that give something give something
first_give : (known : Type 0) (opening : State) (turns : List Turn) (x : Served) → replayed opening.bodies opening.served (records_of turns) ≡ Some x
    → (known → x.lawful ≡ true) → AllByRecursion IsSpelled (records_of turns) → HavePages opening.bodies opening.served.listed
    → (first others : List (List ℕ)) → records_of turns ≡ first ++ others → GivesFirst known opening first
first_give known opening turns x gives lawful spelled pages first others split =
    let p = replayed-first opening.bodies opening.served x first others
    (subst (λ (bs : List (List ℕ)). replayed opening.bodies opening.served bs ≡ Some x) split gives) in
    record {
      served = p.0;
      gives = p.1;
      pages = pages-replayed opening.bodies opening.served p.0 first
          (first_spelled first others (subst (AllByRecursion IsSpelled) split spelled)) p.1 pages;
      lawful = λ is. replayed-lawful (opening.bodies ++ first) p.0 x others p.2 (lawful is);
    }

none_cached : (pages : List (ℕ × List ℕ)) (at : ℕ) → pages ≡ [] → IsSome (lookup (nat_eq at) pages) → ⊥
none_cached [] at none there = let e : ◌≡◌ {A = Bool} false true = there in cc
none_cached (page ∷ pages) at none there = cc

pub Kept-start : (cache : ℕ) (opening : State) (start : DiskView) (store : StoreValue) → Serves store opening → store.pages.pages ≡ []
    → store.pages.capacity ≡ cache → Kept cache opening [] start start store
Kept-start cache opening start store serves uncached capacity = record {
  run = IsRun-none (KeepsState start opening) opening;
  trace = sym (with_reads-none start.trace);
  going = tt;
  serves = serves;
  any_moment = λ keeps. Leaves-refl start (StandsForSome opening.bodies []);
  keeps = λ keeps. subst (λ (bs : List (List ℕ)). Keeps start bs) (sym (append-nil opening.bodies)) keeps;
  lawful = λ kept. kept.lawful;
  again = λ n. subst (GivesAgain opening) (sym (take_all n [] (omega arith)))
      (record { next = opening.served; gives = replayed-none opening.bodies opening.served; same = inr refl });
  capacity = capacity;
  cached = λ at there. absurd (none_cached store.pages.pages at uncached there);
  needed = ReadAsNeeded-none (KeepsState start opening) cache opening [];
  spelled = tt;
  pages = serves.pages;
}

pub Kept-idle : (cache : ℕ) (opening : State) (turns : List Turn) (start old new : DiskView) (store then : StoreValue) → Kept cache opening turns start old store
    → IsIdle old new → then ≡ store → Kept cache opening turns start new then
Kept-idle cache opening turns start old new store then k idle same = record {
  run = k.run;
  trace = idle.trace ∙ k.trace;
  going = k.going;
  serves = subst (λ (v : StoreValue). Serves v (state_in_end opening turns)) (sym same) k.serves;
  any_moment = λ keeps. Leaves-more start old new (StandsForSome opening.bodies (records_of turns)) (k.any_moment keeps) idle.images;
  keeps = λ keeps. idle.keeps (opening.bodies ++ records_of turns) (k.keeps keeps);
  lawful = k.lawful;
  again = k.again;
  capacity = ap (λ (v : StoreValue). v.pages.capacity) same ∙ k.capacity;
  cached = λ at there. k.cached at (subst (λ (v : StoreValue). IsCached at v.pages) same there);
  needed = k.needed;
  spelled = k.spelled;
  pages = k.pages;
}

-- ---- one turn more

module _ (cache : ℕ) (opening : State) (turns : List Turn) (start old new : DiskView) (store then : StoreValue) (k : Kept cache opening turns start old store)
    (request : Submitted) (reply : Reply) (one : Submits old new store then (state_in_end opening turns) request reply) where
  abbrev all : List Turn
  all = turns ++ one.turn ∷ []

  trace_more : new.trace ≡ with_reads start.trace (reads_of all)
  trace_more = one.trace ∙ ap (λ t. with_reads t one.turn.reads) k.trace
      ∙ with_reads-append start.trace (reads_of turns) one.turn.reads
      ∙ ap (λ (l : List ℕ). with_reads start.trace l) (sym (reads_of-more turns one.turn))

  before : (state_in_end opening turns).bodies ≡ opening.bodies ++ records_of turns
  before = bodies_in_end opening turns

  keeps_before : Keeps start opening.bodies → Keeps old (state_in_end opening turns).bodies
  keeps_before keeps = subst (λ (bs : List (List ℕ)). Keeps old bs) (sym before) (k.keeps keeps)

  kept_before : KeepsState start opening → KeepsState old (state_in_end opening turns)
  kept_before kept = record { keeps = keeps_before kept.keeps; lawful = k.lawful kept }

  pub run_more : IsRun (KeepsState start opening) opening all
  run_more = IsRun-more (KeepsState start opening) opening turns one.turn k.run k.going
      (IsTurn-by (KeepsState old (state_in_end opening turns)) (KeepsState start opening) kept_before (state_in_end opening turns) one.turn one.is)

  -- it read what it needs, but for what was read before
  needed_more : ReadAsNeeded (KeepsState start opening) cache opening [] all
  needed_more = ReadAsNeeded-more (KeepsState start opening) cache opening [] turns one.turn k.needed
      (λ kept. reads-from (λ at. IsCached at store.pages) (Contains (reads_of turns)) k.cached store.pages.capacity cache k.capacity
      (state_in_end opening turns) one.turn (one.caches.search (kept_before kept)))

  cached_more : (at : ℕ) → IsCached at then.pages → Contains (reads_of all) at
  cached_more at there = subst (λ (l : List ℕ). Contains l at) (sym (reads_of-more turns one.turn)) (elim (one.caches.keeps.cached at there) [
    | inl was ↦ Contains-append_left (reads_of turns) one.turn.reads at (k.cached at was)
    | inr read ↦ Contains-append_right (reads_of turns) one.turn.reads at read
  ])

  spelled_more : AllByRecursion IsSpelled (records_of all)
  spelled_more = subst (AllByRecursion IsSpelled) (sym (records_of-more turns one.turn))
      (all_append IsSpelled (records_of turns) one.turn.added k.spelled one.spelled)

  -- each slice was the next one of its merge
  lawful_more : closes reply ≡ false → KeepsState start opening → (state_in_end opening all).served.lawful ≡ true
  lawful_more going kept = ap (λ (s : State). s.served.lawful) (state_in_end-more opening turns one.turn)
      ∙ sym (lawful_ahead one.next (state_then (state_in_end opening turns) one.turn).served (one.same going)) ∙ one.lawful (kept_before kept)

  moment_more : Keeps start opening.bodies → Leaves start new (StandsForSome opening.bodies (records_of all))
  moment_more keeps =
      subst (λ (bs : List (List ℕ)). Leaves start new (StandsForSome opening.bodies bs)) (sym (records_of-more turns one.turn))
      (Leaves-trans start old new (StandsForSome opening.bodies (records_of turns))
      (StandsForSome (opening.bodies ++ records_of turns) one.turn.added)
      (StandsForSome opening.bodies (records_of turns ++ one.turn.added)) (k.any_moment keeps)
      (subst (λ (bs : List (List ℕ)). Leaves old new (StandsForSome bs one.turn.added)) before (one.any_moment (keeps_before keeps)))
      (some_more opening.bodies (records_of turns) one.turn.added) (some_behind opening.bodies (records_of turns) one.turn.added))

  bodies_more : (state_in_end opening turns).bodies ++ one.turn.added ≡ opening.bodies ++ records_of all
  bodies_more = ap (λ (bs : List (List ℕ)). bs ++ one.turn.added) before ∙ append_assoc opening.bodies (records_of turns) one.turn.added
      ∙ ap (λ (bs : List (List ℕ)). opening.bodies ++ bs) (sym (records_of-more turns one.turn))

  -- its records where no write failed
  keeps_more : Keeps start opening.bodies → is_in_doubt reply ≡ false → Keeps new (opening.bodies ++ records_of all)
  keeps_more keeps sure = subst (λ (bs : List (List ℕ)). Keeps new bs) bodies_more (one.keeps (keeps_before keeps) sure)

  -- all records, read again
  abbrev Ahead : Type 0
  Ahead = (y : Served) × (replayed opening.bodies opening.served (records_of all) ≡ Some y) × IsWithMerge y one.next

  replays_all : Ahead
  replays_all =
      let front = whole opening turns k.again in
      let on = replayed-ahead (opening.bodies ++ records_of turns) front.next (state_in_end opening turns).served one.next one.turn.added front.same
      (subst (λ (bs : List (List ℕ)). replayed bs (state_in_end opening turns).served one.turn.added ≡ Some one.next) before one.replays) in (
        on.0,
        subst (λ (bs : List (List ℕ)). replayed opening.bodies opening.served bs ≡ Some on.0) (sym (records_of-more turns one.turn))
            (replayed-append opening.bodies opening.served front.next on.0 (records_of turns) one.turn.added front.gives on.1.0),
        on.1.1,
      )

  replays_more : closes reply ≡ false → GivesAgain opening all
  replays_more going = record {
    next = replays_all.0;
    gives = replays_all.1;
    same = subst (λ (s : State). IsWithMerge replays_all.0 s.served) (sym (state_in_end-more opening turns one.turn))
        (IsWithMerge-trans replays_all.0 one.next (state_then (state_in_end opening turns) one.turn).served replays_all.2 (one.same going));
  }

  again_more : closes reply ≡ false → (n : ℕ) → GivesAgain opening (take n all)
  again_more going n = elim (take-more n turns one.turn) [
    | inl same ↦ subst (GivesAgain opening) (sym same) (k.again n)
    | inr every ↦ subst (GivesAgain opening) (sym every) (replays_more going)
  ]

  pub Kept-more : closes reply ≡ false → Kept cache opening all start new then
  Kept-more going = record {
    run = run_more;
    trace = trace_more;
    going = GoesOn-more turns one.turn k.going (ap closes one.told ∙ going);
    serves = subst (λ (s : State). Serves then s) (sym (state_in_end-more opening turns one.turn)) (one.serves going);
    any_moment = moment_more;
    keeps = λ keeps. keeps_more keeps (going_is_sure reply going);
    lawful = lawful_more going;
    again = again_more going;
    capacity = one.caches.keeps.capacity ∙ k.capacity;
    cached = cached_more;
    needed = needed_more;
    spelled = spelled_more;
    pages = k.pages;
  }

  -- ---- a turn that closed the store

  again_closed : closes reply ≡ true → (n : ℕ) → GoesOn (take n all) → GivesAgain opening (take n all)
  again_closed closed n going = elim (take-more n turns one.turn) [
    | inl same ↦ subst (GivesAgain opening) (sym same) (k.again n)
    | inr every ↦
        let open_end = GoesOn-last turns one.turn (subst GoesOn every going) in
        absurd (false≢true (sym open_end ∙ ap closes one.told ∙ closed))
  ]

  kept_last : flat_map kept all ≡ records_of turns ++ kept one.turn
  kept_last = kept-more turns one.turn ∙ ap (λ (bs : List (List ℕ)). bs ++ kept one.turn) (kept_all turns k.going)

  doubts_last : flat_map doubtful all ≡ doubtful one.turn
  doubts_last = doubtful-more turns one.turn ∙ ap (λ (bs : List (List ℕ)). bs ++ doubtful one.turn) (doubts_none turns k.going)

  abbrev IsLeft : List ℕ → List (List ℕ) → List (List ℕ) → Type 0
  IsLeft image keep doubts = StandsForSome (opening.bodies ++ keep) doubts image

  -- no write failed
  left_sure : Keeps start opening.bodies → (image : List ℕ) → IsImage new image → is_in_doubt one.turn.reply ≡ false
      → IsLeft image (records_of turns ++ kept one.turn) (doubtful one.turn)
  left_sure keeps image left sure = rw sure
      (subst (λ (bs : List (List ℕ)). IsLeft image bs []) (records_of-more turns one.turn)
      (some_of_none (opening.bodies ++ records_of all) image
      ((keeps_more keeps (ap is_in_doubt (sym one.told) ∙ sure)).safe image left)))

  -- one did
  left_unsure : Keeps start opening.bodies → (image : List ℕ) → IsImage new image → is_in_doubt one.turn.reply ≡ true
      → IsLeft image (records_of turns ++ kept one.turn) (doubtful one.turn)
  left_unsure keeps image left unsure =
      subst (λ (bs : List (List ℕ)). StandsForSome bs (doubtful one.turn) image)
      (ap (λ (bs : List (List ℕ)). bs ++ kept one.turn) before ∙ append_assoc opening.bodies (records_of turns) (kept one.turn))
      (one.in_doubt (keeps_before keeps) (ap is_in_doubt (sym one.told) ∙ unsure) image left)

  by_doubt : (b : Bool) (P : Type 0) → (b ≡ false → P) → (b ≡ true → P) → P
  by_doubt false P f g = f refl
  by_doubt true P f g = g refl

  left_all : Keeps start opening.bodies → (image : List ℕ) → IsImage new image → IsLeft image (flat_map kept all) (flat_map doubtful all)
  left_all keeps image left =
      subst (λ (bs : List (List ℕ)). IsLeft image bs (flat_map doubtful all)) (sym kept_last)
      (subst (λ (bs : List (List ℕ)). IsLeft image (records_of turns ++ kept one.turn) bs) (sym doubts_last)
      (by_doubt (is_in_doubt one.turn.reply) (IsLeft image (records_of turns ++ kept one.turn) (doubtful one.turn))
      (left_sure keeps image left) (left_unsure keeps image left)))

  pub Stores-closed : closes reply ≡ true → Stores cache opening all start new
  Stores-closed closed = record {
    trace = trace_more;
    needed = needed_more;
    any_moment = moment_more;
    in_end = left_all;
    again = again_closed closed;
    each = first_give (KeepsState start opening) opening all replays_all.0 replays_all.1
        (λ kept. lawful_ahead replays_all.0 one.next replays_all.2 ∙ one.lawful (kept_before kept)) spelled_more k.pages;
  }

-- turns that didn't close the store
pub Stores-going : (cache : ℕ) (opening : State) (turns : List Turn) (start now : DiskView) (store : StoreValue) → Kept cache opening turns start now store
    → Stores cache opening turns start now
Stores-going cache opening turns start now store k = record {
  trace = k.trace;
  needed = k.needed;
  any_moment = k.any_moment;
  in_end = λ keeps image left.
      subst (λ (bs : List (List ℕ)). StandsForSome (opening.bodies ++ bs) (flat_map doubtful turns) image) (sym (kept_all turns k.going))
      (subst (λ (bs : List (List ℕ)). StandsForSome (opening.bodies ++ records_of turns) bs image) (sym (doubts_none turns k.going))
      (some_of_none (opening.bodies ++ records_of turns) image ((k.keeps keeps).safe image left)));
  again = λ n going. k.again n;
  each =
      let all = whole opening turns k.again in
      first_give (KeepsState start opening) opening turns all.next all.gives
      (λ kept. lawful_ahead all.next (state_in_end opening turns).served all.same ∙ k.lawful kept) k.spelled k.pages;
}
