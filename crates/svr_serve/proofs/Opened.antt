-- A disk that was opened, and turns behind it.
use Rattle.std.proofs.Common.{◌≡◌, ◌⊎◌, ℕ, zero, suc, ◌<◌, List, [], ◌∷◌, ◌++◌, inl, inr, take, drop, Some, refl, sym, ap, ◌∙◌, subst}
use Rattle.std.proofs.Common.{arith}
use Rattle.svr_core.specs.Replay.{HasGates, IsRefusedAt, recovered, replayed}
use Rattle.svr_core.specs.Run.{Turn, records_of, state_in_end}
use Rattle.svr_core.specs.State.{Served, State, settled}
use Rattle.svr_core.proofs.Recovering.{recovered-behind, settled_ahead}
use Rattle.svr_core.proofs.Runs.{IsRun-by}
use Rattle.svr_edge.specs.Disk.{DiskView, IsDisk, IsTornImage, Leaves, Reads, Stays}
use Rattle.svr_edge.proofs.DiskLemmas.{Leaves-trans, Leaves-weaker}
use Rattle.svr_journal.specs.File.{StandsForSome, magic}
use Rattle.svr_journal.specs.Gates.{gate_of}
use Rattle.svr_journal.specs.Opening.{AnyRose, opened_bytes}
use Rattle.svr_journal.specs.declared.faults.JournalError.{JournalError}
use Rattle.svr_journal.specs.declared.faults.JournalError.TheVariants.{Device, NotAJournal, Memory}
use Rattle.svr_serve.specs.Layout.{ending_of_error}
use Rattle.svr_store.specs.Opening.{IsNoJournal, Opens, StoodForState}
use Rattle.svr_store.specs.Store.{Keeps, KeepsState, StoreValue}
use Rattle.svr_serve.specs.declared.ending.Ending.{Ending}
use Rattle.svr_core.proofs.Standing.{pages-settled}
use Rattle.svr_serve.specs.Program.{ReadAsNeeded, IsHalfMade, Recovers, Streams, Survives}
use Rattle.svr_serve.proofs.Runs.{ReadAsNeeded-by}
use Rattle.svr_serve.specs.Ran.{Carries, OpeningStops, Ran, Serving, Stores}

-- ---- a new journal

-- its first gate is closed
shut_first : (at : ℕ) (bodies : List (List ℕ)) (served : Served) → HasGates (magic ++ 0 ∷ []) 8 bodies at
    → IsRefusedAt bodies served (gate_of (drop at (magic ++ 0 ∷ []))) → ⊥
shut_first at [] served gates refused = subst (λ n. IsRefusedAt [] served (gate_of (drop n (magic ++ 0 ∷ [])))) (sym gates) refused
shut_first at (body ∷ bodies) served gates refused = cc

is_journal : (at : ℕ) → IsNoJournal (magic ++ 0 ∷ []) at → ⊥
is_journal at fails = elim fails [ inl other ↦ other.1 refl | inr fault ↦ shut_first at fault.1.bodies fault.1.served fault.1.gates fault.1.refused ]

-- what is found to be no journal isn't changed
pub unchanged : (old new : DiskView) (bytes : List ℕ) (at : ℕ) → IsDisk old → (0 < old.size → Stays old new) → Reads old bytes
    → IsNoJournal (opened_bytes bytes) at → Reads new bytes
unchanged old new [] at laws stays reads fails = absurd (is_journal at fails)
unchanged old new (b ∷ bytes) at laws stays reads fails = (stays (omega (arith, laws.sized (b ∷ bytes) reads))).content ∙ reads

-- why a disk couldn't be opened
pub stops_by : (error : JournalError) (old new : DiskView) → IsDisk old → (0 < old.size → Stays old new)
    → ((at : ℕ) (bytes : List ℕ) → error ≡ NotAJournal at → Reads old bytes → IsNoJournal (opened_bytes bytes) at)
    → (error ≡ Device → AnyRose old new) → OpeningStops (ending_of_error error) old new
stops_by Device old new laws stays fault device = device refl
stops_by (NotAJournal at) old new laws stays fault device = λ bytes reads.
    let fails = fault at bytes refl reads in
    (fails, unchanged old new bytes at laws stays reads fails)
stops_by Memory old new laws stays fault device = tt

-- ---- the images of an opening

by_size : (n : ℕ) (P : Type 0) → (n ≡ 0 → P) → (0 < n → P) → P
by_size zero P f g = f refl
by_size (suc n) P f g = g (omega arith)

-- a disk that isn't empty stays
pub half_made : (old new : DiskView) → (0 < old.size → Stays old new) → Leaves old new (IsTornImage old 0 9) → Leaves old new (IsHalfMade old)
half_made old new stays torn = by_size old.size (Leaves old new (IsHalfMade old))
    (λ none. Leaves-weaker old new (IsTornImage old 0 9) (IsHalfMade old) torn (λ image t. (none, t)))
    (λ some. Leaves-weaker old new (λ _. ⊥) (IsHalfMade old) (stays some).images (λ image none. absurd none))

-- ---- the records

module _ (cache : ℕ) (opening : State) (turns : List Turn) (gives : recovered opening.bodies ≡ Some opening.served) where
  behind : (first : List (List ℕ)) (x : Served) → replayed opening.bodies opening.served first ≡ Some x
      → recovered (opening.bodies ++ first) ≡ Some (settled x)
  behind first x is = recovered-behind opening.bodies opening.served x first gives is

  recovers_by : (known : Type 0) (old new : DiskView) → (known → KeepsState old opening) → Stores cache opening turns old new
      → Recovers known opening turns
  recovers_by known old new knows s = record {
    again = λ n going.
        let all = s.again n going in
        behind (records_of (take n turns)) all.next all.gives
        ∙ ap (λ (x : Served). Some x) (settled_ahead all.next (state_in_end opening (take n turns)).served all.same);
    each = λ first others split.
        let p = s.each first others split in
        record {
          served = settled p.served;
          gives = behind first p.served p.gives;
          pages = pages-settled (opening.bodies ++ first) p.served p.pages;
          lawful = λ is. p.lawful (knows is);
        };
  }

-- what is said of a run where less is known
ran_by : (kept more : Type 0) → (more → kept) → (e : Ending) (opening : State) (turns : List Turn) (before after : Streams)
    → Ran kept e opening turns before after → Ran more e opening turns before after
ran_by kept more knows e opening turns before after r = record {
  serving = r.serving;
  run = IsRun-by kept more knows opening turns r.run;
  answered = r.answered;
  lines = r.lines;
  part = r.part;
  closed = r.closed;
  going = r.going;
}

survives_by : (cache : ℕ) (opening : State) (turns : List Turn) (old mid new : DiskView) → Leaves old mid (IsHalfMade old) → Keeps mid opening.bodies
    → Stores cache opening turns mid new → Survives opening.bodies turns old new
survives_by cache opening turns old mid new images keeps s = record {
  any_moment = Leaves-trans old mid new (IsHalfMade old) (StandsForSome opening.bodies (records_of turns))
      (λ image. StandsForSome opening.bodies (records_of turns) image ⊎ IsHalfMade old image) images (s.any_moment keeps)
      (λ image h. inr h) (λ image h. inl h);
  in_end = s.in_end keeps;
}

pub serving_by : (capacity cache : ℕ) → capacity ≡ cache → (e : Ending) (before after : Streams) (old mid new : DiskView) (store : StoreValue) (o : Opens old mid store)
    → Leaves old mid (IsHalfMade old) → Carries capacity e o.state before after mid new → Serving cache e before after old new
serving_by capacity cache same e before after old mid new store o images c = record {
  opening = o.state;
  turns = c.0;
  found = record { stood = o.stood; found = λ bodies stood. (o.found bodies stood).0; gives = o.gives };
  ran = ran_by (KeepsState mid o.state) (StoodForState old o.state) knows e o.state c.0 before after c.1;
  reads = record {
    opened = mid.trace;
    trace = c.2.trace;
    needed = subst (λ (n : ℕ). ReadAsNeeded (StoodForState old o.state) n o.state [] c.0) same
        (ReadAsNeeded-by (KeepsState mid o.state) (StoodForState old o.state) knows capacity o.state [] c.0 c.2.needed);
  };
  survives = λ stood. survives_by capacity o.state c.0 old mid new images (o.found o.state.bodies stood).1 c.2;
  recovers = recovers_by capacity o.state c.0 o.gives (StoodForState old o.state) mid new knows c.2;
}
  where
    knows : StoodForState old o.state → KeepsState mid o.state
    knows stood = record { keeps = (o.found o.state.bodies stood.stood).1; lawful = stood.lawful }
