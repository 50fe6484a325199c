-- What pages that were asked for in turn, and the stop behind them, mean for a disk.
use Rattle.std.proofs.Common.{◌≡◌, ◌≤◌, ℕ, true, false, inl, List, [], ◌∷◌, ◌++◌, Option, Result, Ok, Err, ap, sym, subst, ◌∙◌, arith, append-nil}
use Rattle.std.specs.Option.{IsSome}
use Rattle.std.specs.Result.{IsOk}
use Rattle.std.specs.List.{sum_by}
use Rattle.std.proofs.lemmas.List.Sums.{sum_by-append, sum_by-cons}
use Rattle.svr_edge.specs.Disk.{DiskView}
use Rattle.svr_iter.specs.Asked.{Stops}
use Rattle.svr_iter.specs.declared.fault.ScanFault.{ScanFault}
use Rattle.svr_iter.specs.declared.fault.ScanFault.TheVariants as scan
use Rattle.svr_pages.specs.Asked.{Fails, IsReady}
use Rattle.svr_pages.specs.Cached.{CachedPages}
use Rattle.svr_pages.specs.Stretch.{IsStretch, ReadsInTurn}
use Rattle.svr_pages.proofs.Faults.{fault-means, fault-ready}
use Rattle.svr_pages.proofs.Stretching.{Means, picked-sums, reads_more, stretch-given, stretch-ready, stretch-same}
use Rattle.svr_postpage.specs.Reading.{InTurn}
use Rattle.svr_postpage.specs.declared.page_ref.PageFault.{PageFault}
use Rattle.svr_postpage.specs.declared.page_ref.PageRef.{PageRef}
use Rattle.svr_store.specs.Caching.{KeepsPages}
use Rattle.svr_store.proofs.Caching.{keeps-on}

module _ {R D : Type 0} (view : D → DiskView) (reach_of : R → ℕ) (disk_of : R → D) (pages_of : R → CachedPages)
    (gives : R → PageRef → R → Type 0) (fails : R → PageRef → PageFault → R → Type 0) where
  abbrev Ready : R → Type 0
  Ready r = IsReady (reach_of r) (view (disk_of r)) (pages_of r)

  -- a page came to a fault: so much does its relation say
  abbrev pub FailMeans : Type 0
  FailMeans = (old : R) (want : PageRef) (why : PageFault) (new : R) → fails old want why new
      → Fails view (reach_of old) want (disk_of old) (disk_of new) (pages_of old) (pages_of new) why × (reach_of new ≡ reach_of old)

  -- these reads were made, no page's more often than it was asked for, and the reader may be asked again; all were given, where that is so
  pub record Stretched (all : Type 0) (pages : List PageRef) (old new : R) : Type 0 where
    pub reads : List ℕ
    pub disk : ReadsInTurn reads (view (disk_of old)) (view (disk_of new))
    pub ready : Ready new
    pub reach : reach_of new ≡ reach_of old
    pub weights : (weight : ℕ → ℕ) → sum_by weight reads ≤ sum_by (λ (page : PageRef). weight page.at) pages
    pub keeps : KeepsPages reads (pages_of old) (pages_of new)
    pub given : all → IsStretch pages reads (view (disk_of old)) (view (disk_of new)) (pages_of old) (pages_of new)

  given-stretched : Means view reach_of disk_of pages_of gives → (all : Type 0) (given : List PageRef) (old between : R) → Ready old
      → InTurn gives given old between → Stretched all given old between
  given-stretched means all given old between ready in_turn =
      let after = stretch-ready view reach_of disk_of pages_of gives means given old between ready in_turn in
      let stretch = stretch-given view reach_of disk_of pages_of gives means given old between ready in_turn in
      record {
        reads = stretch.0;
        disk = stretch.1.disk;
        ready = after.0;
        reach = after.1;
        weights = λ weight. picked-sums weight given stretch.0 stretch.1.in_order;
        keeps = record { capacity = stretch.1.capacity; cached = stretch.1.cached_after };
        given = λ _. stretch.1;
      }

  -- pages more that were asked for
  longer : (given left : List PageRef) (old new : R) → Stretched ⊥ given old new → Stretched ⊥ (given ++ left) old new
  longer given left old new s = record {
    reads = s.reads;
    disk = s.disk;
    ready = s.ready;
    reach = s.reach;
    weights = λ weight. omega (
      arith,
      s.weights weight,
      sum_by-append (λ (page : PageRef). weight page.at) given left,
    );
    keeps = s.keeps;
    given = λ none. absurd none;
  }

  fault-stretched : FailMeans → (given : List PageRef) (page : PageRef) (left : List PageRef) (why : PageFault) (old between new : R)
      → Stretched ⊥ given old between → fails between page why new → Stretched ⊥ (given ++ page ∷ left) old new
  fault-stretched means given page left why old between new s failed =
      let is = means between page why new failed in
      let seen = fault-means view (reach_of between) page (disk_of between) (disk_of new) (pages_of between) (pages_of new) why is.0 in
      record {
        reads = s.reads ++ seen.0;
        disk = reads_more s.reads seen.0 (view (disk_of old)) (view (disk_of between)) (view (disk_of new)) s.disk seen.1.disk;
        ready = subst (λ (n : ℕ). IsReady n (view (disk_of new)) (pages_of new)) (sym is.1)
            (fault-ready view (reach_of between) page (disk_of between) (disk_of new) (pages_of between) (pages_of new) why s.ready is.0);
        reach = is.1 ∙ s.reach;
        weights = λ weight.
            let by_page : PageRef → ℕ = λ (p : PageRef). weight p.at in
            omega (
              arith,
              s.weights weight,
              picked-sums weight (page ∷ []) seen.0 seen.1.at_most,
              sum_by-append weight s.reads seen.0,
              sum_by-append by_page given (page ∷ left),
              sum_by-cons by_page page left,
              sum_by-cons by_page page [],
            );
        keeps = keeps-on s.reads seen.0 (pages_of old) (pages_of between) (pages_of new) s.keeps (record {
          capacity = seen.1.capacity;
          cached = λ at there. inl (subst (λ (o : Option (List ℕ)). IsSome o) (seen.1.same_cached at) there);
        });
        given = λ none. absurd none;
      }

  -- what was stopped is no Ok
  stopped : {pages : List PageRef} {old new : R} → Stretched ⊥ pages old new → Stretched (false ≡ true) pages old new
  stopped s = record {
    reads = s.reads;
    disk = s.disk;
    ready = s.ready;
    reach = s.reach;
    weights = s.weights;
    keeps = s.keeps;
    given = λ not. absurd cc;
  }

  -- what a call means that asked for pages in turn and stopped so
  pub stops-stretched : {T : Type 0} → Means view reach_of disk_of pages_of gives → FailMeans → (given left : List PageRef) (old between new : R)
      (result : Result T ScanFault) → Ready old → InTurn gives given old between → Stops fails left between new result
      → Stretched (IsOk result) (given ++ left) old new
  stops-stretched gave failed given left old between new (Ok value) ready in_turn (none, same) =
      subst (λ r. Stretched (true ≡ true) (given ++ left) old r) (sym same)
      (subst (λ (pages : List PageRef). Stretched (true ≡ true) pages old between) (sym (ap (λ (l : List PageRef). given ++ l) none ∙ append-nil given))
      (given-stretched gave (true ≡ true) given old between ready in_turn))
  stops-stretched gave failed given left old between new (Err scan.Memory) ready in_turn same =
      subst (λ r. Stretched (false ≡ true) (given ++ left) old r) (sym same)
      (stopped (longer given left old between (given-stretched gave ⊥ given old between ready in_turn)))
  stops-stretched gave failed given [] old between new (Err (scan.Page why)) ready in_turn first = absurd first
  stops-stretched gave failed given (page ∷ left) old between new (Err (scan.Page why)) ready in_turn first =
      stopped (fault-stretched failed given page left why old between new (given-stretched gave ⊥ given old between ready in_turn) first)

-- a value that no page changes is the same behind such a call
pub stops-same : {R T N : Type 0} (gives : R → PageRef → R → Type 0) (fails : R → PageRef → PageFault → R → Type 0) (name : R → N)
    → ((old : R) (want : PageRef) (new : R) → gives old want new → name new ≡ name old)
    → ((old : R) (want : PageRef) (why : PageFault) (new : R) → fails old want why new → name new ≡ name old)
    → (given left : List PageRef) (old between new : R) (result : Result T ScanFault) → InTurn gives given old between
    → Stops fails left between new result → name new ≡ name old
stops-same {R} {T} gives fails name given_same failed_same given left old between new result in_turn stops =
    by result left stops ∙ stretch-same gives name given_same given old between in_turn
  where
    by : (result : Result T ScanFault) (left : List PageRef) → Stops fails left between new result → name new ≡ name between
    by (Ok value) left stops = ap name stops.1
    by (Err scan.Memory) left same = ap name same
    by (Err (scan.Page why)) [] first = absurd first
    by (Err (scan.Page why)) (page ∷ left) first = failed_same between page why new first
