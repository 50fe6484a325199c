-- What the slice of a merge over the pages of a disk comes to.
use Rattle.std.proofs.Common.{◌≡◌, ◌≤◌, ℕ, List, [], ◌∷◌, ◌++◌, map, take, Option, None, Some, Result, Ok, Err, IfOk, refl, sym, ap, subst, ◌∙◌, arith}
use Rattle.std.specs.List.{sum_by}
use Rattle.std.specs.Option.{ForSome, IsSome, option_and_then, option_map}
use Rattle.std.proofs.lemmas.List.Sums.{sum_by-append}
use Rattle.svr_catalog.specs.Stands.{CatalogValue, Stands}
use Rattle.std.specs.Result.{IsOk}
use Rattle.svr_edge.specs.Causes.{Rose}
use Rattle.svr_edge.specs.Disk.{DiskView}
use Rattle.svr_iter.specs.Asked.{Stops}
use Rattle.svr_iter.specs.declared.fault.ScanFault.{ScanFault}
use Rattle.svr_iter.specs.declared.fault.ScanFault.TheVariants as scan
use Rattle.svr_journal.specs.File.{end_of}
use Rattle.svr_listing.specs.Kept.{IsListing}
use Rattle.svr_listing.specs.Listing.{Listing, refs_of}
use Rattle.svr_listing.specs.Merges.{Merge}
use Rattle.svr_lists.specs.Lists.{last_in}
use Rattle.svr_pages.specs.Asked.{IsReady}
use Rattle.svr_pages.specs.Cached.{CachedPages}
use Rattle.svr_pages.proofs.Stretching.{Means, stretch-same}
use Rattle.svr_postpage.specs.Pages.{bytes_at}
use Rattle.svr_postpage.specs.Wanted.{TellsDamage, damage_in}
use Rattle.svr_postpage.specs.declared.page_ref.PageFault.{PageFault}
use Rattle.svr_postpage.specs.declared.page_ref.PageFault.TheVariants as page
use Rattle.svr_postpage.specs.declared.page_ref.PageRef.{PageRef}
use Rattle.svr_tokens.specs.Tokens.{tokens_of}
use Rattle.svr_core.specs.declared.plan.Entry.{Entry}
use Rattle.svr_core.specs.declared.plan.Step.TheVariants as step
use Rattle.svr_core.specs.Kept.{CoreValue, ServesAs, last_of}
use Rattle.svr_core.specs.Merges.{AsksSliced, IsKnown, PlansSlice}
use Rattle.svr_core.specs.Run.{next_slice, pages_for, pages_sliced}
use Rattle.svr_core.specs.State.{Served, State}
use Rattle.svr_store.specs.Merging.{IsNoFault, PlansNext}
use Rattle.svr_store.proofs.Searching.{sum_by-at}
use Rattle.svr_store.proofs.Stretched.{FailMeans, Stretched, stops-stretched}
use Rattle.svr_store.proofs.Undamaged.{listed-undamaged}

-- the terms of the next slice of a merge, if one is begun
abbrev terms_sliced : Listing → ℕ → Option Merge → List (List ℕ)
terms_sliced l most None = []
terms_sliced l most (Some m) = map (λ t. t.term) (next_slice l m most).terms

sliced_refs : (l : Listing) (most : ℕ) (o : Option Merge) → pages_sliced l most o ≡ refs_of l (terms_sliced l most o)
sliced_refs l most None = refl
sliced_refs l most (Some m) = refl

-- what is served where a merge is begun stands in a lawful listing
listing_begun : (o : Option CatalogValue) (s : Served) → IsSome (option_and_then (λ v. last_in v.lists) o) → ForSome o (λ v. Stands v s.listed)
    → IsListing tokens_of s.listed.listing
listing_begun None s begun lists = absurd (cc)
listing_begun (Some v) s begun lists = (lists v refl).served.listing

-- pages that were asked for weigh no more than all of them
first_weigh : (f : PageRef → ℕ) (asked others pages : List PageRef) → asked ++ others ≡ pages → sum_by f asked ≤ sum_by f pages
first_weigh f asked others pages same = omega (arith, ap (sum_by f) same, sum_by-append f asked others)

module _ {R D : Type 0} (view : D → DiskView) (reach_of : R → ℕ) (disk_of : R → D) (pages_of : R → CachedPages)
    (gives : R → PageRef → R → Type 0) (fails : R → PageRef → PageFault → R → Type 0)
    (gave : Means view reach_of disk_of pages_of gives) (failed : FailMeans view reach_of disk_of pages_of gives fails)
    (told : R → Option (List ℕ)) (same_told : (old : R) (want : PageRef) (new : R) → gives old want new → told new ≡ told old)
    (faulty : (old : R) (want : PageRef) (why : PageFault) (new : R) → fails old want why new → TellsDamage want (told old) why)
    (core : CoreValue) (begun : IsSome (last_of core)) (most : ℕ) (old new : R) where
  -- where it is known what stands there no page of a slice is damaged
  sound : (given left : List PageRef) (between : R) (r : Result (Option Entry) ScanFault) → told between ≡ told old
      → Stops fails left between new r → (s : Served) → ServesAs core s
      → (IsKnown (told old) s → (others : List PageRef) × ((given ++ left) ++ others ≡ pages_for s (step.Slice most)))
      → IsNoFault (IsKnown (told old) s) r
  sound given left between (Ok entry) same stops s serves needed = tt
  sound given left between (Err scan.Memory) same stops s serves needed = tt
  sound given left between (Err (scan.Page page.Read)) same stops s serves needed = tt
  sound given [] between (Err (scan.Page (page.Damaged at why))) same first s serves needed = absurd first
  sound given (want ∷ left) between (Err (scan.Page (page.Damaged at why))) same first s serves needed = λ known.
      let l = s.listed.listing in
      let all = needed known in
      let tells = faulty between want (page.Damaged at why) new first in
      listed-undamaged tokens_of known.bytes l (listing_begun core.kept s begun (serves.lists known.lawful)) known.holds
      (terms_sliced l most s.listed.merge) given left all.0 want why (all.1 ∙ sliced_refs l most s.listed.merge)
      (subst (λ (a : ℕ). damage_in want (bytes_at known.bytes a) ≡ Some why) tells.0 (tells.1 known.bytes (same ∙ known.is)))

  -- all of it
  pub plans_next : (result : Result (Option Entry) ScanFault) → AsksSliced (told old) gives fails core most old new result
      → told old ≡ option_map (take (reach_of old)) (view (disk_of old)).content
      → IsReady (reach_of old) (view (disk_of old)) (pages_of old)
      → IfOk result (λ entry. (s : State) → ServesAs core s.served → reach_of old ≡ end_of s.bodies → PlansSlice (told old) core s most entry)
      → (result ≡ Err (scan.Page page.Read) → Rose (view (disk_of old)).read_faults (view (disk_of new)).read_faults)
      → PlansNext core most (reach_of old) (view (disk_of old)) (view (disk_of new)) (pages_of old) (pages_of new) result
  plans_next result asks tells ready plans rose =
      let stretched : Stretched view reach_of disk_of pages_of gives fails (IsOk result) (asks.given ++ asks.left) old new =
      stops-stretched view reach_of disk_of pages_of gives fails gave failed asks.given asks.left old asks.between new result ready asks.in_turn
      asks.stops in
      let between = stretch-same gives told same_told asks.given old asks.between asks.in_turn in
      record {
        reads = stretched.reads;
        disk = stretched.disk;
        keeps = stretched.keeps;
        plans = λ s serves at_end. planned result plans s serves at_end;
        sound = λ v serves. subst (λ (t : Option (List ℕ)). IsNoFault (IsKnown t v) result) tells
            (sound asks.given asks.left asks.between result between asks.stops v serves (asks.are_needed v serves));
        needed = λ v serves known weight.
            let all = asks.are_needed v serves (subst (λ (t : Option (List ℕ)). IsKnown t v) (sym tells) known) in
            let pages = pages_for v (step.Slice most) in
            let by_page : PageRef → ℕ = λ (p : PageRef). weight p.at in
            omega (
              arith,
              stretched.weights weight,
              first_weigh by_page (asks.given ++ asks.left) all.0 pages all.1,
              sum_by-at weight pages,
            );
        read = rose;
      }
    where
      planned : (r : Result (Option Entry) ScanFault)
          → IfOk r (λ entry. (s : State) → ServesAs core s.served → reach_of old ≡ end_of s.bodies → PlansSlice (told old) core s most entry)
          → (s : State) → ServesAs core s.served → reach_of old ≡ end_of s.bodies
          → IfOk r (PlansSlice (option_map (take (reach_of old)) (view (disk_of old)).content) core s most)
      planned (Ok entry) plans s serves at_end =
          subst (λ (t : Option (List ℕ)). PlansSlice t core s most entry) tells (plans s serves at_end)
      planned (Err why) plans s serves at_end = tt
