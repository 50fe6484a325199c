-- What a search over the pages of a disk comes to.
use Rattle.std.proofs.Common.{◌≡◌, ◌⊎◌, ◌≤◌, true, ℕ, Contains, List, [], ◌∷◌, ◌++◌, map, take, Option, None, Some, Result, Ok, Err, IfOk, refl, sym, ap, subst, ◌∙◌, arith}
use Rattle.std.specs.List.{sum_by}
use Rattle.std.specs.Option.{ForSome, IsSome, option_map}
use Rattle.std.specs.Result.{IsOk}
use Rattle.std.proofs.lemmas.List.Sums.{sum_by-append, sum_by-cons}
use Rattle.svr_edge.specs.Causes.{Rose}
use Rattle.svr_edge.specs.Disk.{DiskView}
use Rattle.svr_index.specs.Asked.{ArePages}
use Rattle.svr_iter.specs.Asked.{Stops}
use Rattle.svr_iter.specs.declared.fault.ScanFault.{ScanFault}
use Rattle.svr_iter.specs.declared.fault.ScanFault.TheVariants as scan
use Rattle.svr_listing.specs.Kept.{HoldsPosted, IsListing}
use Rattle.svr_pages.specs.Asked.{IsReady}
use Rattle.svr_pages.specs.Cached.{CachedPages}
use Rattle.svr_pages.specs.Stretch.{IsCached}
use Rattle.svr_pages.proofs.Stretching.{Means, stretch-same}
use Rattle.svr_postpage.specs.Pages.{bytes_at}
use Rattle.svr_postpage.specs.Wanted.{TellsDamage, damage_in, pairs_told}
use Rattle.svr_postpage.specs.declared.page_ref.PageFault.{PageFault}
use Rattle.svr_postpage.specs.declared.page_ref.PageFault.TheVariants as page
use Rattle.svr_postpage.specs.declared.page_ref.PageRef.{PageRef}
use Rattle.svr_request.specs.declared.reply.Fault.TheVariants as fault
use Rattle.svr_request.specs.declared.reply.Reply.TheVariants.{Faulted}
use Rattle.svr_tokens.specs.Tokens.{tokens_of}
use Rattle.svr_topk.specs.declared.search.Answer.{Answer}
use Rattle.svr_core.specs.declared.queries.Query.{Query}
use Rattle.svr_core.specs.Answers.{answer_in}
use Rattle.svr_core.specs.Asked.{AsksNeeded}
use Rattle.svr_catalog.specs.Stands.{CatalogValue, Stands}
use Rattle.svr_core.specs.Kept.{CoreValue, ServesAs, catalog_of}
use Rattle.svr_core.specs.Merges.{IsKnown}
use Rattle.svr_core.specs.Reads.{IsFound}
use Rattle.svr_core.specs.Run.{pages_needed}
use Rattle.svr_core.specs.State.{Served}
use Rattle.svr_store.specs.Finding.{CameTo, Finds, reply_of}
use Rattle.svr_store.proofs.Fetched.{asked-there}
use Rattle.svr_store.proofs.Stretched.{FailMeans, Stretched, stops-stretched}
use Rattle.svr_store.proofs.Undamaged.{asked-undamaged}

pub sum_by-at : (weight : ℕ → ℕ) (pages : List PageRef)
    → sum_by weight (map (λ (page : PageRef). page.at) pages) ≡ sum_by (λ (page : PageRef). weight page.at) pages
sum_by-at weight [] = refl
sum_by-at weight (page ∷ pages) =
    let by_page : PageRef → ℕ = λ (p : PageRef). weight p.at in
    omega (
      arith,
      sum_by-cons weight page.at (map (λ (p : PageRef). p.at) pages),
      sum_by-cons by_page page pages,
      sum_by-at weight pages,
    )

-- pages that were asked for weigh no more than those that are needed
asked-weigh : {T : Type 0} (f : PageRef → ℕ) (result : Result T ScanFault) (asked pages : List PageRef) → ArePages result asked pages
    → sum_by f asked ≤ sum_by f pages
asked-weigh f (Ok value) asked pages same = omega (arith, same f)
asked-weigh f (Err why) asked pages (others, same) = omega (arith, same f, sum_by-append f asked others)

module _ {R D : Type 0} (view : D → DiskView) (reach_of : R → ℕ) (disk_of : R → D) (pages_of : R → CachedPages)
    (gives : R → PageRef → R → Type 0) (fails : R → PageRef → PageFault → R → Type 0)
    (gave : Means view reach_of disk_of pages_of gives) (failed : FailMeans view reach_of disk_of pages_of gives fails)
    (told : R → Option (List ℕ)) (same_told : (old : R) (want : PageRef) (new : R) → gives old want new → told new ≡ told old)
    (faulty : (old : R) (want : PageRef) (why : PageFault) (new : R) → fails old want why new → TellsDamage want (told old) why)
    (core : CoreValue) (q : Query) (old new : R) where
  module _ (result : Result Answer ScanFault) (asks : AsksNeeded (told old) gives fails core q old new result) where
    pub stretched : IsReady (reach_of old) (view (disk_of old)) (pages_of old)
        → Stretched view reach_of disk_of pages_of gives fails (IsOk result) (asks.given ++ asks.left) old new
    stretched ready = stops-stretched view reach_of disk_of pages_of gives fails gave failed asks.given asks.left old asks.between new
        result ready asks.in_turn asks.stops

  -- a page that is needed isn't damaged where the posted pairs are told
  not-damaged : (given left : List PageRef) (between : R) (at : ℕ) (why : _) → told between ≡ told old
      → Stops fails left between new (let r : Result Answer ScanFault = Err (scan.Page (page.Damaged at why)) in r)
      → (s : Served) → IsListing tokens_of s.listed.listing → (held : IsKnown (told old) s)
      → ArePages (let r : Result Answer ScanFault = Err (scan.Page (page.Damaged at why)) in r) (given ++ left)
      (pages_needed s.listed.listing q.terms q.mode q.k) → ⊥
  not-damaged given [] between at why same first s is held needed = absurd first
  not-damaged given (want ∷ left) between at why same first s is held needed =
      let tells = faulty between want (page.Damaged at why) new first in
      asked-undamaged tokens_of held.bytes s.listed.listing is held.holds q.terms _ given left needed.0 want why
      (needed.1 _) (subst (λ (a : ℕ). damage_in want (bytes_at held.bytes a) ≡ Some why) tells.0 (tells.1 held.bytes (same ∙ held.is)))

  came : (result : Result Answer ScanFault)
      → IfOk result (λ answer. ForSome (told old) (λ bytes. (s : Served) → ServesAs core s → s.lawful ≡ true → HoldsPosted (pairs_told bytes) s.listed.listing
      → answer ≡ answer_in s q.terms q.mode q.k))
      → (given left : List PageRef) (between : R) → told between ≡ told old → Stops fails left between new result
      → (s : Served) → ServesAs core s → (IsKnown (told old) s → IsListing tokens_of s.listed.listing)
      → (IsKnown (told old) s → ArePages result (given ++ left) (pages_needed s.listed.listing q.terms q.mode q.k))
      → CameTo (IsKnown (told old) s) (answer_in s q.terms q.mode q.k) (reply_of result)
  came (Ok answer) exact given left between same stops s serves is needed = λ held. exact held.bytes held.is s serves held.lawful held.holds
  came (Err scan.Memory) exact given left between same stops s serves is needed = tt
  came (Err (scan.Page page.Read)) exact given left between same stops s serves is needed = tt
  came (Err (scan.Page (page.Damaged at why))) exact given left between same stops s serves is needed =
      λ held. not-damaged given left between at why same stops s (is held) held (needed held)

-- an answer was found
found_ok : (result : Result Answer ScanFault) → IsFound (reply_of result) → IsOk result
found_ok (Ok answer) found = refl
found_ok (Err scan.Memory) found = absurd found
found_ok (Err (scan.Page page.Read)) found = absurd found
found_ok (Err (scan.Page (page.Damaged at why))) found = absurd found

-- then all needed pages were asked for
all_asked : (result : Result Answer ScanFault) (asked pages : List PageRef) → IsOk result → ArePages result asked pages
    → (f : PageRef → ℕ) → sum_by f asked ≡ sum_by f pages
all_asked (Ok answer) asked pages ok are = are
all_asked (Err why) asked pages ok are = absurd cc

-- a failed read is told as such alone
failed_read : (result : Result Answer ScanFault) (P : Type 0) → (result ≡ Err (scan.Page page.Read) → P)
    → reply_of result ≡ Faulted fault.Read → P
failed_read (Ok answer) P is h = absurd cc
failed_read (Err scan.Memory) P is h = absurd cc
failed_read (Err (scan.Page page.Read)) P is h = is refl
failed_read (Err (scan.Page (page.Damaged at why))) P is h = absurd cc

-- what is served stands in a lawful listing
listing_of : (o : Option CatalogValue) (s : Served) → IsSome (option_map (λ v. v.catalog) o) → ForSome o (λ v. Stands v s.listed)
    → IsListing tokens_of s.listed.listing
listing_of None s set lists = absurd (cc)
listing_of (Some v) s set lists = (lists v refl).served.listing

module _ {R D : Type 0} (view : D → DiskView) (reach_of : R → ℕ) (disk_of : R → D) (pages_of : R → CachedPages)
    (gives : R → PageRef → R → Type 0) (fails : R → PageRef → PageFault → R → Type 0)
    (gave : Means view reach_of disk_of pages_of gives) (failed : FailMeans view reach_of disk_of pages_of gives fails)
    (told : R → Option (List ℕ)) (same_told : (old : R) (want : PageRef) (new : R) → gives old want new → told new ≡ told old)
    (faulty : (old : R) (want : PageRef) (why : PageFault) (new : R) → fails old want why new → TellsDamage want (told old) why)
    (core : CoreValue) (q : Query) (old new : R) (result : Result Answer ScanFault)
    (asks : AsksNeeded (told old) gives fails core q old new result) where
  -- all of it
  pub finds : told old ≡ option_map (take (reach_of old)) (view (disk_of old)).content
      → IsReady (reach_of old) (view (disk_of old)) (pages_of old) → IsSome (catalog_of core)
      → IfOk result (λ answer. ForSome (told old) (λ bytes. (s : Served) → ServesAs core s → s.lawful ≡ true → HoldsPosted (pairs_told bytes) s.listed.listing
      → answer ≡ answer_in s q.terms q.mode q.k))
      → (result ≡ Err (scan.Page page.Read) → Rose (view (disk_of old)).read_faults (view (disk_of new)).read_faults)
      → Finds core q (reach_of old) (view (disk_of old)) (view (disk_of new)) (pages_of old) (pages_of new) (reply_of result)
  finds tells ready set exact rose =
      let s = stretched view reach_of disk_of pages_of gives fails gave failed told same_told faulty core q old new result asks ready in
      let between = stretch-same gives told same_told asks.given old asks.between asks.in_turn in
      let needed : (v : Served) → ServesAs core v → IsKnown (told old) v
      → ArePages result (asks.given ++ asks.left) (pages_needed v.listed.listing q.terms q.mode q.k) =
      λ v serves held. asks.are_needed held.bytes held.is v serves held.lawful held.holds in
      let asked : (v : Served) → ServesAs core v → IsKnown (option_map (take (reach_of old)) (view (disk_of old)).content) v → IsOk result
      → (f : PageRef → ℕ) → sum_by f (asks.given ++ asks.left) ≡ sum_by f (pages_needed v.listed.listing q.terms q.mode q.k) =
      λ v serves held ok. all_asked result (asks.given ++ asks.left) (pages_needed v.listed.listing q.terms q.mode q.k) ok
      (needed v serves (subst (λ (t : Option (List ℕ)). IsKnown t v) (sym tells) held)) in
      record {
        reads = s.reads;
        disk = s.disk;
        came = λ v serves.
            subst (λ (t : Option (List ℕ)). CameTo (IsKnown t v) (answer_in v q.terms q.mode q.k) (reply_of result)) tells
            (came view reach_of disk_of pages_of gives fails gave failed told same_told faulty core q old new result exact asks.given asks.left
            asks.between between asks.stops v serves (λ held. listing_of core.kept v set (serves.lists held.lawful)) (needed v serves));
        needed = λ v serves held weight.
            let there = subst (λ (t : Option (List ℕ)). IsKnown t v) (sym tells) held in
            let by_page : PageRef → ℕ = λ (p : PageRef). weight p.at in
            let all = pages_needed v.listed.listing q.terms q.mode q.k in
            omega (
              arith,
              s.weights weight,
              asked-weigh by_page result (asks.given ++ asks.left) all (needed v serves there),
              sum_by-at weight all,
            );
        keeps = s.keeps;
        each = λ v serves held found at there.
            let ok = found_ok result found in
            let one = asked-there (asks.given ++ asks.left) (pages_needed v.listed.listing q.terms q.mode q.k) (asked v serves held ok) at there in
            subst (λ (a : ℕ). Contains s.reads a ⊎ IsCached a (pages_of old)) one.1.1 ((s.given ok).each one.0 one.1.0);
        exact = λ v serves held found none weight.
            let ok = found_ok result found in
            let all = pages_needed v.listed.listing q.terms q.mode q.k in
            let by_page : PageRef → ℕ = λ (p : PageRef). weight p.at in
            ap (sum_by weight) ((s.given ok).all none) ∙ sum_by-at weight (asks.given ++ asks.left) ∙ asked v serves held ok by_page
            ∙ sym (sum_by-at weight all);
        read = failed_read result (Rose (view (disk_of old)).read_faults (view (disk_of new)).read_faults) rose;
      }
