-- A stretch of pages, made of its steps.
use Rattle.std.proofs.Common.{◌≡◌, ◌⊎◌, ◌≤◌, ◌-◌, ℕ, true, false, nat_eq, List, [], ◌∷◌, ◌++◌, map, length, Contains, Option, None, Some, refl, sym, ap, subst, ◌∙◌, arith, eqb-true, inl, inr, append-nil, append_assoc}
use Rattle.std.specs.List.{AllByRecursion, IsDistinct, sum_by}
use Rattle.std.proofs.lemmas.Map.Keys.{IsDistinct-cons, IsDistinct-head, IsDistinct-tail}
use Rattle.std.specs.Map.{lookup}
use Rattle.std.specs.Option.{IsSome, is_some}
use Rattle.std.proofs.lemmas.List.{map-append, nil_from_length}
use Rattle.std.proofs.lemmas.List.Sums.{sum_by-cons}
use Rattle.lru.proofs.Splits.{Contains-cons, Contains-head, Contains-nil, Contains-tail}
use Rattle.svr_edge.specs.Disk.{DiskView, Stays}
use Rattle.svr_edge.proofs.DiskLemmas.{Leaves-refl, Stays-trans}
use Rattle.svr_postpage.specs.declared.page_ref.PageRef.{PageRef}
use Rattle.svr_postpage.specs.Reading.{InTurn}
use Rattle.svr_pages.specs.Asked.{AreRead, FromCache, FromDisk, Gives, IsReady, ReadsOnce}
use Rattle.svr_pages.specs.Cached.{CachedPages, MayKeep, cached_at, with_page}
use Rattle.svr_pages.specs.Stretch.{ArePicked, IsCached, IsStretch, ReadsInTurn, addresses, with_reads}
use Rattle.svr_pages.proofs.Telling.{ready-keeps, ready-stays, ready-used}
use Rattle.svr_pages.proofs.Using.{cached_at-used, found-front}

-- no read more
pub with_reads-none : (trace : Option (List (ℕ × ℕ))) → with_reads trace [] ≡ trace
with_reads-none None = refl
with_reads-none (Some before) = ap (λ (l : List (ℕ × ℕ)). Some l) (append-nil before)

-- reads behind reads
pub with_reads-append : (trace : Option (List (ℕ × ℕ))) (first second : List ℕ)
    → with_reads (with_reads trace first) second ≡ with_reads trace (first ++ second)
with_reads-append None first second = refl
with_reads-append (Some before) first second =
    ap (λ (l : List (ℕ × ℕ)). Some l)
    (append_assoc before (map (λ (at : ℕ). (at, 4096)) first) (map (λ (at : ℕ). (at, 4096)) second)
    ∙ ap (λ (l : List (ℕ × ℕ)). before ++ l) (sym (map-append (λ (at : ℕ). (at, 4096)) first second)))

Stays-refl : (d : DiskView) → Stays d d
Stays-refl d = record { size = refl; content = refl; images = Leaves-refl d (λ _. ⊥) }

pub reads_none : (old new : DiskView) → new ≡ old → ReadsInTurn [] old new
reads_none old new same = subst (ReadsInTurn [] old) (sym same) record {
  stays = Stays-refl old;
  trace = sym (with_reads-none old.trace);
  later = omega arith;
  writes = refl;
}

pub reads_once : (at : ℕ) (old new : DiskView) → ReadsOnce at old new → ReadsInTurn (at ∷ []) old new
reads_once at old new once = record { stays = once.stays; trace = once.trace; later = once.later; writes = once.writes }

-- one stretch behind another
pub reads_more : (first second : List ℕ) (old mid new : DiskView) → ReadsInTurn first old mid → ReadsInTurn second mid new
    → ReadsInTurn (first ++ second) old new
reads_more first second old mid new one two = record {
  stays = Stays-trans old mid new one.stays two.stays;
  trace = two.trace ∙ ap (λ t. with_reads t second) one.trace ∙ with_reads-append old.trace first second;
  later = omega (arith, one.later, two.later);
  writes = two.writes ∙ one.writes;
}

-- what is read of a page that was given: nothing where it is cached, else its address
pub record IsStep (page : PageRef) (reads : List ℕ) (old new : DiskView) (pages kept : CachedPages) : Type 0 where
  pub disk : ReadsInTurn reads old new
  pub what : ((reads ≡ []) × IsCached page.at pages × ((at : ℕ) → cached_at at kept ≡ cached_at at pages))
      ⊎ ((reads ≡ page.at ∷ []) × (cached_at page.at pages ≡ None) × ((at : ℕ) → IsCached at kept → IsCached at pages ⊎ (page.at ≡ at)))
  pub capacity : kept.capacity ≡ pages.capacity

-- what is cached after a page came in front
cached-with_page : (page : List ℕ) (at k : ℕ) (c : CachedPages) → IsCached k (with_page at page c) → IsCached k c ⊎ (at ≡ k)
cached-with_page page at k c there = (elim (nat_eq k at) as (λ b. nat_eq k at ≡ b → IsCached k c ⊎ (at ≡ k)) [
  | true ↦ λ t. inr (sym (eqb-true k at t))
  | false ↦ λ t. inl (found-front (nat_eq k) (c.capacity - 1) c.pages (rw t at there))
]) refl

cached-kept : (page : List ℕ) (at k : ℕ) (c kept : CachedPages) → MayKeep at page c kept → IsCached k kept → IsCached k c ⊎ (at ≡ k)
cached-kept page at k c kept (inl same) there = inl (subst (IsCached k) same there)
cached-kept page at k c kept (inr (room, is)) there = cached-with_page page at k c (subst (IsCached k) is there)

capacity-kept : (page : List ℕ) (at : ℕ) (c kept : CachedPages) → MayKeep at page c kept → kept.capacity ≡ c.capacity
capacity-kept page at c kept (inl same) = ap (λ (p : CachedPages). p.capacity) same
capacity-kept page at c kept (inr (room, is)) = ap (λ (p : CachedPages). p.capacity) is

module _ {D : Type 0} (view : D → DiskView) (reach : ℕ) (want : PageRef) (old new : D) (pages kept : CachedPages) where
  from_cache : (bytes : List ℕ) → FromCache view reach want old new pages kept bytes → IsStep want [] (view old) (view new) pages kept
  from_cache bytes from = record {
    disk = reads_none (view old) (view new) (ap view from.same_disk);
    what = inl (
      refl,
      ap (λ (o : Option (List ℕ)). is_some o) from.cached,
      λ at. ap (cached_at at) from.in_front ∙ cached_at-used at want.at pages,
    );
    capacity = ap (λ (p : CachedPages). p.capacity) from.in_front;
  }

  from_disk : (bytes : List ℕ) → FromDisk view reach want old new pages kept → MayKeep want.at bytes pages kept
      → IsStep want (want.at ∷ []) (view old) (view new) pages kept
  from_disk bytes from keeps = record {
    disk = reads_once want.at (view old) (view new) from.once;
    what = inr (refl, from.not_cached, λ at. cached-kept bytes want.at at pages kept keeps);
    capacity = capacity-kept bytes want.at pages kept keeps;
  }

  steps : (bytes : List ℕ) → FromCache view reach want old new pages kept bytes ⊎ (FromDisk view reach want old new pages kept × MayKeep want.at bytes pages kept)
      → (reads : List ℕ) × IsStep want reads (view old) (view new) pages kept
  steps bytes (inl from) = ([], from_cache bytes from)
  steps bytes (inr (from, keeps)) = (want.at ∷ [], from_disk bytes from keeps)

  -- a page that was given is a step
  pub step-given : Gives view reach want old new pages kept → (reads : List ℕ) × IsStep want reads (view old) (view new) pages kept
  step-given given = steps given.bytes given.from

  ready-from : (bytes : List ℕ) → IsReady reach (view old) pages → AreRead want.at (view old) bytes
      → FromCache view reach want old new pages kept bytes ⊎ (FromDisk view reach want old new pages kept × MayKeep want.at bytes pages kept)
      → IsReady reach (view new) kept
  ready-from bytes ready read (inl from) =
      subst (λ d. IsReady reach (view d) kept) (sym from.same_disk)
      (subst (IsReady reach (view old)) (sym from.in_front) (ready-used reach (view old) pages want.at ready))
  ready-from bytes ready read (inr (from, keeps)) =
      ready-stays reach (view old) (view new) kept
      (ready-keeps reach (view old) pages kept want.at bytes ready from.within read keeps) from.once.stays

  -- the reader stays ready
  pub ready-given : IsReady reach (view old) pages → Gives view reach want old new pages kept → IsReady reach (view new) kept
  ready-given ready given = ready-from given.bytes ready given.are_read given.from

pub not_both : {T : Type 0} (o : Option T) → IsSome o → o ≡ None → ⊥
not_both None some none = absurd (cc)
not_both (Some x) some none = absurd (cc)

no_pages : (c : CachedPages) (at : ℕ) → length c.pages ≤ c.capacity → c.capacity ≡ 0 → cached_at at c ≡ None
no_pages c at room zero =
    let none : length c.pages ≡ 0 = omega arith in
    ap (lookup (nat_eq at)) (nil_from_length c.pages none)

-- nothing was asked for
pub stretch-none : (d : DiskView) (c : CachedPages) → IsStretch [] [] d d c c
stretch-none d c = record {
  disk = reads_none d d refl;
  in_order = refl;
  each = λ page in_it. absurd (Contains-nil page in_it);
  cached_after = λ at there. inl there;
  none = λ _. refl;
  all = λ _. refl;
  capacity = refl;
}

-- one page more, in front of a stretch
module _ (page : PageRef) (given : List PageRef) (reads : List ℕ) (old mid new : DiskView) (pages between kept : CachedPages)
    (room : length pages.pages ≤ pages.capacity) (rest : IsStretch given reads mid new between kept)
    (same_capacity : between.capacity ≡ pages.capacity) where
  -- it was cached
  stretch-cached : ReadsInTurn [] old mid → IsCached page.at pages → ((at : ℕ) → cached_at at between ≡ cached_at at pages)
      → IsStretch (page ∷ given) reads old new pages kept
  stretch-cached disk cached same =
      let was : (at : ℕ) → IsCached at between → IsCached at pages = λ at there. subst (λ (o : Option (List ℕ)). IsSome o) (same at) there in
      record {
        disk = reads_more [] reads old mid new disk rest.disk;
        in_order = inl rest.in_order;
        each = λ p in_it. elim (Contains-cons page given p in_it) [
          | inl is ↦ inr (subst (λ (q : PageRef). IsCached q.at pages) is cached)
          | inr there ↦ elim (rest.each p there) [
            | inl read ↦ inl read
            | inr before ↦ inr (was p.at before)
          ]
        ];
        cached_after = λ at there. elim (rest.cached_after at there) [
          | inl before ↦ inl (was at before)
          | inr read ↦ inr read
        ];
        none = λ all. rest.none (λ p there. subst (λ (o : Option (List ℕ)). IsSome o) (sym (same p.at))
            (all p (Contains-tail page given p there)));
        all = λ zero. absurd (not_both (cached_at page.at pages) cached (no_pages pages page.at room zero));
        capacity = rest.capacity ∙ same_capacity;
      }

  -- it was read
  stretch-read : ReadsInTurn (page.at ∷ []) old mid → cached_at page.at pages ≡ None
      → ((at : ℕ) → IsCached at between → IsCached at pages ⊎ (page.at ≡ at)) → IsStretch (page ∷ given) (page.at ∷ reads) old new pages kept
  stretch-read disk none was =
      let before : (at : ℕ) → IsCached at between → Contains (page.at ∷ reads) at ⊎ IsCached at pages = λ at there.
      elim (was at there) [
        | inl cached ↦ inr cached
        | inr same ↦ inl (subst (Contains (page.at ∷ reads)) same (Contains-head page.at reads))
      ] in
      record {
        disk = reads_more (page.at ∷ []) reads old mid new disk rest.disk;
        in_order = inr (reads, refl, rest.in_order);
        each = λ p in_it. elim (Contains-cons page given p in_it) [
          | inl is ↦ inl (subst (λ (q : PageRef). Contains (page.at ∷ reads) q.at) is (Contains-head page.at reads))
          | inr there ↦ elim (rest.each p there) [
            | inl read ↦ inl (Contains-tail page.at reads p.at read)
            | inr cached ↦ before p.at cached
          ]
        ];
        cached_after = λ at there. elim (rest.cached_after at there) [
          | inl cached ↦ elim (before at cached) [
            | inl read ↦ inr read
            | inr was_there ↦ inl was_there
          ]
          | inr read ↦ inr (Contains-tail page.at reads at read)
        ];
        none = λ all. absurd (not_both (cached_at page.at pages) (all page (Contains-head page given)) none);
        all = λ zero. ap (λ (l : List ℕ). page.at ∷ l) (rest.all (same_capacity ∙ zero));
        capacity = rest.capacity ∙ same_capacity;
      }

  pub stretch-more : (one : List ℕ) → IsStep page one old mid pages between
      → (all : List ℕ) × IsStretch (page ∷ given) all old new pages kept
  stretch-more one step = elim step.what [
    | inl (none, cached, same) ↦ (
      reads,
      stretch-cached (subst (λ l. ReadsInTurn l old mid) none step.disk) cached same,
    )
    | inr (once, not_cached, was) ↦ (
      page.at ∷ reads,
      stretch-read (subst (λ l. ReadsInTurn l old mid) once step.disk) not_cached was,
    )
  ]

-- what no page changes stays through a whole stretch
pub stretch-same : {R N : Type 0} (gives : R → PageRef → R → Type 0) (name : R → N)
    → ((old : R) (want : PageRef) (new : R) → gives old want new → name new ≡ name old)
    → (given : List PageRef) (old new : R) → InTurn gives given old new → name new ≡ name old
stretch-same gives name each [] old new same = ap name same
stretch-same gives name each (page ∷ given) old new (between, first, then) =
    stretch-same gives name each given between new then ∙ each old page between first

-- pages that a reader gave in turn, by what its relation means for its disk and its cache
module _ {R D : Type 0} (view : D → DiskView) (reach_of : R → ℕ) (disk_of : R → D) (pages_of : R → CachedPages)
    (gives : R → PageRef → R → Type 0) where
  -- a page was given: so much does its relation say
  abbrev pub Means : Type 0
  Means = (old : R) (want : PageRef) (new : R) → gives old want new
      → Gives view (reach_of old) want (disk_of old) (disk_of new) (pages_of old) (pages_of new) × (reach_of new ≡ reach_of old)

  abbrev Ready : R → Type 0
  Ready r = IsReady (reach_of r) (view (disk_of r)) (pages_of r)

  ready-step : Means → (old : R) (want : PageRef) (new : R) → Ready old → gives old want new → Ready new
  ready-step means old want new ready given =
      let is = means old want new given in
      subst (λ n. IsReady n (view (disk_of new)) (pages_of new)) (sym is.1)
      (ready-given view (reach_of old) want (disk_of old) (disk_of new) (pages_of old) (pages_of new) ready is.0)

  -- a reader stays ready, and reaches as far, through a whole stretch
  pub stretch-ready : Means → (given : List PageRef) (old new : R) → Ready old → InTurn gives given old new
      → Ready new × (reach_of new ≡ reach_of old)
  stretch-ready means [] old new ready same = (subst Ready (sym same) ready, ap reach_of same)
  stretch-ready means (page ∷ given) old new ready (between, first, then) =
      let rest = stretch-ready means given between new (ready-step means old page between ready first) then in
      (rest.0, rest.1 ∙ (means old page between first).1)

  -- what a whole stretch means
  pub stretch-given : Means → (given : List PageRef) (old new : R) → Ready old → InTurn gives given old new
      → (reads : List ℕ) × IsStretch given reads (view (disk_of old)) (view (disk_of new)) (pages_of old) (pages_of new)
  stretch-given means [] old new ready same = (
    [],
    subst (λ r. IsStretch [] [] (view (disk_of old)) (view (disk_of r)) (pages_of old) (pages_of r)) (sym same)
        (stretch-none (view (disk_of old)) (pages_of old)),
  )
  stretch-given means (page ∷ given) old new ready (between, first, then) =
      let rest = stretch-given means given between new (ready-step means old page between ready first) then in
      let step = step-given view (reach_of old) page (disk_of old) (disk_of between) (pages_of old) (pages_of between)
      (means old page between first).0 in
      stretch-more page given rest.0 (view (disk_of old)) (view (disk_of between)) (view (disk_of new)) (pages_of old) (pages_of between)
      (pages_of new) ready.room rest.1 step.1.capacity step.0 step.1

-- each address is read at most as often as a page at it was given
pub picked-sums : (f : ℕ → ℕ) (pages : List PageRef) (reads : List ℕ) → ArePicked reads (addresses pages)
    → sum_by f reads ≤ sum_by (λ (page : PageRef). f page.at) pages
picked-sums f [] reads none = omega (arith, ap (sum_by f) none)
picked-sums f (page ∷ pages) reads (inl left_out) =
    omega (arith, picked-sums f pages reads left_out, sum_by-cons (λ (p : PageRef). f p.at) page pages)
picked-sums f (page ∷ pages) reads (inr (rest, is, picked)) =
    omega (
      arith,
      ap (sum_by f) is,
      sum_by-cons f page.at rest,
      picked-sums f pages rest picked,
      sum_by-cons (λ (p : PageRef). f p.at) page pages,
    )

-- what was read was given
pub picked-among : (places some : List ℕ) (at : ℕ) → ArePicked some places → Contains some at → Contains places at
picked-among [] some at none there = subst (λ l. Contains l at) none there
picked-among (first ∷ places) some at (inl left_out) there = Contains-tail first places at (picked-among places some at left_out there)
picked-among (first ∷ places) some at (inr (rest, is, picked)) there = elim (Contains-cons first rest at (subst (λ l. Contains l at) is there)) [
  | inl same ↦ subst (Contains (first ∷ places)) same (Contains-head first places)
  | inr behind ↦ Contains-tail first places at (picked-among places rest at picked behind)
]

picked-all : (P : ℕ → Type 0) (places some : List ℕ) → ArePicked some places → AllByRecursion P places → AllByRecursion P some
picked-all P [] some none all = subst (AllByRecursion P) (sym none) tt
picked-all P (first ∷ places) some (inl left_out) all = picked-all P places some left_out all.1
picked-all P (first ∷ places) some (inr (rest, is, picked)) all =
    subst (AllByRecursion P) (sym is) (all.0, picked-all P places rest picked all.1)

-- where no place is given twice none is read twice
pub picked-distinct : (places some : List ℕ) → ArePicked some places → IsDistinct nat_eq places → IsDistinct nat_eq some
picked-distinct [] some none apart = subst (IsDistinct nat_eq) (sym none) apart
picked-distinct (first ∷ places) some (inl left_out) apart =
    picked-distinct places some left_out (IsDistinct-tail nat_eq first places apart)
picked-distinct (first ∷ places) some (inr (rest, is, picked)) apart =
    subst (IsDistinct nat_eq) (sym is) (IsDistinct-cons nat_eq first rest
    (picked-all (λ y. nat_eq first y ≡ false) places rest picked (IsDistinct-head nat_eq first places apart))
    (picked-distinct places rest picked (IsDistinct-tail nat_eq first places apart)))
