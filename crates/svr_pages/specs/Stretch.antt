-- What a stretch of pages that were asked for means for the disk and the cache.
use Rattle.std.specs.Prelude.{◌≡◌, ◌⊎◌, ◌≤◌, ◌<◌, ◌+◌, ℕ, List, [], ◌∷◌, ◌++◌, map, Option, None, Contains}
use Rattle.std.specs.Option.{IsSome, option_map}
use Rattle.svr_edge.specs.Causes.{Rose}
use Rattle.svr_edge.specs.Disk.{DiskView, Stays}
use Rattle.svr_postpage.specs.declared.page_ref.PageFault.{PageFault}
use Rattle.svr_postpage.specs.declared.page_ref.PageFault.TheVariants as fault
use Rattle.svr_postpage.specs.declared.page_ref.PageRef.{PageRef}
use Rattle.svr_pages.specs.Cached.{CachedPages, cached_at}

-- the trace with a read of 4,096 bytes more at each of these addresses
abbrev pub with_reads : Option (List (ℕ × ℕ)) → List ℕ → Option (List (ℕ × ℕ))
with_reads trace reads = option_map (λ before. before ++ map (λ at. (at, 4096)) reads) trace

-- the pages at these addresses were read in turn, which stands in the trace, and nothing else
pub record ReadsInTurn (reads : List ℕ) (old new : DiskView) : Type 0 where
  pub stays : Stays old new
  pub trace : new.trace ≡ with_reads old.trace reads
  pub later : old.read_faults ≤ new.read_faults
  pub writes : new.write_faults ≡ old.write_faults

-- where pages are
abbrev pub addresses : List PageRef → List ℕ
addresses pages = map (λ page. page.at) pages

-- some of these, in their order, each place at most once
abbrev pub ArePicked : List ℕ → List ℕ → Type 0
ArePicked some [] = some ≡ []
ArePicked some (at ∷ places) = ArePicked some places ⊎ ((rest : List ℕ) × (some ≡ at ∷ rest) × ArePicked rest places)

-- a page is cached for an address
abbrev pub IsCached : ℕ → CachedPages → Type 0
IsCached at c = IsSome (cached_at at c)

-- each of these pages is cached
abbrev pub AreCached : List PageRef → CachedPages → Type 0
AreCached pages c = (page : PageRef) → Contains pages page → IsCached page.at c

-- these pages were given in turn, those at these addresses by a read
pub record IsStretch (given : List PageRef) (reads : List ℕ) (old new : DiskView) (pages kept : CachedPages) : Type 0 where
  pub disk : ReadsInTurn reads old new
  -- they were read in turn, each at most as often as it was given
  pub in_order : ArePicked reads (addresses given)
  -- what wasn't read was cached before
  pub each : (page : PageRef) → Contains given page → Contains reads page.at ⊎ IsCached page.at pages
  -- what is cached was cached before, or was read
  pub cached_after : (at : ℕ) → IsCached at kept → IsCached at pages ⊎ Contains reads at
  -- where all were cached none is read
  pub none : AreCached given pages → reads ≡ []
  -- where none can be cached all are
  pub all : pages.capacity ≡ 0 → reads ≡ addresses given
  pub capacity : kept.capacity ≡ pages.capacity

-- what became of the page that a fault tells: its read failed and was counted; or it was read, was cached, or ends past reach
abbrev pub WasSeen : ℕ → PageRef → List ℕ → DiskView → DiskView → CachedPages → PageFault → Type 0
WasSeen reach page reads old new pages fault.Read = (cached_at page.at pages ≡ None) × Rose old.read_faults new.read_faults
WasSeen reach page reads old new pages (fault.Damaged at why) =
    (at ≡ page.at) × ((reads ≡ page.at ∷ []) ⊎ IsCached page.at pages ⊎ (reach < page.at + 4096))

-- one page came to a fault, behind at most one read, that of its address
pub record IsFault (reach : ℕ) (page : PageRef) (why : PageFault) (reads : List ℕ) (old new : DiskView) (pages kept : CachedPages)
    : Type 0 where
  pub disk : ReadsInTurn reads old new
  pub at_most : ArePicked reads (page.at ∷ [])
  pub seen : WasSeen reach page reads old new pages why
  -- a cached page isn't read
  pub none : IsCached page.at pages → reads ≡ []
  -- the same pages are cached
  pub same_cached : (at : ℕ) → cached_at at kept ≡ cached_at at pages
  pub capacity : kept.capacity ≡ pages.capacity
