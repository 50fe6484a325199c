-- Words of private clauses: how the cache holds pages, and what a read answers.
use Rattle.std.specs.Prelude.{◌≡◌, ◌⊎◌, ◌<◌, ℕ, ⊤, List, [], nat_eq, map, Option, None, Some, Result, Ok, Err, Contains}
use Rattle.std.specs.Option.{option_map}
use Rattle.lru.specs.LruCache.{LruCache, lru_cache, put_entries}
use Rattle.svr_edge.specs.Disk.{DiskView}
use Rattle.svr_postpage.specs.declared.page_ref.Damage.{Damage}
use Rattle.svr_postpage.specs.declared.page_ref.PageFault.{PageFault}
use Rattle.svr_postpage.specs.declared.page_ref.PageFault.TheVariants as fault
use Rattle.svr_postpage.specs.declared.page_ref.PageRef.{PageRef}
use Rattle.svr_postpage.specs.Pages.{page_in}
use Rattle.svr_postpage.specs.Pairs.{ref_of}
use Rattle.svr_pages.specs.declared.pages.Kept.{Kept}
use Rattle.svr_postpage.specs.Wanted.{damage_in}
use Rattle.svr_pages.specs.Asked.{AreRead, FailsToRead, ReadsOnce}
use Rattle.svr_pages.specs.Cached.{CachedPages, MayKeep}

-- what is seen of a cache, if there is one
abbrev pub seen : Option (LruCache ℕ Kept) → CachedPages
seen None = record { pages = []; capacity = 0 }
seen (Some c) = record { pages = map (λ e. (e.0, e.1.bytes)) c.entries; capacity = c.cap }

-- each page is known by what stands beside it
abbrev pub EachKnown : List (ℕ × Kept) → Type 0
EachKnown es = (e : ℕ × Kept) → Contains es e → option_map (ref_of e.0) (page_in e.1.bytes) ≡ Some e.1.page

-- the same of a cache, if there is one; it has room
abbrev pub AreKnown : Option (LruCache ℕ Kept) → Type 0
AreKnown None = ⊤
AreKnown (Some c) = EachKnown c.entries × (0 < c.cap)

-- a page is put into the cache under its address, or it isn't
abbrev pub MayPut : PageRef → List ℕ → LruCache ℕ Kept → LruCache ℕ Kept → Type 0
MayPut page bytes old new =
    (new ≡ old) ⊎ (new ≡ lru_cache (put_entries nat_eq old page.at (record { page = page; bytes = bytes })) old.cap)

-- the answer where this is what is wrong with the page wanted, if anything is
abbrev pub Says : {T : Type 0} → PageRef → Option Damage → Result T PageFault → Type 0
Says want None (Ok x) = ⊤
Says want None (Err e) = ⊥
Says want (Some why) result = result ≡ Err (fault.Damaged want.at why)

-- reading a page that isn't cached: it was given, and may be cached; or the read failed; or what was read is damaged
abbrev pub ReadsPage : {T : Type 0} → PageRef → DiskView → DiskView → CachedPages → CachedPages → List ℕ → Result T PageFault → Type 0
ReadsPage want old new pages kept into (Ok x) =
    ReadsOnce want.at old new × AreRead want.at old into × (damage_in want into ≡ None) × MayKeep want.at into pages kept
ReadsPage want old new pages kept into (Err fault.Read) = FailsToRead want.at old new × (kept ≡ pages)
ReadsPage want old new pages kept into (Err (fault.Damaged at why)) =
    ReadsOnce want.at old new × AreRead want.at old into × (damage_in want into ≡ Some why) × (kept ≡ pages) × (at ≡ want.at)
