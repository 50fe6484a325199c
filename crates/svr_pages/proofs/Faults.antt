-- The page that a call came to a fault at.
use Rattle.std.proofs.Common.{◌≡◌, ◌⊎◌, ℕ, List, [], ◌∷◌, Option, refl, sym, ap, subst, ◌∙◌, inl, inr}
use Rattle.std.specs.Option.{is_some}
use Rattle.svr_edge.specs.Disk.{DiskView}
use Rattle.svr_postpage.specs.declared.page_ref.Damage.{Damage}
use Rattle.svr_postpage.specs.declared.page_ref.PageFault.{PageFault}
use Rattle.svr_postpage.specs.declared.page_ref.PageFault.TheVariants as fault
use Rattle.svr_postpage.specs.declared.page_ref.PageRef.{PageRef}
use Rattle.svr_pages.specs.Asked.{Fails, FailedRead, FailsToRead, FromCache, FromDisk, IsReady, PastReach}
use Rattle.svr_pages.specs.Cached.{CachedPages, cached_at}
use Rattle.svr_pages.specs.Stretch.{ArePicked, IsCached, IsFault, ReadsInTurn}
use Rattle.svr_pages.proofs.Stretching.{not_both, reads_none, reads_once, with_reads-none}
use Rattle.svr_pages.proofs.Telling.{ready-stays, ready-used}
use Rattle.svr_pages.proofs.Using.{cached_at-used}

none_read : (at : ℕ) → ArePicked [] (at ∷ [])
none_read at = inl refl

one_read : (at : ℕ) → ArePicked (at ∷ []) (at ∷ [])
one_read at = inr ([], refl, refl)

-- a failed read may stand in the trace
failed-reads : (at : ℕ) (old new : DiskView) → FailsToRead at old new
    → (reads : List ℕ) × ReadsInTurn reads old new × ArePicked reads (at ∷ [])
failed-reads at old new fails = elim fails.trace [
  | inl same ↦ (
    [],
    record {
      stays = fails.stays;
      trace = same ∙ sym (with_reads-none old.trace);
      later = fails.later;
      writes = fails.writes;
    },
    none_read at,
  )
  | inr once ↦ (
    at ∷ [],
    record { stays = fails.stays; trace = once; later = fails.later; writes = fails.writes },
    one_read at,
  )
]

module _ {D : Type 0} (view : D → DiskView) (reach : ℕ) (page : PageRef) (old new : D) (pages kept : CachedPages) where
  abbrev Seen : PageFault → Type 0
  Seen why = (reads : List ℕ) × IsFault reach page why reads (view old) (view new) pages kept

  same_pages : kept ≡ pages → (at : ℕ) → cached_at at kept ≡ cached_at at pages
  same_pages same at = ap (cached_at at) same

  fault-read : FailedRead view reach page old new pages kept → Seen fault.Read
  fault-read failed =
      let reads = failed-reads page.at (view old) (view new) failed.fails in (
        reads.0,
        record {
          disk = reads.1;
          at_most = reads.2;
          seen = (failed.not_cached, failed.fails.rose);
          none = λ cached. absurd (not_both (cached_at page.at pages) cached failed.not_cached);
          same_cached = same_pages failed.same_pages;
          capacity = ap (λ (c : CachedPages). c.capacity) failed.same_pages;
        },
      )

  fault-past : (at : ℕ) (why : Damage) → at ≡ page.at → PastReach view reach page old new pages kept → Seen (fault.Damaged at why)
  fault-past at why same past = (
    [],
    record {
      disk = reads_none (view old) (view new) (ap view past.same_disk);
      at_most = none_read page.at;
      seen = (same, inr (inr past.past));
      none = λ _. refl;
      same_cached = same_pages past.same_pages;
      capacity = ap (λ (c : CachedPages). c.capacity) past.same_pages;
    },
  )

  fault-damaged : (at : ℕ) (why : Damage) (bytes : List ℕ) → at ≡ page.at
      → FromCache view reach page old new pages kept bytes ⊎ (FromDisk view reach page old new pages kept × (kept ≡ pages))
      → Seen (fault.Damaged at why)
  fault-damaged at why bytes same (inl from) =
      let cached : IsCached page.at pages = ap (λ (o : Option (List ℕ)). is_some o) from.cached in (
        [],
        record {
          disk = reads_none (view old) (view new) (ap view from.same_disk);
          at_most = none_read page.at;
          seen = (same, inr (inl cached));
          none = λ _. refl;
          same_cached = λ k. ap (cached_at k) from.in_front ∙ cached_at-used k page.at pages;
          capacity = ap (λ (c : CachedPages). c.capacity) from.in_front;
        },
      )
  fault-damaged at why bytes same (inr (from, same_kept)) = (
    page.at ∷ [],
    record {
      disk = reads_once page.at (view old) (view new) from.once;
      at_most = one_read page.at;
      seen = (same, inl refl);
      none = λ cached. absurd (not_both (cached_at page.at pages) cached from.not_cached);
      same_cached = same_pages same_kept;
      capacity = ap (λ (c : CachedPages). c.capacity) same_kept;
    },
  )

  -- what a page's fault means
  pub fault-means : (why : PageFault) → Fails view reach page old new pages kept why → Seen why
  fault-means fault.Read failed = fault-read failed
  fault-means (fault.Damaged at why) (same, inl (none, past)) = fault-past at why same past
  fault-means (fault.Damaged at why) (same, inr damaged) = fault-damaged at why damaged.bytes same damaged.from

  kept-same : (v : DiskView) → IsReady reach v pages → kept ≡ pages → IsReady reach v kept
  kept-same v ready same = subst (IsReady reach v) (sym same) ready

  damaged-ready : (bytes : List ℕ) → IsReady reach (view old) pages
      → FromCache view reach page old new pages kept bytes ⊎ (FromDisk view reach page old new pages kept × (kept ≡ pages))
      → IsReady reach (view new) kept
  damaged-ready bytes ready (inl from) =
      subst (λ d. IsReady reach (view d) kept) (sym from.same_disk)
      (subst (IsReady reach (view old)) (sym from.in_front) (ready-used reach (view old) pages page.at ready))
  damaged-ready bytes ready (inr (from, same)) =
      ready-stays reach (view old) (view new) kept (kept-same (view old) ready same) from.once.stays

  -- the reader stays ready through a fault
  pub fault-ready : (why : PageFault) → IsReady reach (view old) pages → Fails view reach page old new pages kept why
      → IsReady reach (view new) kept
  fault-ready fault.Read ready failed =
      ready-stays reach (view old) (view new) kept (kept-same (view old) ready failed.same_pages) failed.fails.stays
  fault-ready (fault.Damaged at why) ready (same, inl (none, past)) =
      subst (λ d. IsReady reach (view d) kept) (sym past.same_disk) (kept-same (view old) ready past.same_pages)
  fault-ready (fault.Damaged at why) ready (same, inr damaged) = damaged-ready damaged.bytes ready damaged.from
