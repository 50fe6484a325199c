-- After one read of a page.
use Rattle.std.proofs.Common.{◌≡◌, ◌⊎◌, ◌≤◌, ◌+◌, ℕ, List, [], ◌∷◌, take, drop, Option, None, Some, Result, Ok, Err, OnOk, OnErr, IsOk}
use Rattle.std.proofs.Common.{IsErr, IfErr, refl, sym, ap, subst, ◌∙◌, inr}
use Rattle.std.specs.Option.{option_map}
use Rattle.svr_edge.specs.Disk.{DiskView, ReadCause, Reads, Stays, traced}
use Rattle.svr_postpage.specs.declared.page_ref.Damage.TheVariants as damage
use Rattle.svr_postpage.specs.declared.page_ref.PageFault.{PageFault}
use Rattle.svr_postpage.specs.declared.page_ref.PageFault.TheVariants as fault
use Rattle.svr_postpage.specs.declared.page_ref.PageRef.{PageRef}
use Rattle.svr_postpage.specs.declared.pair.Pair.{Pair}
use Rattle.svr_postpage.specs.Pages.{page_in}
use Rattle.svr_postpage.specs.Pairs.{ref_of}
use Rattle.svr_postpage.specs.Wanted.{damage_by_pairs, damage_in}
use Rattle.svr_pages.specs.Asked.{AreRead, Fails, FailsToRead, Gives, IsReady, ReadsOnce}
use Rattle.svr_pages.specs.Cached.{CachedPages, cached_at}
use Rattle.svr_pages.specs.Layout.{ReadsPage}
use Rattle.svr_pages.proofs.Telling.{ready-keeps, ready-stays}

-- a read that didn't fail
pub read_ok : {T E : Type 0} (at : ℕ) (old new : DiskView) (into : List ℕ) (n : ℕ) (result : Result T E) → n ≡ 4096 → IsOk result
    → Stays old new → OnOk result (new.trace ≡ traced old.trace at n)
    → OnOk result ((bytes : List ℕ) → Reads old bytes → into ≡ take n (drop at bytes)) → ReadCause old new result
    → ReadsOnce at old new × AreRead at old into
read_ok at old new into n (Ok x) long ok stays trace bytes cause = (
  record {
    stays = stays;
    trace = trace ∙ ap (traced old.trace at) long;
    later = cause.reads.later;
    writes = cause.writes;
  },
  λ content reads. bytes content reads ∙ ap (λ m. take m (drop at content)) long,
)
read_ok at old new into n (Err e) long ok stays trace bytes cause = absurd (cc)

-- one that did
pub read_failed : {T E : Type 0} (at : ℕ) (old new : DiskView) (n : ℕ) (result : Result T E) → n ≡ 4096 → IsErr result → Stays old new
    → OnErr result ((new.trace ≡ old.trace) ⊎ (new.trace ≡ traced old.trace at n)) → ReadCause old new result → FailsToRead at old new
read_failed at old new n (Ok x) long err stays trace cause = absurd (cc)
read_failed at old new n (Err e) long err stays trace cause = record {
  stays = stays;
  trace = subst (λ m. (new.trace ≡ old.trace) ⊎ (new.trace ≡ traced old.trace at m)) long trace;
  later = cause.reads.later;
  rose = cause.reads.failed;
  writes = cause.writes;
}

pub not_a_page : (want : PageRef) (into : List ℕ) → page_in into ≡ None → damage_in want into ≡ Some damage.NotAPage
not_a_page want into is = ap (damage_by_pairs want) is

at-ref_of : (at : ℕ) (pairs : List Pair) → (ref_of at pairs).at ≡ at
at-ref_of at [] = refl
at-ref_of at (p ∷ ps) = refl

-- what was found lies where it was read
pub at-found : (at : ℕ) (o : Option (List Pair)) (found : PageRef) → option_map (ref_of at) o ≡ Some found → found.at ≡ at
at-found at None found is = absurd (cc)
at-found at (Some pairs) found is =
    let same : ref_of at pairs ≡ found = cc in
    ap (λ (p : PageRef). p.at) (sym same) ∙ at-ref_of at pairs

-- what reading a page that isn't cached comes to
module _ {T : Type 0} (want : PageRef) (old new : DiskView) (pages kept : CachedPages) (into : List ℕ) where
  reads-stays : (result : Result T PageFault) → ReadsPage want old new pages kept into result → Stays old new
  reads-stays (Ok x) reads = reads.0.stays
  reads-stays (Err fault.Read) reads = reads.0.stays
  reads-stays (Err (fault.Damaged at why)) reads = reads.0.stays

  reads-kept : (reach : ℕ) (result : Result T PageFault) → want.at + 4096 ≤ reach → ReadsPage want old new pages kept into result
      → IsReady reach old pages → IsReady reach old kept
  reads-kept reach (Ok x) ends reads ready = ready-keeps reach old pages kept want.at into ready ends reads.1 reads.3
  reads-kept reach (Err fault.Read) ends reads ready = subst (IsReady reach old) (sym reads.1) ready
  reads-kept reach (Err (fault.Damaged at why)) ends reads ready = subst (IsReady reach old) (sym reads.3) ready

  pub reads-ready : (reach : ℕ) (result : Result T PageFault) → want.at + 4096 ≤ reach → ReadsPage want old new pages kept into result
      → IsReady reach old pages → IsReady reach new kept
  reads-ready reach result ends reads ready =
      ready-stays reach old new kept (reads-kept reach result ends reads ready) (reads-stays result reads)

  pub reads-bytes : (P : Type 0) (result : Result T PageFault) → ReadsPage want old new pages kept into result
      → (AreRead want.at old into → P) → OnOk result P
  reads-bytes P (Ok x) reads then = then reads.1
  reads-bytes P (Err e) reads then = tt

module _ {D T : Type 0} (view : D → DiskView) (reach : ℕ) (want : PageRef) (old new : D) (pages kept : CachedPages) (into : List ℕ)
    (within : want.at + 4096 ≤ reach) (none : cached_at want.at pages ≡ None) where
  pub reads-gives : (result : Result T PageFault) → ReadsPage want (view old) (view new) pages kept into result
      → OnOk result (Gives view reach want old new pages kept)
  reads-gives (Ok x) reads = record {
    bytes = into;
    wanted = reads.2;
    are_read = reads.1;
    from = inr (record { within = within; not_cached = none; once = reads.0 }, reads.3);
  }
  reads-gives (Err e) reads = tt

  pub reads-fails : (result : Result T PageFault) → ReadsPage want (view old) (view new) pages kept into result
      → IfErr result (Fails view reach want old new pages kept)
  reads-fails (Ok x) reads = tt
  reads-fails (Err fault.Read) reads =
      record { within = within; not_cached = none; fails = reads.0; same_pages = reads.1 }
  reads-fails (Err (fault.Damaged at why)) reads = (
    reads.4,
    inr (record {
      bytes = into;
      wrong = reads.2;
      are_read = reads.1;
      from = inr (record { within = within; not_cached = none; once = reads.0 }, reads.3);
    }),
  )
