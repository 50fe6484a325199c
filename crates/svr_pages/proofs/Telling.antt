-- That what is cached stays that of the disk, and what an answer says.
use Rattle.std.proofs.Common.{◌≡◌, ℕ, ◌≤◌, ◌+◌, ◌-◌, nat_eq, List, take, Contains, Option, None, Some, Result, Ok, Err, OnOk, IfErr, refl, sym, ap, subst, ◌∙◌, arith, inl, inr, eqb-true}
use Rattle.std.proofs.lemmas.List.{length-take}
use Rattle.lru.specs.LruCache.{promoted}
use Rattle.lru.proofs.CallerLemmas.{Contains-lookup, Contains-promoted, Contains-take}
use Rattle.lru.proofs.Splits.{Contains-cons}
use Rattle.svr_edge.specs.Disk.{DiskView, Stays}
use Rattle.svr_postpage.specs.declared.page_ref.Damage.{Damage}
use Rattle.svr_postpage.specs.declared.page_ref.PageFault.{PageFault}
use Rattle.svr_postpage.specs.declared.page_ref.PageFault.TheVariants as fault
use Rattle.svr_postpage.specs.declared.page_ref.PageRef.{PageRef}
use Rattle.svr_postpage.specs.Pages.{bytes_at}
use Rattle.svr_pages.specs.Asked.{AreRead, IsReady}
use Rattle.svr_pages.specs.Cached.{CachedPages, MayKeep, cached_at, used, with_page}
use Rattle.svr_pages.proofs.Using.{length-promoted}
use Rattle.svr_pages.specs.Layout.{Says}
use Rattle.svr_pages.specs.Told.{bytes_at-is}

pub cached_is_read : (reach : ℕ) (d : DiskView) (c : CachedPages) (at : ℕ) (into : List ℕ) → IsReady reach d c
    → cached_at at c ≡ Some into → AreRead at d into
cached_is_read reach d c at into ready found = λ content told.
    let there = Contains-lookup (nat_eq at) c.pages into found in
    let same : at ≡ there.0 = eqb-true at there.0 there.2 in
    ready.cached content told there.0 into there.1
    ∙ ap (λ k. bytes_at content k) (sym same)
    ∙ bytes_at-is at content

-- the answer, by what is wrong
pub says_page : {T : Type 0} (want : PageRef) (o : Option Damage) (result : Result T PageFault) → Says want o result → OnOk result (o ≡ None)
says_page want None (Ok x) says = refl
says_page want None (Err e) says = tt
says_page want (Some why) (Ok x) says = absurd (cc)
says_page want (Some why) (Err e) says = tt

pub says_fault : {T : Type 0} (want : PageRef) (o : Option Damage) (result : Result T PageFault) (P : PageFault → Type 0) → Says want o result
    → ((why : Damage) → o ≡ Some why → P (fault.Damaged want.at why)) → IfErr result P
says_fault want None (Ok x) P says each = tt
says_fault want None (Err e) P says each = absurd says
says_fault want (Some why) (Ok x) P says each = tt
says_fault want (Some why) (Err e) P says each =
    let same : e ≡ fault.Damaged want.at why = cc in
    subst P (sym same) (each why refl)

-- what is cached stays that of the disk
pub ready-used : (reach : ℕ) (d : DiskView) (c : CachedPages) (at : ℕ) → IsReady reach d c → IsReady reach d (used at c)
ready-used reach d c at ready =
    let was : (e : ℕ × List ℕ) → Contains (promoted (nat_eq at) c.pages) e → Contains c.pages e =
    Contains-promoted (nat_eq at) c.pages in
    record {
      within = ready.within;
      cached = λ content told k bytes in_it. ready.cached content told k bytes (was (k, bytes) in_it);
      inside = λ k bytes in_it. ready.inside k bytes (was (k, bytes) in_it);
      room = subst (λ n. n ≤ c.capacity) (sym (length-promoted (nat_eq at) c.pages)) ready.room;
    }

-- a cached page came in front, or was there
in_with_page : (P : ℕ → List ℕ → Type 0) (at : ℕ) (page : List ℕ) (c : CachedPages) → P at page
    → ((k : ℕ) (bytes : List ℕ) → Contains c.pages (k, bytes) → P k bytes)
    → (k : ℕ) (bytes : List ℕ) → Contains (with_page at page c).pages (k, bytes) → P k bytes
in_with_page P at page c here each k bytes in_it =
    elim (Contains-cons (at, page) (take (c.capacity - 1) c.pages) (k, bytes) in_it) [
      | inl same ↦ subst (λ (e : ℕ × List ℕ). P e.0 e.1) same here
      | inr there ↦ each k bytes (Contains-take (c.capacity - 1) c.pages (k, bytes) there)
    ]

-- and after a read
pub ready-stays : (reach : ℕ) (old new : DiskView) (c : CachedPages) → IsReady reach old c → Stays old new → IsReady reach new c
ready-stays reach old new c ready stays = record {
  within = subst (λ n. reach ≤ n) (sym stays.size) ready.within;
  cached = λ content told. ready.cached content (sym stays.content ∙ told);
  inside = ready.inside;
  room = ready.room;
}

pub ready-keeps : (reach : ℕ) (d : DiskView) (c kept : CachedPages) (at : ℕ) (bytes : List ℕ) → IsReady reach d c → at + 4096 ≤ reach
    → AreRead at d bytes → MayKeep at bytes c kept → IsReady reach d kept
ready-keeps reach d c kept at bytes ready ends read (inl same) = subst (IsReady reach d) (sym same) ready
ready-keeps reach d c kept at bytes ready ends read (inr (room, is)) =
    subst (IsReady reach d) (sym is) record {
      within = ready.within;
      cached = λ content told.
          in_with_page (λ k page. page ≡ bytes_at content k) at bytes c (read content told ∙ sym (bytes_at-is at content))
          (ready.cached content told);
      inside = in_with_page (λ k page. k + 4096 ≤ reach) at bytes c ends ready.inside;
      room = omega (arith, length-take (c.capacity - 1) c.pages, ready.room);
    }
