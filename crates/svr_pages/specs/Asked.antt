-- What asking for a page does.
use Rattle.std.specs.Prelude.{◌≡◌, ◌⊎◌, ◌≤◌, ◌<◌, ◌+◌, ℕ, List, take, drop, None, Some}
use Rattle.std.specs.Option.{option_map}
use Rattle.svr_edge.specs.Causes.{Rose}
use Rattle.svr_edge.specs.Disk.{DiskView, Reads, Stays, traced}
use Rattle.svr_postpage.specs.declared.page_ref.Damage.{Damage}
use Rattle.svr_postpage.specs.declared.page_ref.Damage.TheVariants as damage
use Rattle.svr_postpage.specs.declared.page_ref.PageFault.{PageFault}
use Rattle.svr_postpage.specs.declared.page_ref.PageFault.TheVariants as fault
use Rattle.svr_postpage.specs.declared.page_ref.PageRef.{PageRef}
use Rattle.svr_postpage.specs.Wanted.{damage_in}
use Rattle.svr_pages.specs.Cached.{AreOf, CachedPages, EndWithin, HasRoom, MayKeep, cached_at, used}

-- the disk reaches as far as is read, each cached page ends within that, and where the disk tells its bytes, has those at its address;
-- and there are no more of them than there may be
pub record IsReady (reach : ℕ) (d : DiskView) (c : CachedPages) : Type 0 where
  pub within : reach ≤ d.size
  pub cached : (bytes : List ℕ) → Reads d bytes → AreOf bytes c
  pub inside : EndWithin reach c
  pub room : HasRoom c

-- what is told below that place is the same
abbrev pub SameBelow : ℕ → DiskView → DiskView → Type 0
SameBelow reach old new = option_map (take reach) new.content ≡ option_map (take reach) old.content

-- bytes are the 4,096 that the disk tells from an address on, where it tells them
abbrev pub AreRead : ℕ → DiskView → List ℕ → Type 0
AreRead at d into = (bytes : List ℕ) → Reads d bytes → into ≡ take 4096 (drop at bytes)

-- one read of 4,096 bytes, which stands in the trace, and nothing else
pub record ReadsOnce (at : ℕ) (old new : DiskView) : Type 0 where
  pub stays : Stays old new
  pub trace : new.trace ≡ traced old.trace at 4096
  pub later : old.read_faults ≤ new.read_faults
  pub writes : new.write_faults ≡ old.write_faults

-- one read that failed: it was counted, and may not stand in the trace
pub record FailsToRead (at : ℕ) (old new : DiskView) : Type 0 where
  pub stays : Stays old new
  pub trace : (new.trace ≡ old.trace) ⊎ (new.trace ≡ traced old.trace at 4096)
  pub later : old.read_faults ≤ new.read_faults
  pub rose : Rose old.read_faults new.read_faults
  pub writes : new.write_faults ≡ old.write_faults

module _ {D : Type 0} (view : D → DiskView) (reach : ℕ) (want : PageRef) (old new : D) (pages kept : CachedPages) where
  -- the page ends past reach: nothing is done
  pub record PastReach : Type 0 where
    pub past : reach < want.at + 4096
    pub same_disk : new ≡ old
    pub same_pages : kept ≡ pages

  -- these bytes are cached for its address: the disk isn't read
  pub record FromCache (bytes : List ℕ) : Type 0 where
    pub within : want.at + 4096 ≤ reach
    pub cached : cached_at want.at pages ≡ Some bytes
    pub same_disk : new ≡ old
    pub in_front : kept ≡ used want.at pages

  -- none are cached: the disk is read, once
  pub record FromDisk : Type 0 where
    pub within : want.at + 4096 ≤ reach
    pub not_cached : cached_at want.at pages ≡ None
    pub once : ReadsOnce want.at (view old) (view new)

  -- none are cached, and the read failed
  pub record FailedRead : Type 0 where
    pub within : want.at + 4096 ≤ reach
    pub not_cached : cached_at want.at pages ≡ None
    pub fails : FailsToRead want.at (view old) (view new)
    pub same_pages : kept ≡ pages

  -- the page was given, with these bytes: from the cache, or read once, and then it may be cached
  pub record Gives : Type 0 where
    pub bytes : List ℕ
    pub wanted : damage_in want bytes ≡ None
    pub are_read : AreRead want.at (view old) bytes
    pub from : FromCache bytes ⊎ (FromDisk × MayKeep want.at bytes pages kept)

  -- the bytes that are cached, or were read once, aren't the page wanted; nothing more is cached
  pub record IsDamaged (why : Damage) : Type 0 where
    pub bytes : List ℕ
    pub wrong : damage_in want bytes ≡ Some why
    pub are_read : AreRead want.at (view old) bytes
    pub from : FromCache bytes ⊎ (FromDisk × (kept ≡ pages))

  -- asking for the page came to this fault
  abbrev pub Fails : PageFault → Type 0
  Fails fault.Read = FailedRead
  Fails (fault.Damaged at why) = (at ≡ want.at) × (((why ≡ damage.NotAPage) × PastReach) ⊎ IsDamaged why)
