-- Cached pages.
use Rattle.std.specs.Prelude.{◌≡◌, ◌⊎◌, ◌<◌, ◌≤◌, ◌+◌, ◌-◌, ℕ, List, ◌∷◌, length, take, nat_eq, Option, Contains}
use Rattle.std.specs.Map.{lookup}
use Rattle.lru.specs.LruCache.{promoted}
use Rattle.svr_postpage.specs.Pages.{bytes_at}

-- cached pages, each its address and its bytes, the one that was used last in front; and how many there may be
pub record CachedPages : Type 0 where
  pub pages : List (ℕ × List ℕ)
  pub capacity : ℕ

-- the bytes that are cached for an address
abbrev pub cached_at : ℕ → CachedPages → Option (List ℕ)
cached_at at c = lookup (nat_eq at) c.pages

-- the page at an address, if it is cached, goes in front
abbrev pub used : ℕ → CachedPages → CachedPages
used at c = record { pages = promoted (nat_eq at) c.pages; capacity = c.capacity }

-- a page comes in front; where there is no room the one in the end goes out
abbrev pub with_page : ℕ → List ℕ → CachedPages → CachedPages
with_page at bytes c = record { pages = (at, bytes) ∷ take (c.capacity - 1) c.pages; capacity = c.capacity }

-- a page is cached, where there is room at all, or it isn't
abbrev pub MayKeep : ℕ → List ℕ → CachedPages → CachedPages → Type 0
MayKeep at bytes old new = (new ≡ old) ⊎ ((0 < old.capacity) × (new ≡ with_page at bytes old))

-- each cached page has the bytes that stand at its address
abbrev pub AreOf : List ℕ → CachedPages → Type 0
AreOf content c = (at : ℕ) (bytes : List ℕ) → Contains c.pages (at, bytes) → bytes ≡ bytes_at content at

-- each cached page ends within reach
abbrev pub EndWithin : ℕ → CachedPages → Type 0
EndWithin reach c = (at : ℕ) (bytes : List ℕ) → Contains c.pages (at, bytes) → at + 4096 ≤ reach

-- there are no more pages than there may be
abbrev pub HasRoom : CachedPages → Type 0
HasRoom c = length c.pages ≤ c.capacity
