-- Which pages are cached behind a turn, and what is read for it beside them.
use Rattle.std.specs.Prelude.{◌≡◌, ◌⊎◌, ℕ, List, Contains}
use Rattle.svr_pages.specs.Cached.{CachedPages}
use Rattle.svr_pages.specs.Stretch.{IsCached}
use Rattle.svr_core.specs.Reads.{ReadsIfSearch}
use Rattle.svr_core.specs.Run.{Turn}
use Rattle.svr_core.specs.State.{State}

-- behind reads of pages at these addresses as many may be cached, and what is cached was cached before, or was read
pub record KeepsPages (reads : List ℕ) (before after : CachedPages) : Type 0 where
  pub capacity : after.capacity ≡ before.capacity
  pub cached : (at : ℕ) → IsCached at after → IsCached at before ⊎ Contains reads at

-- the pages that were read for a turn, and those that are cached behind it
pub record Caches (known : Type 0) (s : State) (t : Turn) (before after : CachedPages) : Type 0 where
  pub keeps : KeepsPages t.reads before after
  pub search : known → ReadsIfSearch (λ at. IsCached at before) before.capacity s t
