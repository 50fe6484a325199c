-- Where line feeds stand.
use Rattle.std.specs.Prelude.{◌≡◌, ◌≢◌, ℕ, ◌<◌, ◌≤◌, List, length, slice_index}

-- no line feed stands at a place from i up to j
abbrev pub NoFeed : List ℕ → ℕ → ℕ → Type 0
NoFeed bytes i j = (k : ℕ) → i ≤ k → k < j → slice_index bytes k ≢ 10

-- the first line feed at or behind from stands at
pub record FirstFeed (bytes : List ℕ) (from at : ℕ) : Type 0 where
  pub low : from ≤ at
  pub within : at < length bytes
  pub feed : slice_index bytes at ≡ 10
  pub before : NoFeed bytes from at
