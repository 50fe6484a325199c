-- Words of private clauses: the way through ascending scores.
use Rattle.std.specs.Prelude.{◌≡◌, ℕ, zero, suc, ◌<◌, ◌≤◌, Bool, true, false, List, take, drop, nat_lt, slice_index}
use Rattle.std.specs.List.{AllByRecursion}
use Rattle.svr_listing.specs.Bounds.{may_follow}

-- the scores that reach a bound are those from a place on
pub record Splits (bound : ℕ) (scores : List ℕ) (from : ℕ) : Type 0 where
  pub below : AllByRecursion (λ score. score < bound) (take from scores)
  pub above : AllByRecursion (λ score. bound ≤ score) (drop from scores)

-- none of the scores before a place may come after a bound
abbrev pub NoneFollows : List ℕ → ℕ → ℕ → ℕ → ℕ → Type 0
NoneFollows scores ratio min_docs bound at =
    AllByRecursion (λ score. may_follow scores ratio min_docs bound score ≡ false) (take at scores)

-- the score at a place is above the one before it, if there is one
abbrev pub is_new : List ℕ → ℕ → Bool
is_new scores zero = true
is_new scores (suc before) = nat_lt (slice_index scores before) (slice_index scores (suc before))
