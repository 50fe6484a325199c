-- Scores of a table, and scores that are within a bound.
use Rattle.std.specs.Prelude.{◌≤◌, ◌-◌, ◌^◌, ℕ, ◌==◌, List, find, min, Option, option_map}
use Rattle.std.specs.List.{AllByRecursion}
use Rattle.std.specs.Option.{ForSome}
use Rattle.svr_num.specs.declared.hit.Hit.{Hit}
use Rattle.svr_chunks.specs.Chosen.{chosen_rules}
use Rattle.svr_idmap.specs.Ids.{value_at}
use Rattle.svr_index.specs.Index.{Indexed}

-- the score of the first row with this id
abbrev pub score_in : List Hit → ℕ → Option ℕ
score_in rows id = option_map (λ hit. min hit.score (2 ^ 48 - 1)) (find (λ hit. hit.id == id) rows)

-- no id has a score above the bound
abbrev pub ScoresWithin : (ℕ → Option ℕ) → ℕ → List ℕ → Type 0
ScoresWithin score bound ids = AllByRecursion (λ id. ForSome (score id) (λ s. s ≤ bound)) ids

-- a score is at most the bound of the key at which an index lists its document
abbrev pub IsHitWithin : Indexed → Hit → Type 0
IsHitWithin index hit = ForSome (value_at index.entries hit.id) (λ entry. hit.score ≤ (chosen_rules index.method).bound entry.key)
