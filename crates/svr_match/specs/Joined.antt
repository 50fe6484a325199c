-- The ids that several lists have at one key, and where they may come.
use Rattle.std.specs.Prelude.{◌∷◌, ℕ, Bool, List, [], filter}
use Rattle.std.specs.List.{list_all, list_any}
use Rattle.svr_num.specs.declared.mode.Mode.{Mode}
use Rattle.svr_num.specs.declared.mode.Mode.TheVariants as mode
use Rattle.svr_listing.specs.Joined.{either, is_in}

-- an id may come at a key where it may in all, or in any, of the lists
abbrev pub may_in : Mode → List (ℕ → ℕ → Bool) → ℕ → ℕ → Bool
may_in mode.All mays key id = list_all (λ may. may key id) mays
may_in mode.Any mays key id = list_any (λ may. may key id) mays

-- those ids that are in each other list
abbrev pub common_with : List ℕ → List (List ℕ) → List ℕ
common_with ids others = filter (λ id. list_all (λ other. is_in id other) others) ids

abbrev pub common_of : List (List ℕ) → List ℕ
common_of [] = []
common_of (ids ∷ others) = common_with ids others

-- the ids that are in some list
abbrev pub any_of : List (List ℕ) → List ℕ
any_of [] = []
any_of (ids ∷ others) = either ids (any_of others)

-- the ids that are in all, or in any, of these
abbrev pub joined : Mode → List (List ℕ) → List ℕ
joined mode.All lists = common_of lists
joined mode.Any lists = any_of lists
