-- Groups that are kept in memory.
use Rattle.std.specs.Prelude.{ℕ, ◌==◌, ◌&&◌, Bool, List}
use Rattle.std.specs.List.{AllByRecursion, list_any}
use Rattle.svr_listing.specs.Groups.{Descends, IsOrdered}
use Rattle.svr_listing.specs.declared.group.Group.{Group}

-- some of the groups holds the id at the key
abbrev pub holds : List Group → ℕ → ℕ → Bool
holds groups key id = list_any (λ group. (group.key == key) && list_any (λ other. other == id) group.ids) groups

-- keys descend, and the ids of each group ascend
pub record AreOrdered (groups : List Group) : Type 0 where
  pub descend : Descends groups
  pub each : AllByRecursion IsOrdered groups
