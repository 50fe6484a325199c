-- Words of private clauses.
use Rattle.std.specs.Prelude.{ℕ, ◌&&◌, ◌||◌, Bool, not, List, [], ◌∷◌}
use Rattle.svr_postpage.specs.declared.pair.Pair.{Pair}
use Rattle.svr_listing.specs.Groups.{Group}
use Rattle.svr_listing.specs.Listing.{Listed, has_pair, has_term, listed_at, with_key}

-- descending keys with those of groups
abbrev pub with_keys : List Group → List ℕ → List ℕ
with_keys [] keys = keys
with_keys (group ∷ groups) keys = with_key group.key (with_keys groups keys)

-- descending keys with those of pairs
abbrev pub with_pair_keys : List Pair → List ℕ → List ℕ
with_pair_keys [] keys = keys
with_pair_keys (pair ∷ pairs) keys = with_key pair.key (with_pair_keys pairs keys)

-- a document is held under a term of which these pairs are posted
abbrev pub is_held_by : List Pair → List ℕ → Listed → Bool
is_held_by posted term d = has_term d.document term && (d.entry.moved || not (has_pair (listed_at d) posted))

-- a document stands under a term of which these pairs are posted
abbrev pub is_effective_by : List Pair → List ℕ → Listed → Bool
is_effective_by posted term d =
    is_held_by posted term d || (not d.entry.moved && (has_term d.document term && has_pair (listed_at d) posted))
