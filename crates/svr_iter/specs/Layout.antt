-- Words that private clauses cite, here and in the crate that puts lists together.
use Rattle.std.specs.Prelude.{◌≡◌, ◌<◌, ◌≤◌, ℕ, ◌==◌, ⊤, Bool, false, List, [], ◌∷◌, filter, length, slice_index, Option, Some, None, if◌then◌else◌}
use Rattle.std.specs.Option.{ForSome}
use Rattle.svr_postpage.specs.declared.page_ref.PageRef.{PageRef}
use Rattle.svr_listing.specs.Groups.{IsGroup}
use Rattle.svr_listing.specs.declared.group.Group.{Group}
use Rattle.svr_listing.specs.Joined.{is_in}
use Rattle.svr_iter.specs.Taking.{IsLess}

-- where an id stands among ids in their order, or would: all before are below it, and the one there is not
pub record IsPlaceOf (id : ℕ) (ids : List ℕ) (place : ℕ) : Type 0 where
  pub within : place ≤ length ids
  pub below : (j : ℕ) → j < place → slice_index ids j < id
  pub at : place < length ids → id ≤ slice_index ids place

-- a next key is at most the key
abbrev pub IsUpTo : ℕ → Option ℕ → Type 0
IsUpTo key None = ⊤
IsUpTo key (Some next) = next ≤ key

abbrev pub is_next : ℕ → Option ℕ → Bool
is_next key None = false
is_next key (Some next) = next == key

-- a list took its group of the key, which has these ids, or had none and stayed
pub record TakesAt {S : Type 0} (groups : S → List ℕ → List Group) (next : S → Option ℕ) (may : S → ℕ → ℕ → Bool)
    (pages : S → ℕ → List PageRef)
    (told : Option (List ℕ)) (key : ℕ) (old new : S) (ids : List ℕ) : Type 0 where
  pub taken : ForSome told (λ bytes. groups old bytes
      ≡ (if is_next key (next old) then record { key = key; ids = ids } ∷ groups new bytes else groups new bytes))
  pub none : is_next key (next old) ≡ false → ids ≡ []
  pub less : IsLess (next new) (Some key)
  pub allowed : IsGroup (may old) (record { key = key; ids = ids })
  pub same_may : may new ≡ may old
  pub same_pages : (k : ℕ) → k < key → pages new k ≡ pages old k

-- the same, and of the ids before those are left that it has
pub record KeepsAt {S : Type 0} (groups : S → List ℕ → List Group) (next : S → Option ℕ) (may : S → ℕ → ℕ → Bool)
    (pages : S → ℕ → List PageRef)
    (told : Option (List ℕ)) (key : ℕ) (old new : S) (before after : List ℕ) : Type 0 where
  pub ids : List ℕ
  pub takes : TakesAt groups next may pages told key old new ids
  pub kept : after ≡ filter (λ id. is_in id ids) before
