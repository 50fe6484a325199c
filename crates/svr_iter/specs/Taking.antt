-- What taking a group does.
use Rattle.std.specs.Prelude.{◌≡◌, ◌<◌, ℕ, Bool, List, ◌∷◌, ⊤, filter, Option, Some, None, unwrap_or}
use Rattle.std.specs.Option.{ForSome}
use Rattle.svr_postpage.specs.declared.page_ref.PageRef.{PageRef}
use Rattle.svr_listing.specs.Groups.{IsGroup}
use Rattle.svr_listing.specs.declared.group.Group.{Group}
use Rattle.svr_listing.specs.Joined.{is_in}

-- a next key is less than the one before it, or there is none
abbrev pub IsLess : Option ℕ → Option ℕ → Type 0
IsLess None key = ⊤
IsLess (Some later) None = ⊥
IsLess (Some later) (Some key) = later < key

-- the pages of keys below a key that was taken are as they were
abbrev pub KeepsBelow : Option ℕ → (ℕ → List PageRef) → (ℕ → List PageRef) → Type 0
KeepsBelow key old new = (k : ℕ) → k < unwrap_or key 0 → new k ≡ old k

-- the first group was taken away, which has these ids: where the reader tells bytes it is so by these, and in any case they may come there
pub record TakesGroup {S : Type 0} (groups : S → List ℕ → List Group) (next : S → Option ℕ) (may : S → ℕ → ℕ → Bool)
    (pages : S → ℕ → List PageRef)
    (told : Option (List ℕ)) (old new : S) (ids : List ℕ) : Type 0 where
  pub first : ForSome told (λ bytes. groups old bytes ≡ record { key = unwrap_or (next old) 0; ids = ids } ∷ groups new bytes)
  pub lawful : IsGroup (may old) (record { key = unwrap_or (next old) 0; ids = ids })
  pub next_less : IsLess (next new) (next old)
  pub same_may : may new ≡ may old
  pub same_pages : KeepsBelow (next old) (pages old) (pages new)

-- a group was taken away, and of the ids before those are left that it has
pub record KeepsGroup {S : Type 0} (groups : S → List ℕ → List Group) (next : S → Option ℕ) (may : S → ℕ → ℕ → Bool)
    (pages : S → ℕ → List PageRef)
    (told : Option (List ℕ)) (old new : S) (before after : List ℕ) : Type 0 where
  pub ids : List ℕ
  pub takes : TakesGroup groups next may pages told old new ids
  pub kept : after ≡ filter (λ id. is_in id ids) before
