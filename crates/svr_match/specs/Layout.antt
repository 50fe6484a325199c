-- Words that private clauses cite.
use Rattle.std.specs.Prelude.{◌≡◌, ℕ, Bool, List, map, Option}
use Rattle.std.specs.List.{AllByRecursion}
use Rattle.svr_postpage.specs.declared.page_ref.PageRef.{PageRef}
use Rattle.svr_listing.specs.declared.group.Group.{Group}
use Rattle.svr_iter.specs.Layout.{TakesAt}

-- a list before and after its group of a key was taken, and the ids of that group
pub record Turn (P : Type 0) : Type 0 where
  pub old : P
  pub new : P
  pub ids : List ℕ

-- each list had its turn, and this holds of the ids that they had
pub record AreTaken {P : Type 0} (groups : P → List ℕ → List Group) (next : P → Option ℕ) (may : P → ℕ → ℕ → Bool)
    (pages : P → ℕ → List PageRef)
    (told : Option (List ℕ)) (key : ℕ) (old new : List P) (Holds : List (List ℕ) → Type 0) : Type 0 where
  pub turns : List (Turn P)
  pub olds : map (λ turn. turn.old) turns ≡ old
  pub news : map (λ turn. turn.new) turns ≡ new
  pub holds : Holds (map (λ turn. turn.ids) turns)
  pub each : AllByRecursion (λ turn. TakesAt groups next may pages told key turn.old turn.new turn.ids) turns
