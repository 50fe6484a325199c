-- The values of one component that were set, among those of all.
use Rattle.std.proofs.Common.{◌≡◌, ℕ, zero, suc, ◌<◌, ℤ, List, [], ◌∷◌, length, get_or, set, replicate, slice_get}
use Rattle.std.proofs.Common.{unwrap_or, Some, refl, sym, ap, ◌∙◌, subst, ⊎_elim, arith}
use Rattle.std.proofs.lemmas.Bool.{cases_eq}
use Rattle.std.proofs.lemmas.List.{length-set}
use Rattle.std.proofs.lemmas.Option.{slice_get_read}
use Rattle.svr_groups.specs.Groups.{Grouped, SetsValues, values_at, values_of_id}
use Rattle.svr_groups.specs.Layout.{SetsValuesOf}

slice_get-set_same : {A : Type 0} (xs : List A) (i : ℕ) (y : A) → i < length xs → slice_get (set xs i y) i ≡ Some y
slice_get-set_same [] i y h = absurd (omega arith)
slice_get-set_same (x ∷ xs) zero y h = refl
slice_get-set_same (x ∷ xs) (suc i) y h = slice_get-set_same xs i y (omega arith)

slice_get-set_other : {A : Type 0} (xs : List A) (i j : ℕ) (y : A) → (j ≡ i → ⊥) → slice_get (set xs i y) j ≡ slice_get xs j
slice_get-set_other [] i j y apart = refl
slice_get-set_other (x ∷ xs) zero zero y apart = absurd (apart refl)
slice_get-set_other (x ∷ xs) zero (suc j) y apart = refl
slice_get-set_other (x ∷ xs) (suc i) zero y apart = refl
slice_get-set_other (x ∷ xs) (suc i) (suc j) y apart = slice_get-set_other xs i j y (λ e. apart (ap suc e))

pub values_at-found : (groups : Grouped) (c : ℕ) (entries : List (ℕ × List ℤ)) → slice_get groups c ≡ Some entries
    → (id : ℕ) → values_at groups c id ≡ values_of_id entries id
unfolding values_at
values_at-found groups c entries found id = ap (λ o. values_of_id (unwrap_or o []) id) found

module _ (groups : Grouped) (c id : ℕ) (old new : List (ℕ × List ℤ)) (values : List ℤ) (found : slice_get groups c ≡ Some old)
    (within : c < length groups) (sets : SetsValuesOf old new id values) where
  now_here : (k : ℕ) → values_at (set groups c new) c k ≡ values_of_id new k
  now_here = values_at-found (set groups c new) c new (slice_get-set_same groups c new within)

  now_elsewhere : (d k : ℕ) → (d ≡ c → ⊥) → values_at (set groups c new) d k ≡ values_at groups d k
  unfolding values_at
  now_elsewhere d k apart = ap (λ o. values_of_id (unwrap_or o []) k) (slice_get-set_other groups c d new apart)

  at_component : (d k : ℕ) → d ≡ c → (k ≡ id → ⊥) → values_at (set groups c new) d k ≡ values_at groups d k
  at_component d k same apart =
      ap (λ e. values_at (set groups c new) e k) same ∙ now_here k ∙ sets.others k apart ∙ sym (values_at-found groups c old found k)
      ∙ ap (λ e. values_at groups e k) (sym same)

  pub SetsValues-set : SetsValues groups (set groups c new) c id values
  SetsValues-set = record {
    here = now_here id ∙ sets.here;
    others = λ d k apart.
        ⊎_elim (λ same. at_component d k same (apart same)) (λ other. now_elsewhere d k other) (cases_eq d c);
    as_many = length-set groups c new;
  }

-- ---- one of the components, as the code reads it

module _ (items groups : Grouped) (c : ℕ) (entries : List (ℕ × List ℤ)) (same : items ≡ groups) (within : c < length groups)
    (read : entries ≡ get_or items c entries) where
  found_among : slice_get groups c ≡ Some entries
  found_among = slice_get_read groups (length groups) c entries refl within (read ∙ ap (λ gs. get_or gs c entries) same)

  pub values_at-read : (id : ℕ) → values_at groups c id ≡ values_of_id entries id
  values_at-read id = values_at-found groups c entries found_among id

  pub SetsValues-read : (id : ℕ) (new : List (ℕ × List ℤ)) (change : List ℤ → List ℤ)
      → SetsValuesOf entries new id (change (values_of_id entries id))
      → SetsValues groups (set items c new) c id (change (values_at groups c id))
  SetsValues-read id new change sets =
      subst (λ gs. SetsValues groups (set gs c new) c id (change (values_at groups c id))) (sym same)
      (SetsValues-set groups c id entries new _ found_among within
      (subst (λ xs. SetsValuesOf entries new id (change xs)) (sym (values_at-read id)) sets))

-- ---- components without values

pub values_at-none : (n c id : ℕ) → values_at (replicate n []) c id ≡ []
unfolding values_at
values_at-none zero c id = refl
values_at-none (suc n) zero id = refl
values_at-none (suc n) (suc c) id = values_at-none n c id
