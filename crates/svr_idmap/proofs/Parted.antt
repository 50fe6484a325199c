-- Entries of lower ids in front of those of higher ones.
use Rattle.std.proofs.Common.{IsSome}
use Rattle.std.proofs.Common.{Option}
use Rattle.std.proofs.Common.{◌≡◌, ◌<◌, ◌≤◌, ◌==◌, ◌^◌, ℕ, Bool, true, false, cond, if◌then◌else◌, None, List, [], ◌∷◌, ◌++◌, nat_cmp}
use Rattle.std.proofs.Common.{refl, sym, ap, ◌∙◌, subst, arith, inl, inr}
use Rattle.std.specs.BTreeMap.{insert_entry, is_at}
use Rattle.std.specs.List.{AllByRecursion}
use Rattle.std.specs.Map.{remove_entry, set_value}
use Rattle.std.specs.Option.{option_or}
use Rattle.std.proofs.lemmas.Bool.{cases_order}
use Rattle.std.specs.List.Sorted.{IsStrictlySortedBy}
use Rattle.std.proofs.lemmas.Map.{keys-set_value}
use Rattle.svr_idmap.specs.Ids.{Ascends, SetsValue, value_at}
use Rattle.svr_idmap.specs.Layout.{AreParted}
use Rattle.svr_idmap.proofs.Tests.{set-append_high, set-append_low}
use Rattle.svr_idmap.proofs.Tests.{insert-append_high, insert-append_low, insert-greater, insert-less, insert-same, or_none, others-above}
use Rattle.svr_idmap.proofs.Tests.{others-below, remove-append_high, remove-append_low, same_id, value_at-append, value_at-none}

module _ {V : Type 0} where
  module _ (P : ℕ → Type 0) (id : ℕ) where
    all-inserted : (value : V) (es : List (ℕ × V)) → P id → AllByRecursion (λ e. P e.0) es
        → AllByRecursion (λ e. P e.0) (insert_entry nat_cmp es id value)
    all-inserted value [] p all = (p, tt)
    all-inserted value (e ∷ es) p all = elim (cases_order id e.0) [
      | inl same ↦ subst (AllByRecursion (λ x. P x.0)) (sym (insert-same id value e es same)) (all.0, all.1)
      | inr o ↦ elim o [
        | inl less ↦ subst (AllByRecursion (λ x. P x.0)) (sym (insert-less id value e es less)) (p, all)
        | inr more ↦ subst (AllByRecursion (λ x. P x.0)) (sym (insert-greater id value e es more)) (all.0, all-inserted value es p all.1)
      ]
    ]

    removed_step : (b : Bool) (e : ℕ × V) (es rest : List (ℕ × V)) → P e.0 → AllByRecursion (λ x. P x.0) es
        → AllByRecursion (λ x. P x.0) rest → AllByRecursion (λ x. P x.0) (cond b es (e ∷ rest))
    removed_step true e es rest p all h = all
    removed_step false e es rest p all h = (p, h)

    all-removed : (es : List (ℕ × V)) → AllByRecursion (λ e. P e.0) es
        → AllByRecursion (λ e. P e.0) (remove_entry (is_at (nat_cmp id)) es)
    all-removed [] all = tt
    all-removed (e ∷ es) all =
        removed_step (is_at (nat_cmp id) e.0) e es (remove_entry (is_at (nat_cmp id)) es) all.0 all.1 (all-removed es all.1)

  replaced_step : (P : ℕ → Type 0) (b : Bool) (e : ℕ × V) (es rest : List (ℕ × V)) (value : V) → P e.0 → AllByRecursion (λ x. P x.0) es
      → AllByRecursion (λ x. P x.0) rest → AllByRecursion (λ x. P x.0) (cond b ((e.0, value) ∷ es) (e ∷ rest))
  replaced_step P true e es rest value p all h = (p, all)
  replaced_step P false e es rest value p all h = (p, h)

  all-replaced : (P : ℕ → Type 0) (id : ℕ) (value : V) (es : List (ℕ × V)) → AllByRecursion (λ e. P e.0) es
      → AllByRecursion (λ e. P e.0) (set_value (is_at (nat_cmp id)) es value)
  all-replaced P id value [] all = tt
  all-replaced P id value (e ∷ es) all =
      replaced_step P (is_at (nat_cmp id) e.0) e es (set_value (is_at (nat_cmp id)) es value) value all.0 all.1
      (all-replaced P id value es all.1)

  all-above : (id : ℕ) (es : List (ℕ × V)) → id < 2 ^ 18 → AllByRecursion (λ e. 2 ^ 18 ≤ e.0) es → AllByRecursion (λ e. id < e.0) es
  all-above id [] low all = tt
  all-above id (e ∷ es) low all = (let h = all.0 in omega (arith, low, h), all-above id es low all.1)

  all-below : (id : ℕ) (es : List (ℕ × V)) → 2 ^ 18 ≤ id → AllByRecursion (λ e. e.0 < 2 ^ 18) es → AllByRecursion (λ e. e.0 < id) es
  all-below id [] high all = tt
  all-below id (e ∷ es) high all = (let h = all.0 in omega (arith, high, h), all-below id es high all.1)

  none_front : (b : Bool) (front behind : Option V) → (b ≡ true → behind ≡ None)
      → option_or (if b then None else front) behind ≡ (if b then None else option_or front behind)
  none_front true front behind none = none refl
  none_front false front behind none = refl

  none_behind : (b : Bool) (front behind : Option V) → (b ≡ true → front ≡ None)
      → option_or front (if b then None else behind) ≡ (if b then None else option_or front behind)
  none_behind true front behind none = ap (λ o. option_or o None) (none refl)
  none_behind false front behind none = refl

  module _ (dense sparse : List (ℕ × V)) (h : AreParted dense sparse) (id : ℕ) where
    -- ---- a lower id

    module _ (low : id < 2 ^ 18) where
      pub value-low : value_at dense id ≡ value_at (dense ++ sparse) id
      value-low = sym (value_at-append dense sparse id
          ∙ ap (option_or (value_at dense id)) (value_at-none id sparse (others-above id sparse (all-above id sparse low h.above)))
          ∙ or_none (value_at dense id))

      pub inserted-low : (value : V) → insert_entry nat_cmp dense id value ++ sparse ≡ insert_entry nat_cmp (dense ++ sparse) id value
      inserted-low value = sym (insert-append_low id value dense sparse (all-above id sparse low h.above))

      pub some-low : IsSome (value_at (dense ++ sparse) id) → IsSome (value_at dense id)
      some-low some = subst IsSome (sym value-low) some

      pub replaced-low : (value : V) → IsSome (value_at (dense ++ sparse) id)
          → set_value (is_at (nat_cmp id)) dense value ++ sparse ≡ set_value (is_at (nat_cmp id)) (dense ++ sparse) value
      replaced-low value some = sym (set-append_low id value dense sparse (some-low some))

      pub parted-replaced_low : (value : V) → AreParted (set_value (is_at (nat_cmp id)) dense value) sparse
      parted-replaced_low value = record { below = all-replaced (λ k. k < 2 ^ 18) id value dense h.below; above = h.above; ascends = h.ascends }

      pub removed-low : remove_entry (is_at (nat_cmp id)) dense ++ sparse ≡ remove_entry (is_at (nat_cmp id)) (dense ++ sparse)
      removed-low = sym (remove-append_low id dense sparse (others-above id sparse (all-above id sparse low h.above)))

      pub parted-inserted_low : (value : V) → AreParted (insert_entry nat_cmp dense id value) sparse
      parted-inserted_low value = record { below = all-inserted (λ k. k < 2 ^ 18) id value dense low h.below; above = h.above; ascends = h.ascends }

      pub SetsValue-removed_low : (after : List (ℕ × V)) → SetsValue dense after id None → SetsValue (dense ++ sparse) (after ++ sparse) id None
      SetsValue-removed_low after sets k =
          value_at-append after sparse k ∙ ap (λ o. option_or o (value_at sparse k)) (sets k)
          ∙ none_front (id == k) (value_at dense k) (value_at sparse k)
          (λ e. ap (value_at sparse) (sym (same_id id k e)) ∙ value_at-none id sparse (others-above id sparse (all-above id sparse low h.above)))
          ∙ ap (λ o. if id == k then None else o) (sym (value_at-append dense sparse k))

      pub parted-removed_low : AreParted (remove_entry (is_at (nat_cmp id)) dense) sparse
      parted-removed_low = record { below = all-removed (λ k. k < 2 ^ 18) id dense h.below; above = h.above; ascends = h.ascends }

    -- ---- a higher one

    module _ (high : 2 ^ 18 ≤ id) where
      pub value-high : value_at sparse id ≡ value_at (dense ++ sparse) id
      value-high = sym (value_at-append dense sparse id
          ∙ ap (λ o. option_or o (value_at sparse id)) (value_at-none id dense (others-below id dense (all-below id dense high h.below))))

      pub inserted-high : (value : V) → dense ++ insert_entry nat_cmp sparse id value ≡ insert_entry nat_cmp (dense ++ sparse) id value
      inserted-high value = sym (insert-append_high id value dense sparse (all-below id dense high h.below))

      pub replaced-high : (value : V)
          → dense ++ set_value (is_at (nat_cmp id)) sparse value ≡ set_value (is_at (nat_cmp id)) (dense ++ sparse) value
      replaced-high value = sym (set-append_high id value dense sparse (others-below id dense (all-below id dense high h.below)))

      pub parted-replaced_high : (value : V) → AreParted dense (set_value (is_at (nat_cmp id)) sparse value)
      parted-replaced_high value = record {
        below = h.below;
        above = all-replaced (λ k. 2 ^ 18 ≤ k) id value sparse h.above;
        ascends = subst (IsStrictlySortedBy nat_cmp) (sym (keys-set_value (is_at (nat_cmp id)) sparse value)) h.ascends;
      }

      pub removed-high : dense ++ remove_entry (is_at (nat_cmp id)) sparse ≡ remove_entry (is_at (nat_cmp id)) (dense ++ sparse)
      removed-high = sym (remove-append_high id dense sparse (others-below id dense (all-below id dense high h.below)))

      pub parted-inserted_high : (value : V) → Ascends (insert_entry nat_cmp sparse id value)
          → AreParted dense (insert_entry nat_cmp sparse id value)
      parted-inserted_high value ascends =
          record { below = h.below; above = all-inserted (λ k. 2 ^ 18 ≤ k) id value sparse high h.above; ascends = ascends }

      pub SetsValue-removed_high : (after : List (ℕ × V)) → SetsValue sparse after id None → SetsValue (dense ++ sparse) (dense ++ after) id None
      SetsValue-removed_high after sets k =
          value_at-append dense after k ∙ ap (option_or (value_at dense k)) (sets k)
          ∙ none_behind (id == k) (value_at dense k) (value_at sparse k)
          (λ e. ap (value_at dense) (sym (same_id id k e)) ∙ value_at-none id dense (others-below id dense (all-below id dense high h.below)))
          ∙ ap (λ o. if id == k then None else o) (sym (value_at-append dense sparse k))

      pub parted-removed_high : Ascends (remove_entry (is_at (nat_cmp id)) sparse) → AreParted dense (remove_entry (is_at (nat_cmp id)) sparse)
      parted-removed_high ascends = record { below = h.below; above = all-removed (λ k. 2 ^ 18 ≤ k) id sparse h.above; ascends = ascends }
