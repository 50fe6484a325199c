-- The groups of one component stay without an empty one.
use Rattle.std.proofs.Common.{◌≡◌, ℕ, ◌<◌, ℤ, Bool, true, false, List, [], ◌∷◌, length, Result, Ok, Err, OnOk, OnErr}
use Rattle.std.proofs.Common.{refl, sym, ap, subst, arith}
use Rattle.std.specs.List.{IsAmong}
use Rattle.std.proofs.Common.{IfSome, Some}
use Rattle.std.specs.Map.{lookup, remove_entry, set_value, values_of}
use Rattle.std.proofs.lemmas.Map.Views.{All-map-remove_entry, All-values-set_value, IfSome-lookup_from_All}
use Rattle.svr_groups.specs.Values.{with_value}
use Rattle.svr_groups.specs.Layout.{HasValues}
use Rattle.svr_groups.proofs.Ascending.{length-with_value}

module _ {K X : Type 0} (test : K → Bool) where
  remove-set_at : (k : K) (x w : X) (es : List (K × X)) (b : Bool) → test k ≡ b
      → remove_entry test (set_value test es w) ≡ remove_entry test es
      → remove_entry test (set_value test ((k, x) ∷ es) w) ≡ remove_entry test ((k, x) ∷ es)
  remove-set_at k x w es true h same = rw (h, h) refl
  remove-set_at k x w es false h same = rw (h, h) (ap (λ rest. (k, x) ∷ rest) same)

  pub remove_entry-set_value : (es : List (K × X)) (w : X) → remove_entry test (set_value test es w) ≡ remove_entry test es
  remove_entry-set_value [] w = refl
  remove_entry-set_value ((k, x) ∷ es) w = remove-set_at k x w es (test k) refl (remove_entry-set_value es w)

pub HasValues-removed : (test : ℕ → Bool) (es : List (ℕ × List ℤ)) (w : List ℤ) → HasValues es
    → HasValues (remove_entry test (set_value test es w))
HasValues-removed test es w all =
    subst HasValues (sym (remove_entry-set_value test es w)) (All-map-remove_entry test (λ e. e.1) (λ values. 0 < length values) es all)

pub HasValues-set_value : (test : ℕ → Bool) (es : List (ℕ × List ℤ)) (w : List ℤ) → HasValues es → 0 < length w
    → HasValues (set_value test es w)
HasValues-set_value test es w all some = All-values-set_value test (λ values. 0 < length values) es w all some

-- a kept group isn't empty
pub some-kept : (es : List (ℕ × List ℤ)) (values : List ℤ) → HasValues es → IsAmong (values_of es) values → 0 < length values
some-kept es values all (i, (within, is)) = subst (λ vs. 0 < length vs) (sym is) (all i values within)

pub some-added : {E : Type 0} (result : Result (Unit {0}) E) (v : ℤ) (old new : List ℤ) → OnOk result (new ≡ with_value v old)
    → OnErr result (new ≡ old) → 0 < length old → 0 < length new
some-added (Ok x) v old new ok err some = let n = length-with_value v old in let e = ap length ok in omega arith
some-added (Err x) v old new ok err some = let e = ap length err in omega arith

pub some-left : (values : List ℤ) → (values ≡ [] → ⊥) → 0 < length values
some-left [] apart = absurd (apart refl)
some-left (x ∷ xs) apart = omega arith

-- what a look-up finds isn't empty
pub some-found : (test : ℕ → Bool) (es : List (ℕ × List ℤ)) (values : List ℤ) → HasValues es → Some values ≡ lookup test es
    → 0 < length values
some-found test es values all found =
    subst (λ o. IfSome o (λ vs. 0 < length vs)) (sym found) (IfSome-lookup_from_All (λ vs. 0 < length vs) test es all)

module _ {K X : Type 0} (test : K → Bool) where
  again_at : (k : K) (x v w : X) (es : List (K × X)) (b : Bool) → test k ≡ b
      → set_value test (set_value test es v) w ≡ set_value test es w
      → set_value test (set_value test ((k, x) ∷ es) v) w ≡ set_value test ((k, x) ∷ es) w
  again_at k x v w es true h same = rw (h, h) refl
  again_at k x v w es false h same = rw (h, h) (ap (λ rest. (k, x) ∷ rest) same)

  -- a value that is put where another was put takes its place
  pub set_value-again : (es : List (K × X)) (v w : X) → set_value test (set_value test es v) w ≡ set_value test es w
  set_value-again [] v w = refl
  set_value-again ((k, x) ∷ es) v w = again_at k x v w es (test k) refl (set_value-again es v w)
