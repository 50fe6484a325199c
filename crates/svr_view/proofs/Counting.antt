-- Components whose values are recounted one after the other, and the ids for which rows count.
use Rattle.std.proofs.Common.{◌≡◌, ℕ, zero, suc, ℤ, add-one, ◌+◌, ◌<◌, ◌≤◌, ◌==◌, Bool, true, false, List, [], ◌∷◌, length, Option, Some, None}
use Rattle.std.proofs.Common.{slice_get, refl, sym, ap, ap₂, ◌∙◌, subst, arith, ⊎_elim}
use Rattle.std.proofs.lemmas.Bool.{cases_eq}
use Rattle.std.specs.Prelude.{int_lt}
use Rattle.std.specs.BTreeSet.{BTreeSet, contains}
use Rattle.std.specs.List.{Contains, list_any}
use Rattle.std.specs.Ordering.{nat_cmp}
use Rattle.std.proofs.lemmas.Option.{slice_get_within}
use Rattle.svr_groups.specs.Groups.{Grouped, values_at}
use Rattle.svr_groups.specs.Values.{with_value}
use Rattle.svr_groups.proofs.Ascending.{with_value-here, with_value-less}
use Rattle.svr_rows.specs.declared.row.Row.{Row}
use Rattle.svr_schema.specs.declared.component.Component.{Component}
use Rattle.svr_view.specs.declared.counted.Counted.{Counted}
use Rattle.svr_view.specs.Layout.{AddsId, AllUntouched, IsCounted, IsUntouched, Recounts, SetsComponent, counted_of, exchanged, values_for}
use Rattle.svr_view.specs.Layout.{with_values, without_values}

-- ---- a value that is among others stays when one more comes

contains-cons : (v x : ℤ) (xs : List ℤ) → Contains xs v → Contains (x ∷ xs) v
contains-cons v x xs (k, h, is) = (k + 1, omega arith, rw add-one is)

contains-with_at : (v u x : ℤ) (xs : List ℤ) (b : Bool) → int_lt x u ≡ b → Contains (x ∷ xs) v → (Contains xs v → Contains (with_value u xs) v)
    → Contains (with_value u (x ∷ xs)) v
contains-with_at v u x xs false e there rest = subst (λ vs. Contains vs v) (sym (with_value-here u x xs e)) (contains-cons v u (x ∷ xs) there)
contains-with_at v u x xs true e (zero, h, is) rest =
    subst (λ vs. Contains vs v) (sym (with_value-less u x xs e)) (0, omega arith, is)
contains-with_at v u x xs true e (suc k, h, is) rest =
    subst (λ vs. Contains vs v) (sym (with_value-less u x xs e)) (contains-cons v x (with_value u xs) (rest (k, omega arith, is)))

contains-with_value : (v u : ℤ) (xs : List ℤ) → Contains xs v → Contains (with_value u xs) v
contains-with_value v u [] (k, h, is) = absurd (omega arith)
contains-with_value v u (x ∷ xs) there = contains-with_at v u x xs (int_lt x u) refl there (contains-with_value v u xs)

contains-with_values : (v : ℤ) (us xs : List ℤ) → Contains xs v → Contains (with_values us xs) v
contains-with_values v [] xs there = there
contains-with_values v (u ∷ us) xs there = contains-with_value v u (with_values us xs) (contains-with_values v us xs there)

-- what is counted stays so when more is
pub IsCounted-more : (old new : Grouped) (c : ℕ) (k : Option Counted) (more : ℕ → List ℤ)
    → SetsComponent old new c (λ id. with_values (more id) (values_at old c id)) → IsCounted old c k → IsCounted new c k
IsCounted-more old new c None more sets there = tt
IsCounted-more old new c (Some k) more sets there =
    subst (λ vs. Contains vs k.value) (sym (sets.here k.id)) (contains-with_values k.value (more k.id) (values_at old c k.id) there)

-- ---- components that are recounted

-- the first n components are recounted, and the others have the values of before
pub record UpTo (n : ℕ) (components : List Component) (table : ℕ) (old new : Option Row) (before now : Grouped) : Type 0 where
  pub recounted : (c : ℕ) (component : Component) → slice_get components c ≡ Some component → c < n
      → (id : ℕ) → values_at now c id ≡ exchanged component table old new id (values_at before c id)
  pub rest : (c : ℕ) → n ≤ c → (id : ℕ) → values_at now c id ≡ values_at before c id
  pub as_many : length now ≡ length before

pub UpTo-none : (components : List Component) (table : ℕ) (old new : Option Row) (before : Grouped) → UpTo 0 components table old new before before
UpTo-none components table old new before = record {
  recounted = λ c component at below. absurd (omega (arith, below));
  rest = λ c from id. refl;
  as_many = refl;
}

same_component : (a b : Component) → Some a ≡ Some b → a ≡ b
same_component a b e = cc

module _ (n : ℕ) (components : List Component) (table : ℕ) (old new : Option Row) (before now next : Grouped) (component : Component)
    (up_to : UpTo n components table old new before now) (at : slice_get components n ≡ Some component)
    (sets : SetsComponent now next n (λ id. without_values (values_for (counted_of component table old) id)
    (with_values (values_for (counted_of component table new) id) (values_at now n id)))) where
  here : (other : Component) → slice_get components n ≡ Some other → (id : ℕ)
      → values_at next n id ≡ exchanged other table old new id (values_at before n id)
  here other there id =
      sets.here id
      ∙ ap₂ (λ (k : Component) values. exchanged k table old new id values)
      (same_component component other (sym at ∙ there)) (up_to.rest n (omega arith) id)

  pub UpTo-more : UpTo (n + 1) components table old new before next
  UpTo-more = record {
    recounted = λ c other there below id.
        ⊎_elim
        (λ (same : c ≡ n). subst (λ m. values_at next m id ≡ exchanged other table old new id (values_at before m id)) (sym same)
        (here other (ap (slice_get components) (sym same) ∙ there) id))
        (λ (apart : c ≡ n → ⊥).
        sets.others c apart id ∙ up_to.recounted c other there (let h = below in let k = apart in omega (arith, h, k)) id)
        (cases_eq c n);
    rest = λ c from id. sets.others c (λ same. (let h = from in omega (arith, same, h))) id ∙ up_to.rest c (let h = from in omega (arith, h)) id;
    as_many = sets.as_many ∙ up_to.as_many;
  }

pub Recounts-all : (components : List Component) (table : ℕ) (old new : Option Row) (before now : Grouped) (n : ℕ) → length components ≤ n
    → UpTo n components table old new before now → Recounts components table old new before now
Recounts-all components table old new before now n all h = record {
  values = λ c component at id.
      h.recounted c component at (let within = slice_get_within components c component at in let many = all in omega (arith, within, many)) id;
  as_many = h.as_many;
}

-- ---- the ids for which rows count

-- no id is left out for which a row counts in one of the first n components
abbrev pub HasIds : ℕ → List Component → ℕ → Option Row → Option Row → BTreeSet ℕ → Type 0
HasIds n components table old new ids =
    (id : ℕ) → contains nat_cmp ids id ≡ false → (c : ℕ) (component : Component) → slice_get components c ≡ Some component → c < n
    → IsUntouched component table old new id

pub HasIds-none : (components : List Component) (table : ℕ) (old new : Option Row) (ids : BTreeSet ℕ) → HasIds 0 components table old new ids
HasIds-none components table old new ids = λ id none c component at below. absurd (omega (arith, below))

pub HasIds-more : (n : ℕ) (components : List Component) (table : ℕ) (old new : Option Row) (ids some all : BTreeSet ℕ) (component : Component)
    → HasIds n components table old new ids → slice_get components n ≡ Some component
    → AddsId ids some (counted_of component table old) → AddsId some all (counted_of component table new)
    → HasIds (n + 1) components table old new all
HasIds-more n components table old new ids some all component has at first second = λ id none c other there below.
    ⊎_elim
    (λ (same : c ≡ n).
    let is = same_component component other (sym at ∙ ap (slice_get components) (sym same) ∙ there) in
    subst (λ k. IsUntouched k table old new id) is
    (record { old_none = first.added id (second.kept id none); new_none = second.added id none }))
    (λ (apart : c ≡ n → ⊥).
    has id (first.kept id (second.kept id none)) c other there (let h = below in let k = apart in omega (arith, h, k)))
    (cases_eq c n)

pub AllUntouched-all : (n : ℕ) (components : List Component) (table : ℕ) (old new : Option Row) (ids : BTreeSet ℕ) (all : List ℕ)
    → HasIds n components table old new ids → length components ≤ n
    → ((id : ℕ) → contains nat_cmp ids id ≡ list_any (λ k. k == id) all)
    → (id : ℕ) → list_any (λ k. k == id) all ≡ false → AllUntouched components table old new id
AllUntouched-all n components table old new ids all has many same id none c component at =
    has id (same id ∙ none) c component at
    (let within = slice_get_within components c component at in let h = many in omega (arith, within, h))
