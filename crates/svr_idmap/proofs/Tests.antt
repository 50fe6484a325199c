-- Tests of ids, and entries whose ids are all lower or higher.
use Rattle.std.proofs.lemmas.Bool.{false≢true}
use Rattle.std.proofs.Common.{subst}
use Rattle.std.proofs.Common.{IsSome}
use Rattle.std.proofs.Common.{◌==◌, if◌then◌else◌}
use Rattle.std.proofs.Common.{◌≡◌, ◌≢◌, ◌<◌, ℕ, ◌++◌, Bool, true, false, cond, List, [], ◌∷◌, nat_cmp, Option, Some, None}
use Rattle.std.proofs.Common.{refl, sym, ap, ◌∙◌, arith, inl, inr}
use Rattle.std.specs.BTreeMap.{insert_entry, is_at}
use Rattle.std.specs.Cmp.{nat_cmp_is}
use Rattle.std.specs.List.{AllByRecursion}
use Rattle.std.specs.Map.{set_value, remove_entry}
use Rattle.std.specs.Option.{option_or}
use Rattle.std.specs.Ordering.{is_eq, match_ordering}
use Rattle.std.specs.declared.cmp.Ordering.{Ordering}
use Rattle.std.specs.declared.cmp.Ordering.TheVariants.{Less, Equal, Greater}
use Rattle.std.proofs.lemmas.Bool.{cases_order}
use Rattle.std.proofs.lemmas.Bool.Decides.{nat_tests}
use Rattle.svr_idmap.specs.Ids.{SetsValue, value_at}

pub at_same : (a b : ℕ) → a ≡ b → is_at (nat_cmp a) b ≡ true
at_same a b e = ap is_eq (sym (nat_cmp_is a b Equal e))

pub at_other : (a b : ℕ) → a ≢ b → is_at (nat_cmp a) b ≡ false
at_other a b apart = elim (cases_order a b) [
  | inl e ↦ absurd (apart e)
  | inr o ↦ elim o [
    | inl l ↦ ap is_eq (sym (nat_cmp_is a b Less l))
    | inr g ↦ ap is_eq (sym (nat_cmp_is a b Greater g))
  ]
]

pub same_id : (a b : ℕ) → (a == b) ≡ true → a ≡ b
same_id a b e = grind (arith, nat_tests, e)

other_number : (a b : ℕ) → a ≢ b → (a == b) ≡ false
other_number a b apart = elim (cases_order a b) [
  | inl e ↦ absurd (apart e)
  | inr o ↦ elim o [
    | inl l ↦ (let h = l in grind (arith, nat_tests, h))
    | inr g ↦ (let h = g in grind (arith, nat_tests, h))
  ]
]

-- the test of a look-up is that of numbers, the other way around
at_number : (k id : ℕ) → is_at (nat_cmp k) id ≡ (id == k)
at_number k id = elim (cases_order k id) [
  | inl e ↦ at_same k id e ∙ (let h = e in grind (arith, nat_tests, h))
  | inr o ↦ elim o [
    | inl l ↦ at_other k id (λ e. omega (arith, l, e)) ∙ (let h = l in grind (arith, nat_tests, h))
    | inr g ↦ at_other k id (λ e. omega (arith, g, e)) ∙ (let h = g in grind (arith, nat_tests, h))
  ]
]

apart_later : (k id key : ℕ) → key < id → is_at (nat_cmp k) key ≡ true → (id == k) ≡ false
apart_later k id key less e = let h = sym (at_number k key) ∙ e in grind (arith, nat_tests, less, h)

apart_later-other : (k id key : ℕ) → id ≢ key → is_at (nat_cmp k) key ≡ true → (id == k) ≡ false
apart_later-other k id key apart e =
    let same : key ≡ k = same_id key k (sym (at_number k key) ∙ e) in other_number id k (λ h. apart (h ∙ sym same))

module _ {V : Type 0} where
  abbrev put_by : Ordering → ℕ → V → ℕ × V → List (ℕ × V) → List (ℕ × V) → List (ℕ × V)
  put_by o id value e es rest = match_ordering o ((id, value) ∷ e ∷ es) ((e.0, value) ∷ es) (e ∷ rest)

  pub insert-less : (id : ℕ) (value : V) (e : ℕ × V) (es : List (ℕ × V)) → id < e.0
      → insert_entry nat_cmp (e ∷ es) id value ≡ (id, value) ∷ e ∷ es
  insert-less id value e es h = ap (λ o. put_by o id value e es (insert_entry nat_cmp es id value)) (sym (nat_cmp_is id e.0 Less h))

  pub insert-same : (id : ℕ) (value : V) (e : ℕ × V) (es : List (ℕ × V)) → id ≡ e.0
      → insert_entry nat_cmp (e ∷ es) id value ≡ (e.0, value) ∷ es
  insert-same id value e es h = ap (λ o. put_by o id value e es (insert_entry nat_cmp es id value)) (sym (nat_cmp_is id e.0 Equal h))

  pub insert-greater : (id : ℕ) (value : V) (e : ℕ × V) (es : List (ℕ × V)) → e.0 < id
      → insert_entry nat_cmp (e ∷ es) id value ≡ e ∷ insert_entry nat_cmp es id value
  insert-greater id value e es h = ap (λ o. put_by o id value e es (insert_entry nat_cmp es id value)) (sym (nat_cmp_is id e.0 Greater h))

  pub insert-front : (id : ℕ) (value : V) (es : List (ℕ × V)) → AllByRecursion (λ e. id < e.0) es
      → insert_entry nat_cmp es id value ≡ (id, value) ∷ es
  insert-front id value [] all = refl
  insert-front id value (e ∷ es) all = insert-less id value e es all.0

  -- ---- an id that is none of the entries'

  pub value_at-step : (id : ℕ) (e : ℕ × V) (es : List (ℕ × V)) → id ≢ e.0 → value_at (e ∷ es) id ≡ value_at es id
  value_at-step id e es apart = ap (λ b. cond b (Some e.1) (value_at es id)) (at_other id e.0 apart)

  pub remove-step : (id : ℕ) (e : ℕ × V) (es : List (ℕ × V)) → id ≢ e.0
      → remove_entry (is_at (nat_cmp id)) (e ∷ es) ≡ e ∷ remove_entry (is_at (nat_cmp id)) es
  remove-step id e es apart = ap (λ b. cond b es (e ∷ remove_entry (is_at (nat_cmp id)) es)) (at_other id e.0 apart)

  pub set-step : (id : ℕ) (value : V) (e : ℕ × V) (es : List (ℕ × V)) → id ≢ e.0
      → set_value (is_at (nat_cmp id)) (e ∷ es) value ≡ e ∷ set_value (is_at (nat_cmp id)) es value
  set-step id value e es apart =
      ap (λ b. cond b ((e.0, value) ∷ es) (e ∷ set_value (is_at (nat_cmp id)) es value)) (at_other id e.0 apart)

  pub value_at-none : (id : ℕ) (es : List (ℕ × V)) → AllByRecursion (λ e. id ≢ e.0) es → value_at es id ≡ None
  value_at-none id [] all = refl
  value_at-none id (e ∷ es) all = value_at-step id e es all.0 ∙ value_at-none id es all.1

  pub remove-none : (id : ℕ) (es : List (ℕ × V)) → AllByRecursion (λ e. id ≢ e.0) es → remove_entry (is_at (nat_cmp id)) es ≡ es
  remove-none id [] all = refl
  remove-none id (e ∷ es) all = remove-step id e es all.0 ∙ ap (λ rest. e ∷ rest) (remove-none id es all.1)

  pub others-above : (id : ℕ) (es : List (ℕ × V)) → AllByRecursion (λ e. id < e.0) es → AllByRecursion (λ e. id ≢ e.0) es
  others-above id [] all = tt
  others-above id (e ∷ es) all = ((λ same. (let h = all.0 in omega (arith, same, h))), others-above id es all.1)

  pub others-below : (id : ℕ) (es : List (ℕ × V)) → AllByRecursion (λ e. e.0 < id) es → AllByRecursion (λ e. id ≢ e.0) es
  others-below id [] all = tt
  others-below id (e ∷ es) all = ((λ same. (let h = all.0 in omega (arith, same, h))), others-below id es all.1)

  -- ---- entries in front of others

  append_step : (b : Bool) (value : V) (rest front : Option V) (other : Option V) → rest ≡ option_or front other
      → cond b (Some value) rest ≡ option_or (cond b (Some value) front) other
  append_step true value rest front other h = refl
  append_step false value rest front other h = h

  pub value_at-append : (xs ys : List (ℕ × V)) (id : ℕ) → value_at (xs ++ ys) id ≡ option_or (value_at xs id) (value_at ys id)
  value_at-append [] ys id = refl
  value_at-append (x ∷ xs) ys id =
      append_step (is_at (nat_cmp id) x.0) x.1 (value_at (xs ++ ys) id) (value_at xs id) (value_at ys id) (value_at-append xs ys id)

  pub or_none : (o : Option V) → option_or o None ≡ o
  or_none None = refl
  or_none (Some value) = refl

  -- where the id is below all of the others
  pub insert-append_low : (id : ℕ) (value : V) (xs ys : List (ℕ × V)) → AllByRecursion (λ e. id < e.0) ys
      → insert_entry nat_cmp (xs ++ ys) id value ≡ insert_entry nat_cmp xs id value ++ ys
  insert-append_low id value [] ys all = insert-front id value ys all
  insert-append_low id value (x ∷ xs) ys all = elim (cases_order id x.0) [
    | inl e ↦ insert-same id value x (xs ++ ys) e ∙ ap (λ es. es ++ ys) (sym (insert-same id value x xs e))
    | inr o ↦ elim o [
      | inl l ↦ insert-less id value x (xs ++ ys) l ∙ ap (λ es. es ++ ys) (sym (insert-less id value x xs l))
      | inr g ↦ insert-greater id value x (xs ++ ys) g ∙ ap (λ es. x ∷ es) (insert-append_low id value xs ys all)
          ∙ ap (λ es. es ++ ys) (sym (insert-greater id value x xs g))
    ]
  ]

  -- where it is above all in front
  pub insert-append_high : (id : ℕ) (value : V) (xs ys : List (ℕ × V)) → AllByRecursion (λ e. e.0 < id) xs
      → insert_entry nat_cmp (xs ++ ys) id value ≡ xs ++ insert_entry nat_cmp ys id value
  insert-append_high id value [] ys all = refl
  insert-append_high id value (x ∷ xs) ys all =
      insert-greater id value x (xs ++ ys) all.0 ∙ ap (λ es. x ∷ es) (insert-append_high id value xs ys all.1)

  low_step : (b : Bool) (x : ℕ × V) (xs ys removed rest : List (ℕ × V)) → rest ≡ removed ++ ys
      → cond b (xs ++ ys) (x ∷ rest) ≡ cond b xs (x ∷ removed) ++ ys
  low_step true x xs ys removed rest h = refl
  low_step false x xs ys removed rest h = ap (λ es. x ∷ es) h

  pub remove-append_low : (id : ℕ) (xs ys : List (ℕ × V)) → AllByRecursion (λ e. id ≢ e.0) ys
      → remove_entry (is_at (nat_cmp id)) (xs ++ ys) ≡ remove_entry (is_at (nat_cmp id)) xs ++ ys
  remove-append_low id [] ys all = remove-none id ys all
  remove-append_low id (x ∷ xs) ys all =
      low_step (is_at (nat_cmp id) x.0) x xs ys (remove_entry (is_at (nat_cmp id)) xs) (remove_entry (is_at (nat_cmp id)) (xs ++ ys))
      (remove-append_low id xs ys all)

  set_low_step : (b : Bool) (x : ℕ × V) (xs ys after rest : List (ℕ × V)) (value : V) → (b ≡ false → rest ≡ after ++ ys)
      → cond b ((x.0, value) ∷ (xs ++ ys)) (x ∷ rest) ≡ cond b ((x.0, value) ∷ xs) (x ∷ after) ++ ys
  set_low_step true x xs ys after rest value h = refl
  set_low_step false x xs ys after rest value h = ap (λ es. x ∷ es) (h refl)

  some_later : (b : Bool) (value : V) (rest : Option V) → IsSome (cond b (Some value) rest) → b ≡ false → IsSome rest
  some_later true value rest some e = absurd (grind (arith, e))
  some_later false value rest some e = some

  pub set-append_low : (id : ℕ) (value : V) (xs ys : List (ℕ × V)) → IsSome (value_at xs id)
      → set_value (is_at (nat_cmp id)) (xs ++ ys) value ≡ set_value (is_at (nat_cmp id)) xs value ++ ys
  set-append_low id value [] ys some = absurd (false≢true some)
  set-append_low id value (x ∷ xs) ys some =
      set_low_step (is_at (nat_cmp id) x.0) x xs ys (set_value (is_at (nat_cmp id)) xs value)
      (set_value (is_at (nat_cmp id)) (xs ++ ys) value) value
      (λ e. set-append_low id value xs ys (some_later (is_at (nat_cmp id) x.0) x.1 (value_at xs id) some e))

  pub set-append_high : (id : ℕ) (value : V) (xs ys : List (ℕ × V)) → AllByRecursion (λ e. id ≢ e.0) xs
      → set_value (is_at (nat_cmp id)) (xs ++ ys) value ≡ xs ++ set_value (is_at (nat_cmp id)) ys value
  set-append_high id value [] ys all = refl
  set-append_high id value (x ∷ xs) ys all =
      set-step id value x (xs ++ ys) all.0 ∙ ap (λ es. x ∷ es) (set-append_high id value xs ys all.1)

  pub remove-append_high : (id : ℕ) (xs ys : List (ℕ × V)) → AllByRecursion (λ e. id ≢ e.0) xs
      → remove_entry (is_at (nat_cmp id)) (xs ++ ys) ≡ xs ++ remove_entry (is_at (nat_cmp id)) ys
  remove-append_high id [] ys all = refl
  remove-append_high id (x ∷ xs) ys all =
      remove-step id x (xs ++ ys) all.0 ∙ ap (λ es. x ∷ es) (remove-append_high id xs ys all.1)

  -- ---- an id has a value, and every other its own

  sets_front : (b : Bool) (value : V) (rest : Option V) → cond b (Some value) rest ≡ (if b then Some value else rest)
  sets_front true value rest = refl
  sets_front false value rest = refl

  sets_there : (b c : Bool) (value old : V) (rest : Option V) → b ≡ c
      → cond b (Some value) rest ≡ (if c then Some value else cond b (Some old) rest)
  sets_there true true value old rest h = refl
  sets_there false false value old rest h = refl
  sets_there true false value old rest h = absurd (grind (arith, h))
  sets_there false true value old rest h = absurd (grind (arith, h))

  -- a key that is passed by is another
  sets_later : (b c : Bool) (value other : V) (new old : Option V) → (b ≡ true → c ≡ false) → new ≡ (if c then Some value else old)
      → cond b (Some other) new ≡ (if c then Some value else cond b (Some other) old)
  sets_later true true value other new old apart h = (let e = apart refl in absurd (grind (arith, e)))
  sets_later true false value other new old apart h = refl
  sets_later false c value other new old apart h = h

  pub SetsValue-insert : (id : ℕ) (value : V) (es : List (ℕ × V)) → SetsValue es (insert_entry nat_cmp es id value) id (Some value)
  SetsValue-insert id value [] k =
      ap (λ b. cond b (Some value) None) (at_number k id) ∙ sets_front (id == k) value None
  SetsValue-insert id value (e ∷ es) k = elim (cases_order id e.0) [
    | inl same ↦ ap (λ values. value_at values k) (insert-same id value e es same)
        ∙ sets_there (is_at (nat_cmp k) e.0) (id == k) value e.1 (value_at es k)
        (at_number k e.0 ∙ ap (λ n. n == k) (sym same))
    | inr o ↦ elim o [
      | inl less ↦ ap (λ values. value_at values k) (insert-less id value e es less)
          ∙ ap (λ b. cond b (Some value) (value_at (e ∷ es) k)) (at_number k id) ∙ sets_front (id == k) value (value_at (e ∷ es) k)
      | inr more ↦ ap (λ values. value_at values k) (insert-greater id value e es more)
          ∙ sets_later (is_at (nat_cmp k) e.0) (id == k) value e.1 (value_at (insert_entry nat_cmp es id value) k) (value_at es k)
          (apart_later k id e.0 more) (SetsValue-insert id value es k)
    ]
  ]

  sets_apart : (id k : ℕ) (value : V) (e : ℕ × V) (es after : List (ℕ × V)) → id ≢ e.0
      → value_at after k ≡ (if id == k then Some value else value_at es k)
      → value_at (e ∷ after) k ≡ (if id == k then Some value else value_at (e ∷ es) k)
  sets_apart id k value e es after apart h =
      sets_later (is_at (nat_cmp k) e.0) (id == k) value e.1 (value_at after k) (value_at es k) (apart_later-other k id e.0 apart) h

  some_after : (id : ℕ) (e : ℕ × V) (es : List (ℕ × V)) → id ≢ e.0 → IsSome (value_at (e ∷ es) id) → IsSome (value_at es id)
  some_after id e es apart some = subst IsSome (value_at-step id e es apart) some

  set-same : (id : ℕ) (value : V) (e : ℕ × V) (es : List (ℕ × V)) → id ≡ e.0
      → set_value (is_at (nat_cmp id)) (e ∷ es) value ≡ (e.0, value) ∷ es
  set-same id value e es same =
      ap (λ b. cond b ((e.0, value) ∷ es) (e ∷ set_value (is_at (nat_cmp id)) es value)) (at_same id e.0 same)

  pub SetsValue-set : (id : ℕ) (value : V) (es : List (ℕ × V)) → IsSome (value_at es id)
      → SetsValue es (set_value (is_at (nat_cmp id)) es value) id (Some value)
  SetsValue-set id value [] some k = absurd (false≢true some)
  SetsValue-set id value (e ∷ es) some k = elim (cases_order id e.0) [
    | inl same ↦ ap (λ values. value_at values k) (set-same id value e es same)
        ∙ sets_there (is_at (nat_cmp k) e.0) (id == k) value e.1 (value_at es k)
        (at_number k e.0 ∙ ap (λ n. n == k) (sym same))
    | inr o ↦
        let apart : id ≢ e.0 = elim o [
          | inl l ↦ (λ same. omega (arith, l, same))
          | inr g ↦ (λ same. omega (arith, g, same))
        ] in
        ap (λ values. value_at values k) (set-step id value e es apart)
        ∙ sets_apart id k value e es (set_value (is_at (nat_cmp id)) es value) apart
        (SetsValue-set id value es (some_after id e es apart some) k)
  ]
