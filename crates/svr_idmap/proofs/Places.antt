-- The entries of values that stand at the places of their ids.
use Rattle.std.proofs.lemmas.Bool.{false≢true}
use Rattle.std.proofs.Common.{IsSome}
use Rattle.std.proofs.Common.{subst}
use Rattle.std.proofs.Common.{◌≡◌, ◌≢◌, ◌<◌, ◌≤◌, ◌==◌, ◌^◌, ◌-◌, Bool, true, false, if◌then◌else◌, ℕ, zero, suc, ◌+◌, cond, List, [], ◌∷◌, ◌++◌, length, set, nat_cmp}
use Rattle.std.proofs.Common.{Option, Some, None, slice_get, get_or, unwrap_or, refl, sym, ap, ◌∙◌, arith}
use Rattle.std.specs.BTreeMap.{insert_entry, is_at}
use Rattle.std.specs.List.{AllByRecursion}
use Rattle.std.specs.Map.{remove_entry, set_value}
use Rattle.std.proofs.lemmas.Bool.Decides.{nat_tests}
use Rattle.std.proofs.lemmas.List.{length-set}
use Rattle.std.proofs.lemmas.Option.{slice_get_read}
use Rattle.svr_idmap.specs.Ids.{SetsValue, value_at}
use Rattle.svr_idmap.specs.Layout.{IsDense, KeepsEntries, count_of, entries_from}
use Rattle.svr_idmap.proofs.Tests.{at_same, insert-front, insert-greater, insert-same, others-above, others-below, remove-none, remove-step, same_id, set-step}
use Rattle.svr_idmap.proofs.Tests.{value_at-none, value_at-step}

next_place : (n i : ℕ) → n + suc i ≡ n + 1 + i
next_place n i = omega arith

first_place : (n : ℕ) → n + 0 ≡ n
first_place n = omega arith

number_test : (i k : ℕ) → (suc i == suc k) ≡ (i == k)
number_test i k = grind (arith, nat_tests)

zero_test : (k : ℕ) → (0 == suc k) ≡ false
zero_test k = grind (arith, nat_tests)

test_zero : (k : ℕ) → (suc k == 0) ≡ false
test_zero k = grind (arith, nat_tests)

later_place : (n i : ℕ) → n + suc i ≢ n
later_place n i same = omega (arith, same)

module _ {V : Type 0} where
  -- the value at a place, if one is there
  abbrev pub at_place : List (Option V) → ℕ → Option V
  at_place values i = unwrap_or (slice_get values i) None

  -- ---- where ids lie

  pub entries-above : (m n : ℕ) (values : List (Option V)) → m < n → AllByRecursion (λ e. m < e.0) (entries_from n values)
  unfolding entries_from
  entries-above m n [] h = tt
  entries-above m n (None ∷ values) h = entries-above m (n + 1) values (omega (arith, h))
  entries-above m n (Some value ∷ values) h = (h, entries-above m (n + 1) values (omega (arith, h)))

  pub entries-below : (n end : ℕ) (values : List (Option V)) → n + length values ≤ end → AllByRecursion (λ e. e.0 < end) (entries_from n values)
  unfolding entries_from
  entries-below n end [] h = tt
  entries-below n end (None ∷ values) h = entries-below (n + 1) end values (omega (arith, h))
  entries-below n end (Some value ∷ values) h = (omega (arith, h), entries-below (n + 1) end values (omega (arith, h)))

  -- ---- the value at a place

  pub value_at-place : (n i : ℕ) (values : List (Option V)) → value_at (entries_from n values) (n + i) ≡ at_place values i
  unfolding entries_from
  value_at-place n i [] = refl
  value_at-place n zero (None ∷ values) =
      value_at-none (n + 0) (entries_from (n + 1) values)
      (others-above (n + 0) (entries_from (n + 1) values) (entries-above (n + 0) (n + 1) values (omega arith)))
  value_at-place n zero (Some value ∷ values) =
      ap (λ b. cond b (Some value) (value_at (entries_from (n + 1) values) (n + 0))) (at_same (n + 0) n (first_place n))
  value_at-place n (suc i) (None ∷ values) =
      ap (value_at (entries_from (n + 1) values)) (next_place n i) ∙ value_at-place (n + 1) i values
  value_at-place n (suc i) (Some value ∷ values) =
      value_at-step (n + suc i) (n, value) (entries_from (n + 1) values) (later_place n i)
      ∙ ap (value_at (entries_from (n + 1) values)) (next_place n i) ∙ value_at-place (n + 1) i values

  pub at_place-beyond : (values : List (Option V)) (i : ℕ) → length values ≤ i → at_place values i ≡ None
  at_place-beyond [] i h = refl
  at_place-beyond (x ∷ values) zero h = absurd (omega (arith, h))
  at_place-beyond (x ∷ values) (suc i) h = at_place-beyond values i (omega (arith, h))

  -- ---- a value is put at its place

  pub insert-place : (n i : ℕ) (values : List (Option V)) (value : V) → i < length values
      → insert_entry nat_cmp (entries_from n values) (n + i) value ≡ entries_from n (set values i (Some value))
  unfolding entries_from
  insert-place n i [] value h = absurd (omega (arith, h))
  insert-place n zero (None ∷ values) value h =
      ap (λ id. insert_entry nat_cmp (entries_from (n + 1) values) id value) (first_place n)
      ∙ insert-front n value (entries_from (n + 1) values) (entries-above n (n + 1) values (omega arith))
  insert-place n zero (Some old ∷ values) value h = insert-same (n + 0) value (n, old) (entries_from (n + 1) values) (first_place n)
  insert-place n (suc i) (None ∷ values) value h =
      ap (λ id. insert_entry nat_cmp (entries_from (n + 1) values) id value) (next_place n i)
      ∙ insert-place (n + 1) i values value (omega (arith, h))
  insert-place n (suc i) (Some old ∷ values) value h =
      insert-greater (n + suc i) value (n, old) (entries_from (n + 1) values) (omega arith)
      ∙ ap (λ es. (n, old) ∷ es)
      (ap (λ id. insert_entry nat_cmp (entries_from (n + 1) values) id value) (next_place n i)
      ∙ insert-place (n + 1) i values value (omega (arith, h)))

  -- ---- and taken out

  pub remove-place : (n i : ℕ) (values : List (Option V)) → i < length values
      → remove_entry (is_at (nat_cmp (n + i))) (entries_from n values) ≡ entries_from n (set values i None)
  unfolding entries_from
  remove-place n i [] h = absurd (omega (arith, h))
  remove-place n zero (None ∷ values) h =
      remove-none (n + 0) (entries_from (n + 1) values)
      (others-above (n + 0) (entries_from (n + 1) values) (entries-above (n + 0) (n + 1) values (omega arith)))
  remove-place n zero (Some old ∷ values) h =
      ap (λ b. cond b (entries_from (n + 1) values) ((n, old) ∷ remove_entry (is_at (nat_cmp (n + 0))) (entries_from (n + 1) values)))
      (at_same (n + 0) n (first_place n))
  remove-place n (suc i) (None ∷ values) h =
      ap (λ id. remove_entry (is_at (nat_cmp id)) (entries_from (n + 1) values)) (next_place n i)
      ∙ remove-place (n + 1) i values (omega (arith, h))
  remove-place n (suc i) (Some old ∷ values) h =
      remove-step (n + suc i) (n, old) (entries_from (n + 1) values) (later_place n i)
      ∙ ap (λ es. (n, old) ∷ es)
      (ap (λ id. remove_entry (is_at (nat_cmp id)) (entries_from (n + 1) values)) (next_place n i)
      ∙ remove-place (n + 1) i values (omega (arith, h)))

  -- ---- and takes the place of another

  pub set-place : (n i : ℕ) (values : List (Option V)) (value : V) → IsSome (at_place values i)
      → set_value (is_at (nat_cmp (n + i))) (entries_from n values) value ≡ entries_from n (set values i (Some value))
  unfolding entries_from
  set-place n i [] value some = absurd (false≢true some)
  set-place n zero (None ∷ values) value some = absurd (false≢true some)
  set-place n zero (Some old ∷ values) value some =
      ap (λ b. cond b ((n, value) ∷ entries_from (n + 1) values) ((n, old) ∷ set_value (is_at (nat_cmp (n + 0))) (entries_from (n + 1) values) value))
      (at_same (n + 0) n (first_place n))
  set-place n (suc i) (None ∷ values) value some =
      ap (λ id. set_value (is_at (nat_cmp id)) (entries_from (n + 1) values) value) (next_place n i)
      ∙ set-place (n + 1) i values value some
  set-place n (suc i) (Some old ∷ values) value some =
      set-step (n + suc i) value (n, old) (entries_from (n + 1) values) (later_place n i)
      ∙ ap (λ es. (n, old) ∷ es)
      (ap (λ id. set_value (is_at (nat_cmp id)) (entries_from (n + 1) values) value) (next_place n i)
      ∙ set-place (n + 1) i values value some)

  pub within-some : (values : List (Option V)) (i : ℕ) → IsSome (at_place values i) → i < length values
  within-some [] i some = absurd (false≢true some)
  within-some (x ∷ values) zero some = omega arith
  within-some (x ∷ values) (suc i) some = let h = within-some values i some in omega (arith, h)

  pub remove-beyond : (i : ℕ) (values : List (Option V)) → length values ≤ i
      → remove_entry (is_at (nat_cmp i)) (entries_from 0 values) ≡ entries_from 0 values
  remove-beyond i values h =
      remove-none i (entries_from 0 values)
      (others-below i (entries_from 0 values) (entries-below 0 i values (omega (arith, h))))

  -- ---- an id has a value, and every other its own

  at_place-set : (values : List (Option V)) (i k : ℕ) (o : Option V) → i < length values
      → at_place (set values i o) k ≡ (if i == k then o else at_place values k)
  at_place-set [] i k o within = absurd (omega (arith, within))
  at_place-set (x ∷ values) zero zero o within = refl
  at_place-set (x ∷ values) zero (suc k) o within = ap (λ b. if b then o else at_place values k) (sym (zero_test k))
  at_place-set (x ∷ values) (suc i) zero o within = ap (λ b. if b then o else x) (sym (test_zero i))
  at_place-set (x ∷ values) (suc i) (suc k) o within =
      at_place-set values i k o (omega (arith, within)) ∙ ap (λ b. if b then o else at_place values k) (sym (number_test i k))

  pub value_at-entries : (values : List (Option V)) (k : ℕ) → value_at (entries_from 0 values) k ≡ at_place values k
  value_at-entries values k =
      let zero_more : k ≡ 0 + k = omega arith in ap (value_at (entries_from 0 values)) zero_more ∙ value_at-place 0 k values

  stays : (b : Bool) (o : Option V) → (b ≡ true → o ≡ None) → o ≡ (if b then None else o)
  stays true o h = h refl
  stays false o h = refl

  -- ---- how many there are

  pub length-entries : (n : ℕ) (values : List (Option V)) → length (entries_from n values) ≤ length values
  unfolding entries_from
  length-entries n [] = omega arith
  length-entries n (None ∷ values) = let h = length-entries (n + 1) values in omega (arith, h)
  length-entries n (Some value ∷ values) = let h = length-entries (n + 1) values in omega (arith, h)

  pub length-set_place : (n i : ℕ) (values : List (Option V)) (o : Option V) → i < length values
      → length (entries_from n (set values i o)) + count_of (at_place values i) ≡ length (entries_from n values) + count_of o
  unfolding entries_from
  length-set_place n i [] o h = absurd (omega (arith, h))
  length-set_place n zero (None ∷ values) None h = refl
  length-set_place n zero (None ∷ values) (Some value) h = omega arith
  length-set_place n zero (Some old ∷ values) None h = omega arith
  length-set_place n zero (Some old ∷ values) (Some value) h = refl
  length-set_place n (suc i) (None ∷ values) o h = length-set_place (n + 1) i values o (omega (arith, h))
  length-set_place n (suc i) (Some old ∷ values) o h =
      let rest = length-set_place (n + 1) i values o (omega (arith, h)) in omega (arith, rest)

  pub entries_from-more : (n : ℕ) (values : List (Option V)) → entries_from n (values ++ None ∷ []) ≡ entries_from n values
  unfolding entries_from
  entries_from-more n [] = refl
  entries_from-more n (None ∷ values) = entries_from-more (n + 1) values
  entries_from-more n (Some value ∷ values) = ap (λ es. (n, value) ∷ es) (entries_from-more (n + 1) values)

  -- ---- the same as the code has it: values, how many there are, and what contracts see of them

  at_place-read : (values : List (Option V)) (i : ℕ) (x : Option V) → i < length values → x ≡ get_or values i x → at_place values i ≡ x
  at_place-read values i x within read = ap (λ o. unwrap_or o None) (slice_get_read values (length values) i x refl within read)

  pub IsDense-more : (values more : List (Option V)) (count : ℕ) → IsDense values count → length more ≤ 2 ^ 18 → KeepsEntries values more
      → IsDense more count
  IsDense-more values more count h few same = record { few = few; counted = h.counted ∙ ap length (sym (same 0)) }

  count_of-few : (o : Option V) → count_of o ≤ 1
  count_of-few None = omega arith
  count_of-few (Some value) = omega arith

  count-some : (o : Option V) → IsSome o → count_of o ≡ 1
  count-some None some = absurd (false≢true some)
  count-some (Some value) some = refl

  module _ (values : List (Option V)) (count : ℕ) (now : List (ℕ × V)) (h : IsDense values count) (is : entries_from 0 values ≡ now) where
    pub count-few : count ≤ 2 ^ 18
    count-few = let few = h.few in let counted = h.counted in omega (arith, few, counted, length-entries 0 values)

    value-now : (i : ℕ) → value_at now i ≡ at_place values i
    value-now i = ap (λ es. value_at es i) (sym is) ∙ value_at-entries values i

    pub value-beyond : (i : ℕ) → length values ≤ i → None ≡ value_at now i
    value-beyond i beyond = sym (value-now i ∙ at_place-beyond values i beyond)

    pub remove-none_there : (i : ℕ) → length values ≤ i → now ≡ remove_entry (is_at (nat_cmp i)) now
    remove-none_there i beyond =
        sym (ap (remove_entry (is_at (nat_cmp i))) (sym is) ∙ remove-beyond i values beyond ∙ is)

    pub some-there : (i : ℕ) → IsSome (value_at now i) → IsSome (at_place values i)
    some-there i some = subst IsSome (value-now i) some

    pub within-there : (i : ℕ) → IsSome (value_at now i) → i < length values
    within-there i some = within-some values i (some-there i some)

    pub replaced-now : (i : ℕ) (value : V) → IsSome (value_at now i)
        → entries_from 0 (set values i (Some value)) ≡ set_value (is_at (nat_cmp i)) now value
    replaced-now i value some = let zero_more : i ≡ 0 + i = omega arith in
        sym (ap (λ es. set_value (is_at (nat_cmp i)) es value) (sym is)
        ∙ ap (λ id. set_value (is_at (nat_cmp id)) (entries_from 0 values) value) zero_more
        ∙ set-place 0 i values value (some-there i some))

    pub SetsValue-none_there : (i : ℕ) → length values ≤ i → SetsValue now now i None
    SetsValue-none_there i beyond k = stays (i == k) (value_at now k)
        (λ e. value-now k ∙ at_place-beyond values k (subst (λ n. length values ≤ n) (same_id i k e) beyond))

    pub SetsValue-removed : (i : ℕ) → i < length values → SetsValue now (entries_from 0 (set values i None)) i None
    SetsValue-removed i within k =
        value_at-entries (set values i None) k ∙ at_place-set values i k None within
        ∙ ap (λ o. if i == k then None else o) (sym (value-now k))

    module _ (i : ℕ) (x : Option V) (within : i < length values) (read : x ≡ get_or values i x) where
      pub value-read : x ≡ value_at now i
      value-read = sym (value-now i ∙ at_place-read values i x within read)

      counts : (o : Option V) → length (entries_from 0 (set values i o)) + count_of x ≡ length (entries_from 0 values) + count_of o
      counts o =
          ap (λ y. length (entries_from 0 (set values i o)) + count_of y) (sym (at_place-read values i x within read))
          ∙ length-set_place 0 i values o within

      pub counted-there : count_of x ≤ count
      counted-there = let counted = h.counted in let e = counts None in omega (arith, counted, e)

      pub IsDense-removed : IsDense (set values i None) (count - count_of x)
      IsDense-removed = record {
        few = let few = h.few in omega (arith, few, length-set values i None);
        counted = let counted = h.counted in let e = counts None in omega (arith, counted, e);
      }

      pub removed-now : entries_from 0 (set values i None) ≡ remove_entry (is_at (nat_cmp i)) now
      removed-now = let zero_more : i ≡ 0 + i = omega arith in
          sym (ap (remove_entry (is_at (nat_cmp i))) (sym is)
          ∙ ap (λ id. remove_entry (is_at (nat_cmp id)) (entries_from 0 values)) zero_more ∙ remove-place 0 i values within)

      pub IsDense-inserted : (value : V) → IsDense (set values i (Some value)) (count + 1 - count_of x)
      IsDense-inserted value = record {
        few = let few = h.few in omega (arith, few, length-set values i (Some value));
        counted = let counted = h.counted in let e = counts (Some value) in let one = count_of-few x in omega (arith, counted, e, one);
      }

      pub inserted-now : (value : V) → entries_from 0 (set values i (Some value)) ≡ insert_entry nat_cmp now i value
      inserted-now value = let zero_more : i ≡ 0 + i = omega arith in
          sym (ap (λ es. insert_entry nat_cmp es i value) (sym is)
          ∙ ap (λ id. insert_entry nat_cmp (entries_from 0 values) id value) zero_more ∙ insert-place 0 i values value within)

      -- where there is one, as many stay
      pub IsDense-replaced : (value : V) → IsSome (value_at now i) → IsDense (set values i (Some value)) count
      IsDense-replaced value some = record {
        few = let few = h.few in omega (arith, few, length-set values i (Some value));
        counted = let counted = h.counted in let e = counts (Some value) in
            let one = count-some x (subst IsSome (sym value-read) some) in omega (arith, counted, e, one);
      }
