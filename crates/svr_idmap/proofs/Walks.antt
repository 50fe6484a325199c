-- The first entries from a place on, and above an id.
use Rattle.std.proofs.Common.{◌≡◌, ◌<◌, ◌≤◌, ◌^◌, ◌-◌, ℕ, zero, suc, ◌+◌, Bool, true, false, cond, nat_le, nat_lt, min, List, [], ◌∷◌, ◌++◌}
use Rattle.std.proofs.Common.{◌&&◌, inl, inr, length, drop, find, get_or, nat_cmp, Option, Some, None, refl, sym, ap, ◌∙◌, arith}
use Rattle.std.proofs.Math.ListN.{drop_of_length-le}
use Rattle.std.proofs.Math.Seq.{drop-cons}
use Rattle.std.proofs.lemmas.Bool.{cases_order}
use Rattle.std.proofs.lemmas.Bool.Decides.{nat_tests}
use Rattle.std.proofs.lemmas.List.Folds.{find-append}
use Rattle.std.specs.Cmp.{nat_cmp_is}
use Rattle.std.specs.List.{AllByRecursion}
use Rattle.std.specs.List.Sorted.{IsStrictlySortedBy}
use Rattle.std.specs.Map.{keys_of}
use Rattle.std.specs.Option.{option_or}
use Rattle.std.specs.Ordering.{is_lt}
use Rattle.std.specs.declared.cmp.Ordering.TheVariants.{Less, Equal, Greater}
use Rattle.std.specs.BTreeMap.Range.{entries_between}
use Rattle.std.specs.declared.ops.Bound.TheVariants as bound
use Rattle.svr_idmap.specs.Ids.{Ascends, entry_after, is_above}
use Rattle.svr_idmap.specs.Layout.{AreParted, IsDense, behind, entries_from, place_behind}
use Rattle.svr_idmap.proofs.Places.{entries-below}

next_place : (n i : ℕ) → n + suc i ≡ n + 1 + i
next_place n i = omega arith

first_place : (n : ℕ) → n + 0 ≡ n
first_place n = omega arith

at_least : (m n : ℕ) → m ≤ n → nat_le m n ≡ true
at_least m n h = grind (arith, nat_tests, h)

too_low : (n i : ℕ) → nat_le (n + suc i) n ≡ false
too_low n i = grind (arith, nat_tests)

behind_place : (id k : ℕ) → k < 2 ^ 18 → nat_le (min (id + 1) (2 ^ 64 - 1)) k ≡ nat_lt id k
behind_place id k low = grind (arith, nat_tests, low)

above_test : (id k : ℕ) → is_lt (nat_cmp id k) ≡ nat_lt id k
above_test id k = elim (cases_order id k) [
  | inl e ↦ ap is_lt (sym (nat_cmp_is id k Equal e)) ∙ (let h = e in grind (arith, nat_tests, h))
  | inr o ↦ elim o [
    | inl l ↦ ap is_lt (sym (nat_cmp_is id k Less l)) ∙ (let h = l in grind (arith, nat_tests, h))
    | inr g ↦ ap is_lt (sym (nat_cmp_is id k Greater g)) ∙ (let h = g in grind (arith, nat_tests, h))
  ]
]

module _ {V : Type 0} where
  abbrev pub first_entry : List (ℕ × V) → Option (ℕ × V)
  first_entry [] = None
  first_entry (e ∷ es) = Some e

  -- the first entry from a place on
  abbrev pub entry_from : ℕ → List (ℕ × V) → Option (ℕ × V)
  entry_from place es = find (λ e. nat_le place e.0) es

  find-all : (p : ℕ × V → Bool) (es : List (ℕ × V)) → AllByRecursion (λ e. p e ≡ true) es → find p es ≡ first_entry es
  find-all p [] all = refl
  find-all p (e ∷ es) all = ap (λ b. cond b (Some e) (find p es)) all.0

  entries-from_on : (m n : ℕ) (values : List (Option V)) → m ≤ n → AllByRecursion (λ e. nat_le m e.0 ≡ true) (entries_from n values)
  unfolding entries_from
  entries-from_on m n [] h = tt
  entries-from_on m n (None ∷ values) h = entries-from_on m (n + 1) values (omega (arith, h))
  entries-from_on m n (Some value ∷ values) h = (at_least m n h, entries-from_on m (n + 1) values (omega (arith, h)))

  from-place : (n i : ℕ) (values : List (Option V)) → entry_from (n + i) (entries_from n values) ≡ first_entry (entries_from (n + i) (drop i values))
  unfolding entries_from
  from-place n zero values =
      find-all (λ e. nat_le (n + 0) e.0) (entries_from n values) (entries-from_on (n + 0) n values (omega arith))
      ∙ ap (λ k. first_entry (entries_from k values)) (sym (first_place n))
  from-place n (suc i) [] = refl
  from-place n (suc i) (None ∷ values) =
      ap (λ k. entry_from k (entries_from (n + 1) values)) (next_place n i) ∙ from-place (n + 1) i values
      ∙ ap (λ k. first_entry (entries_from k (drop i values))) (sym (next_place n i))
  from-place n (suc i) (Some value ∷ values) =
      ap (λ b. cond b (Some (n, value)) (entry_from (n + suc i) (entries_from (n + 1) values))) (too_low n i)
      ∙ ap (λ k. entry_from k (entries_from (n + 1) values)) (next_place n i) ∙ from-place (n + 1) i values
      ∙ ap (λ k. first_entry (entries_from k (drop i values))) (sym (next_place n i))

  -- at the start of a walk from a place on
  pub from-start : (from : ℕ) (values : List (Option V))
      → entry_from from (entries_from 0 values) ≡ first_entry (entries_from from (drop from values))
  from-start from values =
      let e : from ≡ 0 + from = omega arith in
      ap (λ k. entry_from k (entries_from 0 values)) e ∙ from-place 0 from values
      ∙ ap (λ k. first_entry (entries_from k (drop from values))) (sym e)

  first-none : (id : ℕ) (values : List (Option V)) → first_entry (entries_from id (None ∷ values)) ≡ first_entry (entries_from (id + 1) values)
  unfolding entries_from
  first-none id values = refl

  first-some : (id : ℕ) (value : V) (values : List (Option V)) → first_entry (entries_from id (Some value ∷ values)) ≡ Some (id, value)
  unfolding entries_from
  first-some id value values = refl

  first-nothing : (id : ℕ) → first_entry (entries_from id []) ≡ None
  unfolding entries_from
  first-nothing id = refl

  module _ (values : List (Option V)) (id : ℕ) where
    module _ (x : Option V) (within : id < length values) (read : x ≡ get_or values id x) where
      begins : first_entry (entries_from id (drop id values)) ≡ first_entry (entries_from id (x ∷ drop (suc id) values))
      begins =
          ap (λ xs. first_entry (entries_from id xs)) (drop-cons values id x within)
          ∙ ap (λ y. first_entry (entries_from id (y ∷ drop (suc id) values))) (sym read)

      -- a step over a place without a value
      pub walk-none : x ≡ None → first_entry (entries_from id (drop id values)) ≡ first_entry (entries_from (id + 1) (drop (id + 1) values))
      walk-none none =
          let next : suc id ≡ id + 1 = omega arith in
          begins ∙ ap (λ y. first_entry (entries_from id (y ∷ drop (suc id) values))) none
          ∙ first-none id (drop (suc id) values)
          ∙ ap (λ n. first_entry (entries_from (id + 1) (drop n values))) next

      -- the walk ends at a value
      pub walk-some : (value : V) → x ≡ Some value → first_entry (entries_from id (drop id values)) ≡ Some (id, value)
      walk-some value some =
          begins ∙ ap (λ y. first_entry (entries_from id (y ∷ drop (suc id) values))) some
          ∙ first-some id value (drop (suc id) values)

    -- or behind the last place
    pub walk-end : length values ≤ id → first_entry (entries_from id (drop id values)) ≡ None
    walk-end end = ap (λ xs. first_entry (entries_from id xs)) (drop_of_length-le values end) ∙ first-nothing id

  -- ---- places above an id

  pub from-behind : (after : Option ℕ) (es : List (ℕ × V)) → AllByRecursion (λ e. e.0 < 2 ^ 18) es
      → entry_from (place_behind after) es ≡ entry_after es after
  from-behind None [] all = refl
  from-behind None (e ∷ es) all = ap (λ b. cond b (Some e) (entry_from 0 es)) (at_least 0 e.0 (omega arith))
  from-behind (Some id) [] all = refl
  from-behind (Some id) (e ∷ es) all =
      ap (λ b. cond b (Some e) (entry_from (place_behind (Some id)) es)) (behind_place id e.0 all.0)
      ∙ ap (λ rest. cond (nat_lt id e.0) (Some e) rest) (from-behind (Some id) es all.1)

  pub next-now : (values : List (Option V)) (count : ℕ) (now : List (ℕ × V)) → IsDense values count → entries_from 0 values ≡ now
      → (after : Option ℕ) → entry_from (place_behind after) (entries_from 0 values) ≡ entry_after now after
  next-now values count now h is after =
      let few = h.few in
      from-behind after (entries_from 0 values) (entries-below 0 (2 ^ 18) values (omega (arith, few))) ∙ ap (λ es. entry_after es after) is

  -- ---- ids ascend

  keys-later : (m n : ℕ) (values : List (Option V)) → m < n → AllByRecursion (λ k. nat_cmp m k ≡ Less) (keys_of (entries_from n values))
  unfolding entries_from
  keys-later m n [] h = tt
  keys-later m n (None ∷ values) h = keys-later m (n + 1) values (omega (arith, h))
  keys-later m n (Some value ∷ values) h = (sym (nat_cmp_is m n Less h), keys-later m (n + 1) values (omega (arith, h)))

  pub entries-ascend : (n : ℕ) (values : List (Option V)) → Ascends (entries_from n values)
  unfolding entries_from IsStrictlySortedBy
  entries-ascend n [] = tt
  entries-ascend n (None ∷ values) = entries-ascend (n + 1) values
  entries-ascend n (Some value ∷ values) = (keys-later n (n + 1) values (omega arith), entries-ascend (n + 1) values)

  less-append : (m : ℕ) (xs ys : List (ℕ × V)) → AllByRecursion (λ k. nat_cmp m k ≡ Less) (keys_of xs)
      → AllByRecursion (λ k. nat_cmp m k ≡ Less) (keys_of ys) → AllByRecursion (λ k. nat_cmp m k ≡ Less) (keys_of (xs ++ ys))
  less-append m [] ys hx hy = hy
  less-append m (x ∷ xs) ys hx hy = (hx.0, less-append m xs ys hx.1 hy)

  less-higher : (m : ℕ) (ys : List (ℕ × V)) → m < 2 ^ 18 → AllByRecursion (λ e. 2 ^ 18 ≤ e.0) ys
      → AllByRecursion (λ k. nat_cmp m k ≡ Less) (keys_of ys)
  less-higher m [] low all = tt
  less-higher m (y ∷ ys) low all = (let h = all.0 in sym (nat_cmp_is m y.0 Less (omega (arith, low, h))), less-higher m ys low all.1)

  ascend-append : (xs ys : List (ℕ × V)) → Ascends xs → Ascends ys → AllByRecursion (λ e. e.0 < 2 ^ 18) xs
      → AllByRecursion (λ e. 2 ^ 18 ≤ e.0) ys → Ascends (xs ++ ys)
  unfolding IsStrictlySortedBy
  ascend-append [] ys hx hy below above = hy
  ascend-append (x ∷ xs) ys hx hy below above =
      (less-append x.0 xs ys hx.0 (less-higher x.0 ys below.0 above), ascend-append xs ys hx.1 hy below.1 above)

  -- ---- lower ids and higher ones

  pub Ascends-parted : (dense sparse : List (ℕ × V)) → AreParted dense sparse → Ascends dense → Ascends (dense ++ sparse)
  Ascends-parted dense sparse h ascend = ascend-append dense sparse ascend h.ascends h.below h.above

  pub after-parted : (dense sparse : List (ℕ × V)) (after : Option ℕ)
      → option_or (entry_after dense after) (entry_after sparse after) ≡ entry_after (dense ++ sparse) after
  after-parted dense sparse after = sym (find-append (λ e. is_above after e.0) dense sparse)

  -- ---- of a map

  after_step : (b : Bool) (e : ℕ × V) (rest : List (ℕ × V)) (found : Option (ℕ × V)) → first_entry rest ≡ found
      → first_entry (cond (b && true) (e ∷ rest) rest) ≡ cond b (Some e) found
  after_step true e rest found h = refl
  after_step false e rest found h = h

  pub first-behind : (after : Option ℕ) (es : List (ℕ × V)) → first_entry (entries_between nat_cmp (behind after) bound.Unbounded es) ≡ entry_after es after
  first-behind None [] = refl
  first-behind None (e ∷ es) = refl
  first-behind (Some id) [] = refl
  first-behind (Some id) (e ∷ es) =
      after_step (is_lt (nat_cmp id e.0)) e (entries_between nat_cmp (behind (Some id)) bound.Unbounded es) (entry_after es (Some id))
      (first-behind (Some id) es)
      ∙ ap (λ b. cond b (Some e) (entry_after es (Some id))) (above_test id e.0)
