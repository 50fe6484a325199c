-- Rows in ascending order of id, and the entries of a map that has each at its id.
use Rattle.std.proofs.Common.{◌≡◌, ℕ, ◌+◌, ◌<◌, ◌==◌, ◌||◌, Bool, true, false, not, cond, nat_lt, List, [], ◌∷◌, ◌++◌}
use Rattle.std.proofs.Common.{length, map, sum_by, Option, Some, is_some, inl, inr, refl, sym, ap, ap₂, ◌∙◌, subst, rules, arith}
use Rattle.std.specs.Ordering.{nat_cmp, match_ordering, is_eq}
use Rattle.std.specs.declared.cmp.Ordering.{Ordering}
use Rattle.std.specs.declared.cmp.Ordering.TheVariants.{Less, Equal, Greater}
use Rattle.std.specs.Cmp.{nat_cmp_is}
use Rattle.std.specs.List.{AllByRecursion, filter, list_any}
use Rattle.std.specs.Map.{lookup, keys_of, values_of, remove_entry}
use Rattle.std.specs.BTreeMap.{is_at, insert_entry}
use Rattle.std.proofs.lemmas.Bool.{cases_order, or_parts}
use Rattle.std.proofs.lemmas.Bool.Decides.{nat_tests}
use Rattle.std.proofs.lemmas.List.{length-append}
use Rattle.std.proofs.lemmas.List.Elements.{filter-append}
use Rattle.std.proofs.lemmas.List.Folds.{list_any-append}
use Rattle.std.proofs.lemmas.List.Sums.{sum_by-append, sum_by-cons}
use Rattle.std.proofs.lemmas.Map.Keys.{sorted_head, sorted_tail}
use Rattle.svr_rows.specs.declared.row.Row.{Row}
use Rattle.svr_rows.specs.Rows.{has_row, id_of, row_at, with_row, without_row}
use Rattle.svr_rows.specs.Kept.{by_id, IsAscending}

pub values_of-by_id : (rows : List Row) → values_of (by_id rows) ≡ rows
values_of-by_id [] = refl
values_of-by_id (r ∷ rows) = ap (λ rs. r ∷ rs) (values_of-by_id rows)

pub keys_of-by_id : (rows : List Row) → keys_of (by_id rows) ≡ map id_of rows
keys_of-by_id [] = refl
keys_of-by_id (r ∷ rows) = ap (λ ids. id_of r ∷ ids) (keys_of-by_id rows)

-- ---- a look-up

pub is_eq-nat_cmp : (a b : ℕ) → is_eq (nat_cmp a b) ≡ (b == a)
is_eq-nat_cmp a b = elim (cases_order a b) [
  | inl e ↦ ap is_eq (sym (nat_cmp_is a b Equal e)) ∙ (let t : (b == a) ≡ true = search (rules, sym e) in sym t)
  | inr o ↦ elim o [
    | inl l ↦ ap is_eq (sym (nat_cmp_is a b Less l)) ∙ (let t : (b == a) ≡ false = grind (arith, nat_tests, l) in sym t)
    | inr g ↦ ap is_eq (sym (nat_cmp_is a b Greater g)) ∙ (let t : (b == a) ≡ false = grind (arith, nat_tests, g) in sym t)
  ]
]

pub lookup-by_id : (rows : List Row) (id : ℕ) → lookup (is_at (nat_cmp id)) (by_id rows) ≡ row_at rows id
lookup-by_id [] id = refl
lookup-by_id (r ∷ rows) id = ap₂ (λ b rest. cond b (Some r) rest) (is_eq-nat_cmp id (id_of r)) (lookup-by_id rows id)

is_some-cond : (b : Bool) (row : Row) (rest : Option Row) → is_some (cond b (Some row) rest) ≡ (b || is_some rest)
is_some-cond true row rest = refl
is_some-cond false row rest = refl

pub is_some-row_at : (rows : List Row) (id : ℕ) → is_some (row_at rows id) ≡ has_row rows id
is_some-row_at [] id = refl
is_some-row_at (r ∷ rows) id = is_some-cond (id_of r == id) r (row_at rows id) ∙ ap (λ b. (id_of r == id) || b) (is_some-row_at rows id)

-- ---- a row is put in

pub with_row-none : (row : Row) → with_row [] row ≡ row ∷ []
unfolding with_row
with_row-none row = refl

with_row-below : (r row : Row) (rows : List Row) → id_of row < id_of r → with_row (r ∷ rows) row ≡ row ∷ r ∷ rows
unfolding with_row
with_row-below r row rows h =
    let t : nat_lt (id_of row) (id_of r) ≡ true = search (rules, h) in
    ap (λ b. cond b (row ∷ r ∷ rows) (cond (id_of r == id_of row) (row ∷ rows) (r ∷ with_row rows row))) t

with_row-at : (r row : Row) (rows : List Row) → id_of r ≡ id_of row → with_row (r ∷ rows) row ≡ row ∷ rows
unfolding with_row
with_row-at r row rows h =
    let t : nat_lt (id_of row) (id_of r) ≡ false = grind (arith, nat_tests, h) in
    let e : (id_of r == id_of row) ≡ true = search (rules, h) in
    ap₂ (λ b d. cond b (row ∷ r ∷ rows) (cond d (row ∷ rows) (r ∷ with_row rows row))) t e

with_row-above : (r row : Row) (rows : List Row) → id_of r < id_of row → with_row (r ∷ rows) row ≡ r ∷ with_row rows row
unfolding with_row
with_row-above r row rows h =
    let t : nat_lt (id_of row) (id_of r) ≡ false = grind (arith, nat_tests, h) in
    let e : (id_of r == id_of row) ≡ false = grind (arith, nat_tests, h) in
    ap₂ (λ b d. cond b (row ∷ r ∷ rows) (cond d (row ∷ rows) (r ∷ with_row rows row))) t e

-- the row stands in front of the first, in its place, or behind it
pub with_row-cases : (Q : List Row → Type 0) (r row : Row) (rows : List Row) → (id_of row < id_of r → Q (row ∷ r ∷ rows))
    → (id_of r ≡ id_of row → Q (row ∷ rows)) → (id_of r < id_of row → Q (r ∷ with_row rows row)) → Q (with_row (r ∷ rows) row)
with_row-cases Q r row rows below at above = elim (cases_order (id_of row) (id_of r)) [
  | inl e ↦ subst Q (sym (with_row-at r row rows (sym e))) (at (sym e))
  | inr o ↦ elim o [
    | inl l ↦ subst Q (sym (with_row-below r row rows l)) (below l)
    | inr g ↦ subst Q (sym (with_row-above r row rows g)) (above g)
  ]
]

abbrev put_by : Ordering → Row → Row → List Row → List (ℕ × Row)
put_by o r row rows =
    match_ordering o ((id_of row, row) ∷ (id_of r, r) ∷ by_id rows) ((id_of r, row) ∷ by_id rows)
    ((id_of r, r) ∷ insert_entry nat_cmp (by_id rows) (id_of row) row)

pub insert_entry-by_id : (rows : List Row) (row : Row) → insert_entry nat_cmp (by_id rows) (id_of row) row ≡ by_id (with_row rows row)
insert_entry-by_id [] row = ap by_id (sym (with_row-none row))
insert_entry-by_id (r ∷ rows) row = elim (cases_order (id_of row) (id_of r)) [
  | inl e ↦
      ap (λ o. put_by o r row rows) (sym (nat_cmp_is (id_of row) (id_of r) Equal e)) ∙ ap (λ id. (id, row) ∷ by_id rows) (sym e)
      ∙ ap by_id (sym (with_row-at r row rows (sym e)))
  | inr o ↦ elim o [
    | inl l ↦ ap (λ o. put_by o r row rows) (sym (nat_cmp_is (id_of row) (id_of r) Less l)) ∙ ap by_id (sym (with_row-below r row rows l))
    | inr g ↦
        ap (λ o. put_by o r row rows) (sym (nat_cmp_is (id_of row) (id_of r) Greater g))
        ∙ ap (λ es. (id_of r, r) ∷ es) (insert_entry-by_id rows row)
        ∙ ap by_id (sym (with_row-above r row rows g))
  ]
]

-- ---- a row whose id isn't there

-- the row is one more among the rows
pub record IsOneMore (row : Row) (rows more : List Row) : Type 0 where
  pub front : List Row
  pub back : List Row
  pub before : rows ≡ front ++ back
  pub after : more ≡ front ++ row ∷ back

one_more-cons : (r row : Row) (rows more : List Row) → IsOneMore row rows more → IsOneMore row (r ∷ rows) (r ∷ more)
one_more-cons r row rows more h =
    record { front = r ∷ h.front; back = h.back; before = ap (λ rs. r ∷ rs) h.before; after = ap (λ rs. r ∷ rs) h.after }

pub one_more-with_row : (rows : List Row) (row : Row) → has_row rows (id_of row) ≡ false → IsOneMore row rows (with_row rows row)
one_more-with_row [] row new = record { front = []; back = []; before = refl; after = with_row-none row }
one_more-with_row (r ∷ rows) row new =
    let apart = or_parts (id_of r == id_of row) (has_row rows (id_of row)) new in
    elim (cases_order (id_of row) (id_of r)) [
      | inl e ↦ absurd (grind (arith, nat_tests, e, apart.0))
      | inr o ↦ elim o [
        | inl l ↦ record { front = []; back = r ∷ rows; before = refl; after = with_row-below r row rows l }
        | inr g ↦ subst (IsOneMore row (r ∷ rows)) (sym (with_row-above r row rows g))
            (one_more-cons r row rows (with_row rows row) (one_more-with_row rows row apart.1))
      ]
    ]

swap : (a b c : Bool) → (a || (b || c)) ≡ (b || (a || c))
swap true true c = refl
swap true false c = refl
swap false true c = refl
swap false false c = refl

-- what counts and tests say of the rows with one more
module _ (row : Row) (rows more : List Row) (h : IsOneMore row rows more) where
  pub one_more-length : length more ≡ length rows + 1
  one_more-length = omega (arith, ap length h.before, ap length h.after, length-append h.front h.back, length-append h.front (row ∷ h.back))

  pub one_more-sum_by : (f : Row → ℕ) → sum_by f more ≡ sum_by f rows + f row
  one_more-sum_by f = omega (
    arith,
    ap (sum_by f) h.before,
    ap (sum_by f) h.after,
    sum_by-append f h.front h.back,
    sum_by-append f h.front (row ∷ h.back),
    sum_by-cons f row h.back,
  )

  pub one_more-has_row : (id : ℕ) → has_row more id ≡ (id_of row == id || has_row rows id)
  one_more-has_row id =
      let test = λ (r : Row). id_of r == id in
      ap (list_any test) h.after ∙ list_any-append test h.front (row ∷ h.back)
      ∙ swap (list_any test h.front) (id_of row == id) (list_any test h.back)
      ∙ ap (λ b. id_of row == id || b) (sym (ap (list_any test) h.before ∙ list_any-append test h.front h.back))

-- ---- a row is taken out

without_row-new : (rows : List Row) (id : ℕ) → has_row rows id ≡ false → without_row rows id ≡ rows
without_row-new [] id new = refl
without_row-new (r ∷ rows) id new =
    let apart = or_parts (id_of r == id) (has_row rows id) new in
    ap₂ (λ b rs. cond (not b) (r ∷ rs) rs) apart.0 (without_row-new rows id apart.1)

-- the row that was put in is the one that is taken out
pub without_row-with_row : (rows : List Row) (row : Row) → has_row rows (id_of row) ≡ false
    → without_row (with_row rows row) (id_of row) ≡ rows
without_row-with_row rows row new =
    let h = one_more-with_row rows row new in
    let keeps = λ (r : Row). not (id_of r == id_of row) in
    let self : (id_of row == id_of row) ≡ true = search rules in
    ap (filter keeps) h.after ∙ filter-append keeps h.front (row ∷ h.back)
    ∙ ap (λ b. filter keeps h.front ++ cond (not b) (row ∷ filter keeps h.back) (filter keeps h.back)) self
    ∙ sym (filter-append keeps h.front h.back) ∙ ap (filter keeps) (sym h.before) ∙ without_row-new rows (id_of row) new

without_row-none : (rows : List Row) (id : ℕ) → AllByRecursion (λ k. nat_cmp id k ≡ Less) (map id_of rows) → without_row rows id ≡ rows
without_row-none [] id h = refl
without_row-none (r ∷ rows) id h =
    let apart : (id_of r == id) ≡ false = sym (is_eq-nat_cmp id (id_of r)) ∙ ap is_eq h.0 in
    ap (λ b. cond (not b) (r ∷ without_row rows id) (without_row rows id)) apart ∙ ap (λ rs. r ∷ rs) (without_row-none rows id h.1)

abbrev taken_by : Bool → Row → List Row → ℕ → List (ℕ × Row)
taken_by b r rows id = cond b (by_id rows) ((id_of r, r) ∷ remove_entry (is_at (nat_cmp id)) (by_id rows))

abbrev pub kept_by : Bool → Row → List Row → ℕ → List Row
kept_by b r rows id = cond (not b) (r ∷ without_row rows id) (without_row rows id)

taken-kept : (b : Bool) (r : Row) (rows : List Row) (id : ℕ) → (b ≡ true → without_row rows id ≡ rows)
    → remove_entry (is_at (nat_cmp id)) (by_id rows) ≡ by_id (without_row rows id) → taken_by b r rows id ≡ by_id (kept_by b r rows id)
taken-kept true r rows id alone rest = ap by_id (sym (alone refl))
taken-kept false r rows id alone rest = ap (λ es. (id_of r, r) ∷ es) rest

pub remove_entry-by_id : (rows : List Row) (id : ℕ) → IsAscending rows
    → remove_entry (is_at (nat_cmp id)) (by_id rows) ≡ by_id (without_row rows id)
remove_entry-by_id [] id h = refl
remove_entry-by_id (r ∷ rows) id h =
    let head = sorted_head nat_cmp (id_of r) (map id_of rows) h in
    let alone : (id_of r == id) ≡ true → without_row rows id ≡ rows =
    λ e. (let same : id_of r ≡ id = grind (arith, nat_tests, e) in
    without_row-none rows id (subst (λ n. AllByRecursion (λ k. nat_cmp n k ≡ Less) (map id_of rows)) same head)) in
    ap (λ b. taken_by b r rows id) (is_eq-nat_cmp id (id_of r))
    ∙ taken-kept (id_of r == id) r rows id alone (remove_entry-by_id rows id (sorted_tail nat_cmp (id_of r) (map id_of rows) h))
