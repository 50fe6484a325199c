-- What a change that isn't refused leaves of a lawful table: rows in ascending order, of its columns, and few enough.
use Rattle.std.proofs.Common.{◌≡◌, ◌<◌, ◌≤◌, ◌==◌, ◌||◌, ℕ, suc, Bool, true, false, List, [], ◌∷◌, length, map}
use Rattle.std.proofs.Common.{get_or, not, slice_get, Some, None, refl, sym, ap, ap₂, subst, ◌∙◌, arith}
use Rattle.std.specs.BTreeMap.{insert_entry}
use Rattle.std.specs.Cmp.{nat_cmp_is}
use Rattle.std.specs.List.{All, AllByRecursion}
use Rattle.std.specs.List.Sorted.{IsStrictlySortedBy}
use Rattle.std.specs.Map.{values_of}
use Rattle.std.specs.Ordering.{nat_cmp, is_eq}
use Rattle.std.specs.declared.cmp.Ordering.TheVariants.{Less}
use Rattle.std.proofs.lemmas.Bool.Decides.{nat_tests}
use Rattle.std.proofs.lemmas.Cmp.{ranked}
use Rattle.std.proofs.lemmas.List.Elements.{All-filter, All-same, All-set}
use Rattle.std.proofs.lemmas.Option.{slice_get-get_or}
use Rattle.std.proofs.lemmas.Map.Views.{All-values-insert_entry}
use Rattle.svr_rows.specs.declared.row.Row.{Row}
use Rattle.svr_rows.specs.declared.change.Change.{Change}
use Rattle.svr_rows.specs.declared.change.Change.TheVariants.{Insert, Update, Delete}
use Rattle.svr_rows.specs.Changes.{changed, refusal_of, with_rows, with_rows_of}
use Rattle.svr_rows.specs.Kept.{CanPut, IsAscending, IsLawfulRow, IsTableRows, by_id}
use Rattle.svr_rows.specs.Rows.{TableRows, has_row, id_of, rows_at, rows_in, with_row, without_row}
use Rattle.svr_rows.proofs.ById.{insert_entry-by_id, is_eq-nat_cmp, kept_by, one_more-length, one_more-with_row, values_of-by_id}
use Rattle.svr_rows.proofs.ById.{with_row-cases, with_row-none}
use Rattle.svr_rows.proofs.Sums.{IsTableRows-at, set-with_rows}
use Rattle.svr_rows.proofs.Tested.{CanPut-insert, CanPut-update, IsLawfulRow-from_none, place-delete}

-- ---- their order

below_all : (a b : ℕ) → a < b → (ks : List ℕ) → AllByRecursion (λ k. nat_cmp b k ≡ Less) ks → AllByRecursion (λ k. nat_cmp a k ≡ Less) ks
below_all a b h [] all = tt
below_all a b h (k ∷ ks) all =
    let less : b < k = ranked b k Less (sym all.0) in
    (sym (nat_cmp_is a k Less (omega (arith, h, less))), below_all a b h ks all.1)

all_ids-with_row : (P : ℕ → Type 0) (rows : List Row) (row : Row) → AllByRecursion P (map id_of rows) → P (id_of row)
    → AllByRecursion P (map id_of (with_row rows row))
all_ids-with_row P [] row all one = subst (λ rs. AllByRecursion P (map id_of rs)) (sym (with_row-none row)) (one, tt)
all_ids-with_row P (r ∷ rows) row all one =
    with_row-cases (λ rs. AllByRecursion P (map id_of rs)) r row rows (λ _. (one, all)) (λ _. (one, all.1))
    (λ _. (all.0, all_ids-with_row P rows row all.1 one))

IsAscending-with_row : (rows : List Row) (row : Row) → IsAscending rows → IsAscending (with_row rows row)
unfolding IsStrictlySortedBy
IsAscending-with_row [] row h = subst IsAscending (sym (with_row-none row)) (tt, tt)
IsAscending-with_row (r ∷ rows) row h =
    with_row-cases IsAscending r row rows
    (λ l. ((sym (nat_cmp_is (id_of row) (id_of r) Less l), below_all (id_of row) (id_of r) l (map id_of rows) h.0), h))
    (λ e. subst (λ n. AllByRecursion (λ k. nat_cmp n k ≡ Less) (map id_of rows) × IsStrictlySortedBy nat_cmp (map id_of rows)) e h)
    (λ g. (
      all_ids-with_row (λ k. nat_cmp (id_of r) k ≡ Less) rows row h.0 (sym (nat_cmp_is (id_of r) (id_of row) Less g)),
      IsAscending-with_row rows row h.1,
    ))

all_ids-without_row : (P : ℕ → Type 0) (rows : List Row) (id : ℕ) → AllByRecursion P (map id_of rows)
    → AllByRecursion P (map id_of (without_row rows id))
all_ids-without_row P [] id all = tt
all_ids-without_row P (r ∷ rows) id all =
    let rest = all_ids-without_row P rows id all.1 in
    elim (id_of r == id) as (λ b. AllByRecursion P (map id_of (kept_by b r rows id))) [
      | true ↦ rest
      | false ↦ (all.0, rest)
    ]

IsAscending-without_row : (rows : List Row) (id : ℕ) → IsAscending rows → IsAscending (without_row rows id)
unfolding IsStrictlySortedBy
IsAscending-without_row [] id h = tt
IsAscending-without_row (r ∷ rows) id h =
    let rest = IsAscending-without_row rows id h.1 in
    elim (id_of r == id) as (λ b. IsAscending (kept_by b r rows id)) [
      | true ↦ rest
      | false ↦ (all_ids-without_row (λ k. nat_cmp (id_of r) k ≡ Less) rows id h.0, rest)
    ]

-- ---- how many there are

none_below : (rows : List Row) (id : ℕ) → AllByRecursion (λ k. nat_cmp id k ≡ Less) (map id_of rows) → has_row rows id ≡ false
none_below [] id h = refl
none_below (r ∷ rows) id h = ap₂ (λ a b. a || b) (sym (is_eq-nat_cmp id (id_of r)) ∙ ap is_eq h.0) (none_below rows id h.1)

length-with_row_there : (rows : List Row) (row : Row) → IsAscending rows → has_row rows (id_of row) ≡ true
    → length (with_row rows row) ≡ length rows
unfolding IsStrictlySortedBy
length-with_row_there [] row h there = absurd (let e : false ≡ true = there in cc)
length-with_row_there (r ∷ rows) row h there =
    with_row-cases (λ rs. length rs ≡ length (r ∷ rows)) r row rows
    (λ l. (let none = none_below (r ∷ rows) (id_of row)
    (sym (nat_cmp_is (id_of row) (id_of r) Less l), below_all (id_of row) (id_of r) l (map id_of rows) h.0) in
    absurd (let e : true ≡ false = sym there ∙ none in cc)))
    (λ e. refl)
    (λ g. (let apart : (id_of r == id_of row) ≡ false = grind (arith, nat_tests, g) in
    ap suc (length-with_row_there rows row h.1 (sym (ap (λ b. b || has_row rows (id_of row)) apart) ∙ there))))

few-put : (b : Bool) (rows : List Row) (row : Row) → has_row rows (id_of row) ≡ b → IsAscending rows → length rows ≤ 262144
    → (has_row rows (id_of row) ≡ false → length rows < 262144) → length (with_row rows row) ≤ 262144
few-put true rows row there ascending few room = omega (arith, length-with_row_there rows row ascending there, few)
few-put false rows row new ascending few room =
    omega (arith, one_more-length row rows (with_row rows row) (one_more-with_row rows row new), room new)

few-taken : (rows : List Row) (id : ℕ) → length (without_row rows id) ≤ length rows
few-taken [] id = omega arith
few-taken (r ∷ rows) id =
    let rest = few-taken rows id in
    elim (id_of r == id) as (λ b. length (kept_by b r rows id) ≤ length (r ∷ rows)) [
      | true ↦ omega (arith, rest)
      | false ↦ omega (arith, rest)
    ]

-- ---- one table

pub IsTableRows-put : (t : TableRows) (row : Row) → IsTableRows t → IsLawfulRow t.kinds row
    → (has_row t.rows (id_of row) ≡ false → length t.rows < 262144) → IsTableRows (with_rows_of t (with_row t.rows row))
IsTableRows-put t row lawful fits room =
    let before : All (IsLawfulRow t.kinds) (values_of (by_id t.rows)) =
    All-same (IsLawfulRow t.kinds) (values_of (by_id t.rows)) t.rows (values_of-by_id t.rows) lawful.lawful in
    let all = All-values-insert_entry nat_cmp (id_of row) row (IsLawfulRow t.kinds) (by_id t.rows) before fits in
    let same = ap values_of (insert_entry-by_id t.rows row) ∙ values_of-by_id (with_row t.rows row) in
    record {
      columns = lawful.columns;
      ascending = IsAscending-with_row t.rows row lawful.ascending;
      lawful = All-same (IsLawfulRow t.kinds) (with_row t.rows row) (values_of (insert_entry nat_cmp (by_id t.rows) (id_of row) row))
          (sym same) all;
      few = few-put (has_row t.rows (id_of row)) t.rows row refl lawful.ascending lawful.few room;
    }

pub IsTableRows-taken : (t : TableRows) (id : ℕ) → IsTableRows t → IsTableRows (with_rows_of t (without_row t.rows id))
IsTableRows-taken t id lawful = record {
  columns = lawful.columns;
  ascending = IsAscending-without_row t.rows id lawful.ascending;
  lawful = All-filter (λ row. not (id_of row == id)) (IsLawfulRow t.kinds) t.rows lawful.lawful;
  few = omega (arith, few-taken t.rows id, lawful.few);
}

-- ---- all tables

pub all-with_rows : (tables : List TableRows) (place : ℕ) (there : TableRows) (rows : List Row) → All IsTableRows tables
    → slice_get tables place ≡ Some there → IsTableRows (with_rows_of there rows) → All IsTableRows (with_rows tables place rows)
all-with_rows tables place there rows all e now =
    subst (All IsTableRows) (set-with_rows tables place there rows e) (All-set IsTableRows tables place (with_rows_of there rows) now all)

all-put : (tables : List TableRows) (place : ℕ) (row : Row) → All IsTableRows tables → CanPut tables place row
    → All IsTableRows (with_rows tables place (with_row (rows_in tables place) row))
all-put tables place row all h =
    let now = IsTableRows-put h.table row (IsTableRows-at tables place h.table all h.there)
    (IsLawfulRow-from_none h.table row h.fits) h.room in
    subst (λ rs. All IsTableRows (with_rows tables place (with_row rs row))) (sym (ap rows_at h.there))
    (all-with_rows tables place h.table (with_row h.table.rows row) all h.there now)

pub all-taken : (tables : List TableRows) (place id : ℕ) → All IsTableRows tables → place < length tables
    → All IsTableRows (with_rows tables place (without_row (rows_in tables place) id))
all-taken tables place id all within =
    let none : TableRows = record { kinds = []; rows = [] } in
    let there = get_or tables place none in
    let e = slice_get-get_or tables place none within in
    let now = IsTableRows-taken there id (IsTableRows-at tables place there all e) in
    subst (λ rs. All IsTableRows (with_rows tables place (without_row rs id))) (sym (ap rows_at e))
    (all-with_rows tables place there (without_row there.rows id) all e now)

pub IsTableRows-changed : (tables : List TableRows) (change : Change) → All IsTableRows tables → refusal_of tables change ≡ None
    → All IsTableRows (changed tables change)
IsTableRows-changed tables (Insert place row) all h = all-put tables place row all (CanPut-insert tables place row h)
IsTableRows-changed tables (Update place row) all h = all-put tables place row all (CanPut-update tables place row h)
IsTableRows-changed tables (Delete place id) all h = all-taken tables place id all (place-delete tables place id h)
