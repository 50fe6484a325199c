-- What a change is refused for, test by test.
use Rattle.std.proofs.Common.{◌≡◌, ℕ, ◌<◌, ◌≤◌, Bool, true, false, not, nat_lt, nat_le, List}
use Rattle.std.proofs.Common.{map, length, slice_get, Option, Some, None, refl, sym, ap, ap₂, ◌∙◌, arith}
use Rattle.std.proofs.lemmas.Bool.{false≢true}
use Rattle.std.proofs.lemmas.Bool.Decides.{nat_tests}
use Rattle.std.proofs.lemmas.Option.{slice_get_within}
use Rattle.svr_rows.specs.declared.row.Row.{Row}
use Rattle.svr_rows.specs.declared.change.Change.{Change}
use Rattle.svr_rows.specs.declared.change.Change.TheVariants.{Insert, Update, Delete}
use Rattle.svr_rows.specs.declared.change.RowRefusal.{RowRefusal}
use Rattle.svr_rows.specs.declared.change.RowRefusal.TheVariants.{NoTable, BadRow, TextTooLong, KeyExists, NoRow, TableFull, TextFull}
use Rattle.svr_rows.specs.Rows.{TableRows, bad_column, has_row, id_of, long_text_from, rows_at, rows_in, text_bytes, with_row}
use Rattle.svr_rows.specs.Changes.{at_column, changed, new_refusal, or_then, refusal_at, refusal_of, refuse_if, row_refusal, table_of}
use Rattle.svr_rows.specs.Changes.{text_refusal, with_rows}
use Rattle.svr_rows.specs.Kept.{CanPut, IsLawfulRow}

pub neither : (first later : Option RowRefusal) → or_then first later ≡ None → (first ≡ None) × (later ≡ None)
neither None later h = (refl, h)
neither (Some why) later h = absurd (let e : Some why ≡ None = h in cc)

no_place : (why : ℕ → RowRefusal) (place : Option ℕ) → at_column why place ≡ None → place ≡ None
no_place why None h = refl
no_place why (Some column) h = absurd (let e : Some (why column) ≡ None = h in cc)

pub not_refused : (b : Bool) (why : RowRefusal) → refuse_if b why ≡ None → b ≡ false
not_refused true why h = absurd (let e : Some why ≡ None = h in cc)
not_refused false why h = refl

pub IsLawfulRow-from_none : (t : TableRows) (row : Row) → row_refusal t row ≡ None → IsLawfulRow t.kinds row
IsLawfulRow-from_none t row h =
    let apart = neither (at_column BadRow (bad_column t.kinds (map Some row.cells)))
    (at_column TextTooLong (long_text_from 0 row.cells)) h in
    record {
      fits = no_place BadRow (bad_column t.kinds (map Some row.cells)) apart.0;
      short = no_place TextTooLong
          (long_text_from 0 row.cells) apart.1;
    }

-- no row has the id, and there is room for one more
pub record IsNew (t : TableRows) (id : ℕ) : Type 0 where
  pub free : has_row t.rows id ≡ false
  pub room : length t.rows < 262144

pub IsNew-from_none : (t : TableRows) (id : ℕ) → new_refusal t id ≡ None → IsNew t id
IsNew-from_none t id h =
    let apart = neither (refuse_if (has_row t.rows id) KeyExists) (refuse_if (nat_le 262144 (length t.rows)) TableFull) h in
    let room = not_refused (nat_le 262144 (length t.rows)) TableFull apart.1 in
    record { free = not_refused (has_row t.rows id) KeyExists apart.0; room = grind (arith, nat_tests, room) }

-- ---- the tests, in their order

abbrev pub inserts_if : Option RowRefusal → Option RowRefusal → Option RowRefusal → Option RowRefusal
inserts_if bad taken texts = or_then bad (or_then taken texts)

abbrev updates_if : Option RowRefusal → Bool → Option RowRefusal → Option RowRefusal
updates_if bad there texts = or_then bad (or_then (refuse_if (not there) NoRow) texts)

pub refused_no_table : (tables : List TableRows) (change : Change) → slice_get tables (table_of change) ≡ None
    → refusal_of tables change ≡ Some NoTable
unfolding refusal_of
refused_no_table tables change e = ap (λ o. refusal_at o tables change) e

pub text_fits : (after : List TableRows) (bytes : ℕ) → bytes ≡ text_bytes after → bytes ≤ 67108864 → text_refusal after ≡ None
text_fits after bytes e few =
    let t : nat_lt 67108864 (text_bytes after) ≡ false = grind (arith, nat_tests, e, few) in
    ap (λ b. refuse_if b TextFull) t

pub text_full : (after : List TableRows) (bytes : ℕ) → bytes ≡ text_bytes after → 67108864 < bytes → text_refusal after ≡ Some TextFull
text_full after bytes e many =
    let t : nat_lt 67108864 (text_bytes after) ≡ true = grind (arith, nat_tests, e, many) in
    ap (λ b. refuse_if b TextFull) t

module _ (tables : List TableRows) (place : ℕ) (there : TableRows) (e : slice_get tables place ≡ Some there) where
  same_rows : rows_in tables place ≡ there.rows
  same_rows = ap rows_at e

  module _ (row : Row) where
    abbrev pub after_put : List TableRows
    after_put = with_rows tables place (with_row there.rows row)

    pub insert_is : refusal_of tables (Insert place row)
        ≡ inserts_if (row_refusal there row) (new_refusal there (id_of row)) (text_refusal after_put)
    unfolding refusal_of
    insert_is =
        ap (λ o. refusal_at o tables (Insert place row)) e
        ∙ ap (λ rows. inserts_if (row_refusal there row) (new_refusal there (id_of row))
        (text_refusal (with_rows tables place (with_row rows row))))
        same_rows

    update_is : refusal_of tables (Update place row)
        ≡ updates_if (row_refusal there row) (has_row there.rows (id_of row)) (text_refusal after_put)
    unfolding refusal_of
    update_is =
        ap (λ o. refusal_at o tables (Update place row)) e
        ∙ ap (λ rows. updates_if (row_refusal there row) (has_row there.rows (id_of row))
        (text_refusal (with_rows tables place (with_row rows row)))) same_rows

    pub insert_bad_row : (why : RowRefusal) → row_refusal there row ≡ Some why → refusal_of tables (Insert place row) ≡ Some why
    insert_bad_row why bad = insert_is ∙ ap (λ r. inserts_if r (new_refusal there (id_of row)) (text_refusal after_put)) bad

    pub insert_not_new : (why : RowRefusal) → row_refusal there row ≡ None → new_refusal there (id_of row) ≡ Some why
        → refusal_of tables (Insert place row) ≡ Some why
    insert_not_new why fits taken = insert_is ∙ ap₂ (λ r s. inserts_if r s (text_refusal after_put)) fits taken

    pub insert_texts : row_refusal there row ≡ None → new_refusal there (id_of row) ≡ None
        → refusal_of tables (Insert place row) ≡ text_refusal after_put
    insert_texts fits new = insert_is ∙ ap₂ (λ r s. inserts_if r s (text_refusal after_put)) fits new

    pub update_bad_row : (why : RowRefusal) → row_refusal there row ≡ Some why → refusal_of tables (Update place row) ≡ Some why
    update_bad_row why bad = update_is ∙ ap (λ r. updates_if r (has_row there.rows (id_of row)) (text_refusal after_put)) bad

    pub update_no_row : row_refusal there row ≡ None → has_row there.rows (id_of row) ≡ false
        → refusal_of tables (Update place row) ≡ Some NoRow
    update_no_row fits has = update_is ∙ ap₂ (λ r b. updates_if r b (text_refusal after_put)) fits has

    pub update_texts : row_refusal there row ≡ None → has_row there.rows (id_of row) ≡ true
        → refusal_of tables (Update place row) ≡ text_refusal after_put
    update_texts fits has = update_is ∙ ap₂ (λ r b. updates_if r b (text_refusal after_put)) fits has

  pub delete_is : (id : ℕ) → refusal_of tables (Delete place id) ≡ refuse_if (not (has_row there.rows id)) NoRow
  unfolding refusal_of
  delete_is id = ap (λ o. refusal_at o tables (Delete place id)) e

-- ---- what a change that is not refused may do

changed_put : (tables : List TableRows) (place : ℕ) (there : TableRows) (row : Row) → slice_get tables place ≡ Some there
    → text_refusal (with_rows tables place (with_row (rows_in tables place) row)) ≡ None
    → text_bytes (with_rows tables place (with_row there.rows row)) ≤ 67108864
changed_put tables place there row e h =
    let after = with_rows tables place (with_row there.rows row) in
    let none : text_refusal after ≡ None =
    ap (λ rows. text_refusal (with_rows tables place (with_row rows row))) (sym (same_rows tables place there e)) ∙ h in
    let few : nat_lt 67108864 (text_bytes after) ≡ false = not_refused (nat_lt 67108864 (text_bytes after)) TextFull none in
    grind (arith, nat_tests, few)

put_if_inserted : (tables : List TableRows) (place : ℕ) (row : Row) (o : Option TableRows) → slice_get tables place ≡ o
    → refusal_at o tables (Insert place row) ≡ None → CanPut tables place row
put_if_inserted tables place row None e h = absurd (let k : Some NoTable ≡ None = h in cc)
put_if_inserted tables place row (Some there) e h =
    let texts = text_refusal (changed tables (Insert place row)) in
    let a = neither (row_refusal there row) (or_then (new_refusal there (id_of row)) texts) h in
    let b = neither (new_refusal there (id_of row)) texts a.1 in
    let new = IsNew-from_none there (id_of row) b.0 in
    record { table = there; there = e; fits = a.0; room = λ _. new.room; texts = changed_put tables place there row e b.1 }

put_if_updated : (tables : List TableRows) (place : ℕ) (row : Row) (o : Option TableRows) → slice_get tables place ≡ o
    → refusal_at o tables (Update place row) ≡ None → CanPut tables place row
put_if_updated tables place row None e h = absurd (let k : Some NoTable ≡ None = h in cc)
put_if_updated tables place row (Some there) e h =
    let a = neither (row_refusal there row)
    (or_then (refuse_if (not (has_row there.rows (id_of row))) NoRow) (text_refusal (changed tables (Update place row)))) h in
    let b = neither (refuse_if (not (has_row there.rows (id_of row))) NoRow) (text_refusal (changed tables (Update place row))) a.1 in
    let has : not (has_row there.rows (id_of row)) ≡ false = not_refused (not (has_row there.rows (id_of row))) NoRow b.0 in
    record {
      table = there;
      there = e;
      fits = a.0;
      room = λ none. absurd
          (false≢true (sym (sym (ap not none) ∙ has)));
      texts = changed_put tables place there row e b.1;
    }

new_if_inserted : (tables : List TableRows) (place : ℕ) (row : Row) (o : Option TableRows)
    → refusal_at o tables (Insert place row) ≡ None → has_row (rows_at o) (id_of row) ≡ false
new_if_inserted tables place row None h = absurd (let k : Some NoTable ≡ None = h in cc)
new_if_inserted tables place row (Some there) h =
    let texts = text_refusal (changed tables (Insert place row)) in
    let a = neither (row_refusal there row) (or_then (new_refusal there (id_of row)) texts) h in
    (IsNew-from_none there (id_of row) (neither (new_refusal there (id_of row)) texts a.1).0).free

-- no row has the id of one whose insert isn't refused
pub has_row-insert : (tables : List TableRows) (place : ℕ) (row : Row) → refusal_of tables (Insert place row) ≡ None
    → has_row (rows_in tables place) (id_of row) ≡ false
unfolding refusal_of
has_row-insert tables place row h = new_if_inserted tables place row (slice_get tables place) h

not_false : (b : Bool) → not b ≡ false → b ≡ true
not_false true h = refl
not_false false h = absurd (let e : true ≡ false = h in cc)

there_if_updated : (tables : List TableRows) (place : ℕ) (row : Row) (o : Option TableRows)
    → refusal_at o tables (Update place row) ≡ None → has_row (rows_at o) (id_of row) ≡ true
there_if_updated tables place row None h = absurd (let k : Some NoTable ≡ None = h in cc)
there_if_updated tables place row (Some there) h =
    let missing = not (has_row there.rows (id_of row)) in
    let texts = text_refusal (changed tables (Update place row)) in
    let a = neither (row_refusal there row) (or_then (refuse_if missing NoRow) texts) h in
    not_false (has_row there.rows (id_of row)) (not_refused missing NoRow (neither (refuse_if missing NoRow) texts a.1).0)

-- a row has the id of one whose update isn't refused
pub has_row-update : (tables : List TableRows) (place : ℕ) (row : Row) → refusal_of tables (Update place row) ≡ None
    → has_row (rows_in tables place) (id_of row) ≡ true
unfolding refusal_of
has_row-update tables place row h = there_if_updated tables place row (slice_get tables place) h

pub CanPut-insert : (tables : List TableRows) (place : ℕ) (row : Row) → refusal_of tables (Insert place row) ≡ None
    → CanPut tables place row
unfolding refusal_of
CanPut-insert tables place row h = put_if_inserted tables place row (slice_get tables place) refl h

pub CanPut-update : (tables : List TableRows) (place : ℕ) (row : Row) → refusal_of tables (Update place row) ≡ None
    → CanPut tables place row
unfolding refusal_of
CanPut-update tables place row h = put_if_updated tables place row (slice_get tables place) refl h

stands_if_deleted : (tables : List TableRows) (place id : ℕ) (o : Option TableRows) → slice_get tables place ≡ o
    → refusal_at o tables (Delete place id) ≡ None → place < length tables
stands_if_deleted tables place id None e h = absurd (let k : Some NoTable ≡ None = h in cc)
stands_if_deleted tables place id (Some there) e h = slice_get_within tables place there e

pub place-delete : (tables : List TableRows) (place id : ℕ) → refusal_of tables (Delete place id) ≡ None → place < length tables
unfolding refusal_of
place-delete tables place id h = stands_if_deleted tables place id (slice_get tables place) refl h
