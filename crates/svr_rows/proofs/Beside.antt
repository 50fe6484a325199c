-- A row beside those that are ahead of it.
use Rattle.std.proofs.Common.{◌≡◌, ℕ, suc, get_or, take, drop, ◌<◌, ◌≤◌, ◌+◌, ◌==◌, ◌||◌, Bool, true, false, cond, nat_lt, nat_le}
use Rattle.std.proofs.Common.{List, [], ◌∷◌, ◌++◌, length, slice_get, option_map, Option, Some, None, refl, sym, ap, ap₂, ◌∙◌, arith}
use Rattle.std.specs.Ordering.{nat_cmp}
use Rattle.std.specs.List.{list_any}
use Rattle.std.specs.BTreeMap.{is_at}
use Rattle.std.specs.BTreeSet.{btree_set_len, contains}
use Rattle.std.proofs.Math.Bool.{or-false}
use Rattle.std.proofs.Math.Seq.{drop-cons}
use Rattle.std.proofs.lemmas.List.{length-take, take-append-drop}
use Rattle.std.proofs.lemmas.Bool.{or_parts}
use Rattle.std.proofs.lemmas.Bool.Decides.{nat_tests}
use Rattle.std.proofs.lemmas.Option.{slice_get_within}
use Rattle.svr_rows.specs.declared.row.Row.{Row}
use Rattle.svr_rows.specs.declared.load.Ahead.{Ahead}
use Rattle.svr_rows.specs.declared.change.Change.TheVariants.{Insert}
use Rattle.svr_rows.specs.declared.change.RowRefusal.{RowRefusal}
use Rattle.svr_rows.specs.declared.change.RowRefusal.TheVariants.{NoTable, KeyExists, TableFull, TextFull}
use Rattle.svr_rows.specs.Rows.{TableRows, has_row, id_of, row_bytes, rows_at, rows_in, text_bytes, with_row}
use Rattle.svr_rows.specs.Changes.{changed, inserted, load_refusal, numbered, or_then, refusal_from, refusal_of, refuse_if, row_refusal}
use Rattle.svr_rows.specs.Changes.{text_refusal, with_rows, with_rows_of}
use Rattle.svr_rows.specs.Load.{Adds, IsAhead, refusal_beside, refusal_beside_at, refusal_of_new}
use Rattle.svr_rows.proofs.ById.{is_eq-nat_cmp, one_more-has_row, one_more-length, one_more-sum_by, one_more-with_row}
use Rattle.svr_rows.proofs.Tested.{insert_is, inserts_if, neither, not_refused, refused_no_table}
use Rattle.svr_rows.proofs.Sums.{text_bytes-with_rows}
use Rattle.svr_rows.proofs.Laws.{inserted-more, refusal_from-append, rows_in-with_rows, slice_get-with_rows, with_rows-same}
use Rattle.svr_rows.proofs.Laws.{with_rows-twice}

pub IsAhead-none : (tables : List TableRows) (place : ℕ) (ahead : Ahead) → ahead.ids.keys ≡ [] → ahead.bytes ≡ text_bytes tables
    → ahead.bytes ≤ 67108864
    → IsAhead tables place [] ahead
unfolding refusal_from inserted
IsAhead-none tables place ahead empty counted few = record {
  accepted = refl;
  now = rows_in tables place;
  tables_now = sym (with_rows-same tables place);
  has = λ id. sym (ap (λ ids. has_row (rows_in tables place) id || list_any (is_at (nat_cmp id)) ids) empty
      ∙ or-false (has_row (rows_in tables place) id));
  count = omega (arith, ap length empty);
  bytes = counted ∙ ap text_bytes (sym (with_rows-same tables place));
  few = few;
}

-- ---- how the next row is tested

-- texts matter only where the id is new
if_new : (bad full first second : Option RowRefusal) (there : Bool) → (there ≡ false → first ≡ second)
    → inserts_if bad (or_then (refuse_if there KeyExists) full) first ≡ inserts_if bad (or_then (refuse_if there KeyExists) full) second
if_new bad full first second true same = refl
if_new bad full first second false same = ap (inserts_if bad full) (same refl)

module _ (tables : List TableRows) (place : ℕ) (rows : List Row) (ahead : Ahead) (h : IsAhead tables place rows ahead) (row : Row) where
  module _ (there : TableRows) (e : slice_get tables place ≡ Some there) where
    abbrev known : Bool
    known = has_row there.rows (id_of row) || contains nat_cmp ahead.ids (id_of row)

    at_now : slice_get (with_rows tables place h.now) place ≡ Some (with_rows_of there h.now)
    at_now = slice_get-with_rows tables place h.now ∙ ap (option_map (λ t. with_rows_of t h.now)) e

    known-is : has_row h.now (id_of row) ≡ known
    known-is = h.has (id_of row) ∙ ap (λ t. has_row (rows_at t) (id_of row) || contains nat_cmp ahead.ids (id_of row)) e

    bytes-after : known ≡ false
        → ahead.bytes + row_bytes row ≡ text_bytes (with_rows (with_rows tables place h.now) place (with_row h.now row))
    bytes-after new =
        let more = one_more-sum_by row h.now (with_row h.now row) (one_more-with_row h.now row (known-is ∙ new)) row_bytes in
        omega (
          arith,
          h.bytes,
          more,
          text_bytes-with_rows (with_rows tables place h.now) place (with_rows_of there h.now) (with_row h.now row) at_now,
        )

    refusal_beside-there : refusal_of (with_rows tables place h.now) (Insert place row) ≡ refusal_beside_at (Some there) ahead row
    refusal_beside-there =
        let full = λ (n : ℕ). refuse_if (nat_le 262144 n) TableFull in
        let texts = text_refusal (with_rows (with_rows tables place h.now) place (with_row h.now row)) in
        insert_is (with_rows tables place h.now) place (with_rows_of there h.now) at_now row
        ∙ ap₂ (λ b n. inserts_if (row_refusal there row) (or_then (refuse_if b KeyExists) (full n)) texts) known-is
        (h.count ∙ ap (λ t. length (rows_at t) + btree_set_len ahead.ids) e)
        ∙ if_new (row_refusal there row) (full (length there.rows + btree_set_len ahead.ids)) texts
        (refuse_if (nat_lt 67108864 (ahead.bytes + row_bytes row)) TextFull) known
        (λ new. ap (λ n. refuse_if (nat_lt 67108864 n) TextFull) (sym (bytes-after new)))

  refusal_beside-at : (o : Option TableRows) → slice_get tables place ≡ o
      → refusal_of (with_rows tables place h.now) (Insert place row) ≡ refusal_beside_at o ahead row
  refusal_beside-at None e = refused_no_table (with_rows tables place h.now) (Insert place row)
      (slice_get-with_rows tables place h.now ∙ ap (option_map (λ t. with_rows_of t h.now)) e)
  refusal_beside-at (Some there) e = refusal_beside-there there e

  pub refusal_beside-is : refusal_of (inserted tables place rows) (Insert place row) ≡ refusal_beside tables place ahead row
  refusal_beside-is = ap (λ ts. refusal_of ts (Insert place row)) h.tables_now ∙ refusal_beside-at (slice_get tables place) refl

  load_refusal-beside : (rest : List Row) (why : RowRefusal) → refusal_beside tables place ahead row ≡ Some why
      → load_refusal tables place (rows ++ row ∷ rest) ≡ Some (1 + length rows, why)
  unfolding refusal_from
  load_refusal-beside rest why e =
      refusal_from-append 1 tables place rows (row ∷ rest) h.accepted
      ∙ ap (λ o. numbered (1 + length rows) o
      (refusal_from (1 + length rows + 1) (changed (inserted tables place rows) (Insert place row)) place rest))
      (refusal_beside-is ∙ e)

pub load_refusal-taken : (tables : List TableRows) (place : ℕ) (rows : List Row) (i : ℕ) (row : Row) (ahead : Ahead) (why : RowRefusal)
    → i < length rows → row ≡ get_or rows i row → IsAhead tables place (take i rows) ahead
    → refusal_beside tables place ahead row ≡ Some why
    → load_refusal tables place rows ≡ Some (i + 1, why)
load_refusal-taken tables place rows i row ahead why within at h refused =
    let split : take i rows ++ row ∷ drop (suc i) rows ≡ rows =
    ap (λ r. take i rows ++ r ∷ drop (suc i) rows) at ∙ ap (λ rs. take i rows ++ rs) (sym (drop-cons rows i row within))
    ∙ take-append-drop i rows in
    let count : 1 + length (take i rows) ≡ i + 1 = omega (arith, length-take i rows) in
    ap (load_refusal tables place) (sym split)
    ∙ load_refusal-beside tables place (take i rows) ahead h row (drop (suc i) rows) why refused
    ∙ ap (λ n. Some (n, why)) count

-- ---- a row that isn't refused

-- there is a table, which hasn't the row's id and nor have those ahead, and the texts fit
record IsAcceptable (tables : List TableRows) (place : ℕ) (ahead : Ahead) (row : Row) : Type 0 where
  pub there : TableRows
  pub at : slice_get tables place ≡ Some there
  pub new : (has_row there.rows (id_of row) || contains nat_cmp ahead.ids (id_of row)) ≡ false
  pub few : ahead.bytes + row_bytes row ≤ 67108864

acceptable-at : (tables : List TableRows) (place : ℕ) (ahead : Ahead) (row : Row) (o : Option TableRows) → slice_get tables place ≡ o
    → refusal_beside_at o ahead row ≡ None → IsAcceptable tables place ahead row
acceptable-at tables place ahead row None e h = absurd (let k : Some NoTable ≡ None = h in cc)
acceptable-at tables place ahead row (Some there) e h =
    let known = has_row there.rows (id_of row) || contains nat_cmp ahead.ids (id_of row) in
    let full = refuse_if (nat_le 262144 (length there.rows + btree_set_len ahead.ids)) TableFull in
    let texts = refuse_if (nat_lt 67108864 (ahead.bytes + row_bytes row)) TextFull in
    let a = neither (row_refusal there row) (or_then (refusal_of_new there ahead (id_of row)) texts) h in
    let b = neither (refusal_of_new there ahead (id_of row)) texts a.1 in
    let few = not_refused (nat_lt 67108864 (ahead.bytes + row_bytes row)) TextFull b.1 in
    record {
      there = there;
      at = e;
      new = not_refused known KeyExists (neither (refuse_if known KeyExists) full b.0).0;
      few = grind (arith, nat_tests, few);
    }

IsAcceptable-from_none : (tables : List TableRows) (place : ℕ) (ahead : Ahead) (row : Row)
    → refusal_beside tables place ahead row ≡ None
    → IsAcceptable tables place ahead row
IsAcceptable-from_none tables place ahead row h = acceptable-at tables place ahead row (slice_get tables place) refl h

same_test : (a b : ℕ) → (a == b) ≡ is_at (nat_cmp a) b
same_test a b = sym (is_eq-nat_cmp a b ∙ (let t : (b == a) ≡ (a == b) = grind (arith, nat_tests) in t))

either : (one there ahead : Bool) → (one || (there || ahead)) ≡ (there || cond one true ahead)
either true true ahead = refl
either true false ahead = refl
either false there ahead = refl

pub IsAhead-more : (tables : List TableRows) (place : ℕ) (rows : List Row) (old new : Ahead) (row : Row) → IsAhead tables place rows old
    → refusal_beside tables place old row ≡ None → Adds old row new → IsAhead tables place (rows ++ row ∷ []) new
unfolding refusal_from
IsAhead-more tables place rows old new row h none adds =
    let ok = IsAcceptable-from_none tables place old row none in
    let free = known-is tables place rows old h row ok.there ok.at ∙ ok.new in
    let one = one_more-with_row h.now row free in
    let within = slice_get_within tables place ok.there ok.at in
    let now = rows_in-with_rows tables place h.now within in
    record {
      accepted = refusal_from-append 1 tables place rows (row ∷ []) h.accepted
          ∙ ap (λ o. numbered (1 + length rows) o None) (refusal_beside-is tables place rows old h row ∙ none);
      now = with_row h.now row;
      tables_now = inserted-more tables place rows row
          ∙ ap (λ ts. changed ts (Insert place row)) h.tables_now
          ∙ with_rows-twice tables place h.now (with_row (rows_in (with_rows tables place h.now) place) row)
          ∙ ap (λ rs. with_rows tables place (with_row rs row)) now;
      has = λ id. one_more-has_row row h.now (with_row h.now row) one id
          ∙ ap₂ (λ b c. b || c) (same_test (id_of row) id) (h.has id)
          ∙ either (is_at (nat_cmp (id_of row)) id) (has_row (rows_in tables place) id) (contains nat_cmp old.ids id)
          ∙ ap (λ b. has_row (rows_in tables place) id || b) (sym (adds.has id));
      count = omega (arith, one_more-length row h.now (with_row h.now row) one, h.count, adds.count (or_parts _ _ ok.new).1);
      bytes = adds.bytes ∙ bytes-after tables place rows old h row ok.there ok.at ok.new
          ∙ ap text_bytes (with_rows-twice tables place h.now (with_row h.now row));
      few = omega (arith, adds.bytes, ok.few);
    }
