use Rattle.std.proofs.Common.{◌≡◌, ◌<◌, ◌≤◌, ℕ, List, false, get_or, length, set, slice_get, Some, sym, ap, ◌∙◌, subst, arith}
use Rattle.std.specs.List.{All}
use Rattle.std.proofs.lemmas.Option.{get_or_from_slice_get, slice_get_within}
use Rattle.svr_rows.specs.declared.row.Row.{Row}
use Rattle.svr_rows.specs.Rows.{TableRows, has_row, id_of, row_at, row_bytes, rows_at, rows_in, text_bytes, with_row}
use Rattle.svr_rows.specs.Changes.{row_refusal, with_rows, with_rows_of}
use Rattle.svr_rows.specs.Kept.{CanPut, bytes_at, IsTableRows}
use Rattle.svr_rows.proofs.Fits.{row_bytes-lawful}
use Rattle.svr_rows.proofs.Lawful.{IsTableRows-put, all-with_rows}
use Rattle.svr_rows.proofs.Tested.{IsLawfulRow-from_none}
use Rattle.svr_rows.proofs.Sums.{bytes_at-counted, bytes_at-few, set-with_rows, CountsTexts-put, IsTableRows-at}
use Rattle.svr_rows.proofs.tables.Tables.put.Goals as goal
use Rattle.svr_rows.proofs.tables.Tables.put.Goals.{In_ok-before}

-- the table that the row may be put into, among those that are kept
module _ {items tables : List TableRows} {place : ℕ} {row : Row} (is : items ≡ tables) (can : CanPut tables place row) where
  stands : slice_get items place ≡ Some can.table
  stands = ap (λ ts. slice_get ts place) is ∙ can.there

  lawful : All IsTableRows items → IsTableRows can.table
  lawful all = IsTableRows-at _ _ _ all stands

  same_table : {there : TableRows} → there ≡ get_or items place there → there ≡ can.table
  same_table {there} read = read ∙ get_or_from_slice_get items place can.table there stands

  short : All IsTableRows items → row_bytes row ≤ 524288
  short all = row_bytes-lawful can.table.kinds row (lawful all).columns (IsLawfulRow-from_none can.table row can.fits)

  all-after : All IsTableRows items → All IsTableRows (with_rows items place (with_row can.table.rows row))
  all-after all =
      all-with_rows items place can.table (with_row can.table.rows row) all stands
      (IsTableRows-put can.table row (lawful all) (IsLawfulRow-from_none can.table row can.fits) can.room)

-- the row that stood there
before : (c : In_ok-before) → c.in_ok-before.before ≡ row_at c.requires.table.rows (id_of c.args.row)
before c =
    c.in_ok-before.ensures.before
    ∙ ap (λ t. row_at t.rows (id_of c.args.row)) (same_table c.self.view_is c.requires c.index_mut.ensures.value)

-- the tables that are kept now
now : (c : In_ok-before)
    → set c.self.inside.tables.items c.args.table c.put.new.self
    ≡ with_rows c.self.inside.tables.items c.args.table (with_row c.requires.table.rows c.args.row)
now c =
    let same = same_table c.self.view_is c.requires c.index_mut.ensures.value in
    ap (set c.self.inside.tables.items c.args.table)
    (c.in_ok-before.ensures.changed ∙ ap (λ t. with_rows_of t (with_row t.rows c.args.row)) same)
    ∙ set-with_rows _ _ _ (with_row c.requires.table.rows c.args.row) (stands c.self.view_is c.requires)

pub text_bytes-requires : goal.text_bytes-requires
text_bytes-requires c = omega (arith, short c.self.view_is c.requires c.self.invariant.1)

pub overflow_add-bytes : goal.overflow_add-bytes
overflow_add-bytes c =
    omega (arith, short c.self.view_is c.requires c.self.invariant.1, c.text_bytes.ensures, c.self.invariant.0.few)

pub index_mut-requires : goal.index_mut-requires
index_mut-requires c =
    let e = stands c.self.view_is c.requires in
    omega (arith, slice_get_within c.self.inside.tables.items c.args.table c.requires.table e, c.self.inside.tables.ok.0)

pub put-requires-clause-fits : goal.put-requires-clause-fits
put-requires-clause-fits c =
    ap (λ t. row_refusal t c.args.row) (same_table c.self.view_is c.requires c.index_mut.ensures.value) ∙ c.requires.fits

pub put-requires-clause-room : goal.put-requires-clause-room
put-requires-clause-room c =
    let same = same_table c.self.view_is c.requires c.index_mut.ensures.value in
    subst (λ (t : TableRows). has_row t.rows (id_of c.args.row) ≡ false → length t.rows < 262144) (sym same) c.requires.room

pub bytes_of-requires : goal.bytes_of-requires
bytes_of-requires c =
    let few = bytes_at-few c.requires.table (id_of c.args.row) (lawful c.self.view_is c.requires c.self.invariant.1) in
    omega (arith, few, ap bytes_at (before (goal.at.bytes_of-requires c).In_ok-before))

pub overflow_sub-self : goal.overflow_sub-self
overflow_sub-self c =
    let few = bytes_at-counted _ _ _ (stands c.self.view_is c.requires) (lawful c.self.view_is c.requires c.self.invariant.1)
    (id_of c.args.row) c.self.inside.bytes c.self.invariant.0 in
    omega (arith, few, c.bytes_of.ensures, ap bytes_at (before (goal.at.overflow_sub-self c).In_ok-before))

pub invariant_of-self-2 : goal.invariant_of-self-2
invariant_of-self-2 c =
    let few = subst (λ ts. text_bytes (with_rows ts c.args.table (with_row c.requires.table.rows c.args.row)) ≤ 67108864)
    (sym c.self.view_is) c.requires.texts in
    let counts = CountsTexts-put _ _ _ (stands c.self.view_is c.requires) (lawful c.self.view_is c.requires c.self.invariant.1)
    c.args.row c.self.inside.bytes c.self.invariant.0 few in
    let k = (goal.at.invariant_of-self-2 c).In_ok-before in
    let gone = c.bytes_of.ensures ∙ ap bytes_at (before k) in (
      rw (c.text_bytes.ensures, gone, now k) counts,
      subst (All IsTableRows) (sym (now k)) (all-after c.self.view_is c.requires c.self.invariant.1),
    )

pub returns-clause-changed : goal.returns-clause-changed
returns-clause-changed c =
    let e = stands c.self.view_is c.requires in
    now (goal.at.returns-clause-changed c).In_ok-before
    ∙ ap (λ rows. with_rows c.self.inside.tables.items c.args.table (with_row rows c.args.row)) (sym (ap rows_at e))
    ∙ ap (λ ts. with_rows ts c.args.table (with_row (rows_in ts c.args.table) c.args.row)) c.self.view_is

pub returns-clause-before : goal.returns-clause-before
returns-clause-before c =
    before (goal.at.returns-clause-before c).In_ok-before
    ∙ ap (λ rows. row_at rows (id_of c.args.row)) (sym (ap rows_at c.requires.there))
