-- The row that a delete takes out.
use Rattle.std.proofs.Common.{◌≡◌, ◌<◌, ◌==◌, ℕ, Bool, true, false, not, cond, List, [], ◌∷◌, length, slice_get, Option, Some, None}
use Rattle.std.proofs.Common.{refl, sym, ap, ◌∙◌, ⊎_elim, arith}
use Rattle.std.specs.List.{All}
use Rattle.std.specs.Option.{is_some}
use Rattle.std.proofs.lemmas.Bool.Decides.{nat_tests}
use Rattle.std.proofs.lemmas.List.{length-map}
use Rattle.std.proofs.lemmas.Option.{slice_get_cases}
use Rattle.svr_record.specs.declared.record.Record.TheVariants as entry
use Rattle.svr_request.specs.declared.refusal.Refusal.TheVariants as refusal
use Rattle.svr_rows.specs.declared.change.Change.TheVariants.{Delete}
use Rattle.svr_rows.specs.declared.change.RowRefusal.TheVariants.{NoRow}
use Rattle.svr_rows.specs.declared.row.Row.{Row}
use Rattle.svr_rows.specs.Changes.{refusal_at, refusal_of, refuse_if}
use Rattle.svr_rows.specs.Kept.{IsTableRows}
use Rattle.svr_rows.specs.Rows.{HasId, IsRowOf, TableRows, has_row, id_of, kinds_at, kinds_in, kinds_of, row_at, rows_at, rows_in}
use Rattle.svr_rows.proofs.ById.{is_some-row_at}
use Rattle.svr_rows.proofs.Fits.{HasId-from_fits}
use Rattle.svr_rows.proofs.Sums.{IsTableRows-at}
use Rattle.svr_schema.specs.declared.schema.Schema.{Schema}
use Rattle.svr_view.specs.View.{AreTablesOf}
use Rattle.svr_catalog.specs.Catalog.{Catalog}
use Rattle.svr_core.specs.declared.plan.Edit.TheVariants as edit
use Rattle.svr_core.specs.Outcomes.{change_outcome, edits, refused, unless_refused}

is_same : (a b : ℕ) → (a == b) ≡ true → a ≡ b
is_same a b e = grind (arith, nat_tests, e)

by_test : (b : Bool) (r : Row) (id : ℕ) (rest : Option Row) (row : Row) → (id_of r == id) ≡ b → (rest ≡ Some row → id_of row ≡ id)
    → cond b (Some r) rest ≡ Some row → id_of row ≡ id
by_test true r id rest row e step h =
    let same : r ≡ row = let k : Some r ≡ Some row = h in cc in
    ap id_of (sym same) ∙ is_same (id_of r) id e
by_test false r id rest row e step h = step h

-- a row stands at its id
pub id_of-found : (rows : List Row) (id : ℕ) (row : Row) → row_at rows id ≡ Some row → id_of row ≡ id
id_of-found [] id row h = absurd (let k : None ≡ Some row = h in cc)
id_of-found (r ∷ rows) id row h = by_test (id_of r == id) r id (row_at rows id) row refl (id_of-found rows id row) h

inside : {X : Type 0} (xs : List X) (i : ℕ) → i < length xs → slice_get xs i ≡ None → ⊥
inside xs i lt e = ⊎_elim (λ p. let k : None ≡ Some p.0 = sym e ∙ p.2 in cc) (λ p. omega (arith, lt, p.0)) (slice_get_cases xs i).1

refused_if : (o : Option TableRows) (tables : List TableRows) (place id : ℕ) → slice_get tables place ≡ o → place < length tables
    → row_at (rows_at o) id ≡ None → refusal_at o tables (Delete place id) ≡ Some NoRow
refused_if None tables place id e within h = absurd (inside tables place within e)
refused_if (Some t) tables place id e within h =
    let none : has_row t.rows id ≡ false = sym (is_some-row_at t.rows id) ∙ ap is_some h in
    ap (λ b. refuse_if (not b) NoRow) none

pub refusal_of-no_row : (tables : List TableRows) (place id : ℕ) → place < length tables → row_at (rows_in tables place) id ≡ None
    → refusal_of tables (Delete place id) ≡ Some NoRow
unfolding refusal_of
refusal_of-no_row tables place id within h = refused_if (slice_get tables place) tables place id refl within h

has_id_if : (o : Option TableRows) (tables : List TableRows) (place : ℕ) (row : Row) → slice_get tables place ≡ o → place < length tables
    → All IsTableRows tables → IsRowOf (kinds_at o) row → HasId row
has_id_if None tables place row e within lawful h = absurd (inside tables place within e)
has_id_if (Some t) tables place row e within lawful h = HasId-from_fits t.kinds row (IsTableRows-at tables place t lawful e).columns h

pub HasId-in_table : (tables : List TableRows) (place : ℕ) (row : Row) → place < length tables → All IsTableRows tables
    → IsRowOf (kinds_in tables place) row → HasId row
HasId-in_table tables place row within lawful h = has_id_if (slice_get tables place) tables place row refl within lawful h

-- the tables of a catalog are those of its schema
pub length-tables : (s : Schema) (tables : List TableRows) → AreTablesOf s tables → length tables ≡ length s.tables
length-tables s tables h = sym (length-map tables (λ t. t.kinds)) ∙ ap length h.kinds ∙ length-map s.tables kinds_of

pub change_outcome-no_row : (c : Catalog) (place id : ℕ) → place < length c.tables → row_at (rows_in c.tables place) id ≡ None
    → change_outcome c (Delete place id) ≡ refused refusal.NoRow
change_outcome-no_row c place id within h =
    ap (λ r. unless_refused r (edits (edit.Change (Delete place id)) (entry.Change (Delete place id))))
    (refusal_of-no_row c.tables place id within h)
