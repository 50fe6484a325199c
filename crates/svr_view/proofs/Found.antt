-- The documents' table of a schema, and the ids of its rows.
use Rattle.std.proofs.Common.{◌≡◌, ℕ, ◌<◌, List, length, slice_get, Option, Some, None, IfSome, option_map, refl, sym, ap, ◌∙◌, subst}
use Rattle.std.specs.List.{All}
use Rattle.std.proofs.lemmas.Option.{slice_get-map, slice_get_within}
use Rattle.svr_rows.specs.declared.change.Change.{Change}
use Rattle.svr_rows.specs.declared.change.Change.TheVariants.{Insert, Update, Delete}
use Rattle.svr_rows.specs.declared.row.Row.{Row}
use Rattle.svr_rows.specs.Changes.{refusal_of}
use Rattle.svr_rows.specs.Kept.{CanPut, IsTableRows}
use Rattle.svr_rows.specs.Rows.{HasId, IsRowOf, TableRows, kinds_at, kinds_in, kinds_of}
use Rattle.svr_rows.proofs.Fits.{HasId-from_fits}
use Rattle.svr_rows.proofs.Sums.{IsTableRows-at}
use Rattle.svr_rows.proofs.Tested.{CanPut-insert, CanPut-update, IsLawfulRow-from_none}
use Rattle.svr_schema.specs.declared.schema.Schema.{Schema}
use Rattle.svr_view.specs.Layout.{RowHasId, row_after}
use Rattle.svr_view.specs.View.{AreTablesOf}

there_if : {A B : Type 0} (f : A → B) (o : Option A) (y : B) → option_map f o ≡ Some y → (x : A) × (o ≡ Some x)
there_if f None y h = absurd (let no : None ≡ Some y = h in cc)
there_if f (Some x) y h = (x, refl)

module _ (s : Schema) (tables : List TableRows) (of : AreTablesOf s tables) where
  pub text_there : (t : TableRows) × (slice_get tables s.text_table ≡ Some t)
  text_there =
      there_if (λ t. t.kinds) (slice_get tables s.text_table) (kinds_of of.lawful.text.there)
      (sym (slice_get-map (λ t. t.kinds) tables s.text_table) ∙ ap (λ ks. slice_get ks s.text_table) of.kinds
      ∙ slice_get-map kinds_of s.tables s.text_table ∙ ap (option_map kinds_of) of.lawful.text.at)

  pub text_within : s.text_table < length tables
  text_within = slice_get_within tables s.text_table text_there.0 text_there.1

  pub HasId-document : (row : Row) → IsRowOf (kinds_in tables s.text_table) row → HasId row
  HasId-document row fits =
      HasId-from_fits text_there.0.kinds row
      (IsTableRows-at tables s.text_table text_there.0 of.rows text_there.1).columns
      (subst (λ o. IsRowOf (kinds_at o) row) text_there.1 fits)

-- ---- the row of a change that isn't refused

HasId-put : (tables : List TableRows) (place : ℕ) (row : Row) → All IsTableRows tables → CanPut tables place row → HasId row
HasId-put tables place row lawful h =
    HasId-from_fits h.table.kinds row
    (IsTableRows-at tables place h.table lawful h.there).columns (IsLawfulRow-from_none h.table row h.fits).fits

pub RowHasId-accepted : (tables : List TableRows) (change : Change) → All IsTableRows tables → refusal_of tables change ≡ None
    → RowHasId change
RowHasId-accepted tables (Insert place row) lawful h = HasId-put tables place row lawful (CanPut-insert tables place row h)
RowHasId-accepted tables (Update place row) lawful h = HasId-put tables place row lawful (CanPut-update tables place row h)
RowHasId-accepted tables (Delete place id) lawful h = tt

IfSome-row_after : (change : Change) → RowHasId change → IfSome (row_after change) HasId
IfSome-row_after (Insert place row) h = h
IfSome-row_after (Update place row) h = h
IfSome-row_after (Delete place id) h = tt

if_some_read : {A : Type 0} (read : A → Row) (o : Option A) (row : Option Row) → option_map read o ≡ row → IfSome row HasId
    → IfSome o (λ x. HasId (read x))
if_some_read read None row e h = tt
if_some_read read (Some x) row e h = let P : Option Row → Type 0 = λ o. IfSome o HasId in subst P (sym e) h

-- the row that comes has an id, as the code reads it
pub HasId-read : {A : Type 0} (read : A → Row) (o : Option A) (tables : List TableRows) (change : Change) → All IsTableRows tables
    → refusal_of tables change ≡ None → option_map read o ≡ row_after change → IfSome o (λ x. HasId (read x))
HasId-read read o tables change lawful accepted is =
    if_some_read read o (row_after change) is (IfSome-row_after change (RowHasId-accepted tables change lawful accepted))
