-- A row made of values.
use Rattle.std.proofs.Common.{◌≡◌, ℕ, List, [], ◌∷◌, map, slice_get, Option, Some, None, option_map, refl, sym, ap, ◌∙◌}
use Rattle.std.proofs.lemmas.Option.{slice_get-map}
use Rattle.std.specs.List.{cons_option, filter_map}
use Rattle.svr_rows.specs.declared.row.Row.{Row}
use Rattle.svr_rows.specs.declared.row.Given.{Given}
use Rattle.svr_rows.specs.Rows.{TableRows, cell_in, kinds_at, kinds_in, kinds_of}
use Rattle.svr_schema.specs.declared.table.ColumnKind.{ColumnKind}
use Rattle.svr_schema.specs.declared.table.Table.{Table}
use Rattle.svr_core.specs.Outcomes.{row_of}

module _ {X Y : Type 0} (f : X → Option Y) where
  step : (x : X) (xs : List X) (o : Option Y) → f x ≡ o → filter_map f xs ≡ filter_map (λ p. p) (map f xs)
      → filter_map f (x ∷ xs) ≡ filter_map (λ p. p) (o ∷ map f xs)
  step x xs None e h = ap (λ o. cons_option o (filter_map f xs)) e ∙ h
  step x xs (Some y) e h = ap (λ o. cons_option o (filter_map f xs)) e ∙ ap (λ ys. y ∷ ys) h

  pub filter_map-map : (xs : List X) → filter_map f xs ≡ filter_map (λ o. o) (map f xs)
  filter_map-map [] = refl
  filter_map-map (x ∷ xs) = step x xs (f x) refl (filter_map-map xs)

pub filter_map-some : {X : Type 0} (xs : List X) → filter_map (λ o. o) (map Some xs) ≡ xs
filter_map-some [] = refl
filter_map-some (x ∷ xs) = ap (λ ys. x ∷ ys) (filter_map-some xs)

pub row_of-cells : (row : Row) (given : List Given) → map Some row.cells ≡ map cell_in given → row ≡ row_of given
row_of-cells row given h =
    ap (λ cells. record { cells = cells })
    (sym (filter_map-some row.cells) ∙ ap (filter_map (λ o. o)) h ∙ sym (filter_map-map cell_in given))

kinds_if : (o : Option TableRows) (kinds : List ColumnKind) → option_map (λ t. t.kinds) o ≡ Some kinds → kinds_at o ≡ kinds
kinds_if None kinds h = absurd (let e : None ≡ Some kinds = h in cc)
kinds_if (Some t) kinds h = let e : Some t.kinds ≡ Some kinds = h in cc

-- the kinds of a table's columns, by the schema
pub kinds_in-is : (tables : List TableRows) (declared : List Table) (place : ℕ) (table : Table)
    → map (λ t. t.kinds) tables ≡ map kinds_of declared → slice_get declared place ≡ Some table → kinds_in tables place ≡ kinds_of table
kinds_in-is tables declared place table same e =
    kinds_if (slice_get tables place) (kinds_of table)
    (sym (slice_get-map (λ t. t.kinds) tables place) ∙ ap (λ ks. slice_get ks place) same
    ∙ slice_get-map kinds_of declared place ∙ ap (option_map kinds_of) e)
