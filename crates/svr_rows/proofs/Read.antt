-- A table that was read at its place.
use Rattle.std.proofs.Common.{◌≡◌, ◌<◌, ℕ, List, length, get_or, refl, sym, ap, ◌∙◌, subst}
use Rattle.std.proofs.lemmas.Option.{slice_get_read}
use Rattle.std.specs.List.{All}
use Rattle.svr_rows.specs.Kept.{IsTableRows}
use Rattle.svr_rows.specs.Rows.{TableRows, kinds_at, kinds_in, rows_at, rows_in}
use Rattle.svr_rows.proofs.Sums.{IsTableRows-at}

-- it is lawful, and what its place tells
pub record IsReadAt (tables : List TableRows) (place : ℕ) (there : TableRows) : Type 0 where
  pub lawful : IsTableRows there
  pub kinds : there.kinds ≡ kinds_in tables place
  pub rows : there.rows ≡ rows_in tables place

pub IsReadAt-from_read : (items tables : List TableRows) (place : ℕ) (there : TableRows) → All IsTableRows items → items ≡ tables
    → place < length tables → there ≡ get_or items place there → IsReadAt tables place there
IsReadAt-from_read items tables place there lawful same within read =
    let e = slice_get_read items (length items) place there refl (subst (λ ts. place < length ts) (sym same) within) read in
    record {
      lawful = IsTableRows-at items place there lawful e;
      kinds = ap kinds_at (sym e) ∙ ap (λ ts. kinds_in ts place) same;
      rows = ap rows_at (sym e) ∙ ap (λ ts. rows_in ts place) same;
    }
