-- How records are written. Numbers stand with the highest byte first.
use Rattle.std.specs.Prelude.{ℕ, Bool, true, false, List, [], ◌∷◌, ◌++◌, length}
use Rattle.std.specs.Int.{cast_unsigned, to_be_bytes, w16, w32, w64}
use Rattle.std.specs.List.{flat_map}
use Rattle.svr_schema.specs.declared.component.Cell.{Cell}
use Rattle.svr_schema.specs.declared.component.Cell.TheVariants as cell
use Rattle.svr_rows.specs.declared.change.Change.{Change}
use Rattle.svr_rows.specs.declared.change.Change.TheVariants as change
use Rattle.svr_rows.specs.declared.row.Row.{Row}
use Rattle.svr_record.specs.declared.record.Record.{Record}
use Rattle.svr_record.specs.declared.record.Record.TheVariants as kind
use Rattle.svr_record.specs.declared.record.TermPages.{TermPages}

-- 0 and a number of eight bytes in two's complement, or 1, the text's length in four bytes, and the text
abbrev pub cell_body : Cell → List ℕ
cell_body (cell.Int n) = 0 ∷ to_be_bytes w64 (cast_unsigned w64 n)
cell_body (cell.Text text) = 1 ∷ (to_be_bytes w32 (length text) ++ text)

-- the number of cells in one byte, and the cells
abbrev pub row_body : Row → List ℕ
row_body row = length row.cells ∷ flat_map cell_body row.cells

-- 1, 2 or 3, the table, and the row or the id in eight bytes
abbrev pub change_body : Change → List ℕ
change_body (change.Insert table row) = 1 ∷ table ∷ row_body row
change_body (change.Update table row) = 2 ∷ table ∷ row_body row
change_body (change.Delete table id) = 3 ∷ table ∷ to_be_bytes w64 id

-- the length in one byte, the term, and its number of pages in four bytes
abbrev pub term_body : TermPages → List ℕ
term_body t = length t.term ∷ (t.term ++ to_be_bytes w32 t.pages)

-- 1 for a block whose first line is a header, else 0
abbrev pub flag : Bool → ℕ
flag true = 1
flag false = 0

-- the kind in one byte, and what belongs to it; of a slice the number of terms in two bytes, the terms, and the pages
abbrev pub body_of : Record → List ℕ
body_of (kind.Schema text) = 1 ∷ text
body_of (kind.Change made) = 2 ∷ change_body made
body_of (kind.Load table header block) = 3 ∷ table ∷ flag header ∷ block
body_of kind.Begin = 4 ∷ []
body_of (kind.Slice terms pages) = 5 ∷ (to_be_bytes w16 (length terms) ++ (flat_map term_body terms ++ pages))
body_of kind.Publish = 6 ∷ []
