-- What records may hold.
use Rattle.std.specs.Prelude.{◌≡◌, ◌≤◌, ◌<◌, ◌*◌, ◌^◌, ⊤, ℕ, FitsSigned, List, length, sum_by, IsUtf8}
use Rattle.std.specs.Int.{w64}
use Rattle.std.specs.List.{AllByRecursion}
use Rattle.svr_schema.specs.declared.component.Cell.{Cell}
use Rattle.svr_schema.specs.declared.component.Cell.TheVariants as cell
use Rattle.svr_rows.specs.declared.change.Change.{Change}
use Rattle.svr_rows.specs.declared.change.Change.TheVariants as change
use Rattle.svr_rows.specs.declared.row.Row.{Row}
use Rattle.svr_rows.specs.Rows.{HasId}
use Rattle.svr_record.specs.declared.record.Record.{Record}
use Rattle.svr_record.specs.declared.record.Record.TheVariants as kind
use Rattle.svr_record.specs.declared.record.TermPages.{TermPages}

-- a text of at most 65,536 bytes of UTF-8
pub record IsCellText (text : List ℕ) : Type 0 where
  pub few : length text ≤ 65536
  pub utf8 : IsUtf8 text

-- a number in its type, or such a text
abbrev pub IsCell : Cell → Type 0
IsCell (cell.Int n) = FitsSigned w64 n
IsCell (cell.Text text) = IsCellText text

-- 1 to 8 cells, the first a number that isn't negative
pub record IsRow (row : Row) : Type 0 where
  pub few : length row.cells ≤ 8
  pub id : HasId row
  pub cells : AllByRecursion IsCell row.cells

-- the row is one, or the id is below 2^63
abbrev pub IsChange : Change → Type 0
IsChange (change.Insert table row) = IsRow row
IsChange (change.Update table row) = IsRow row
IsChange (change.Delete table id) = id < 2 ^ 63

-- a term of 1 to 255 bytes of UTF-8
pub record IsTerm (t : TermPages) : Type 0 where
  pub some : 1 ≤ length t.term
  pub few : length t.term ≤ 255
  pub utf8 : IsUtf8 t.term
  pub pages : t.pages < 2 ^ 32

-- the number of pages of all terms
abbrev pub page_count : List TermPages → ℕ
page_count terms = sum_by (λ t. t.pages) terms

-- 1 to 1,000 terms, and as many pages of 4,096 bytes as they say
pub record IsSlice (terms : List TermPages) (pages : List ℕ) : Type 0 where
  pub some : 1 ≤ length terms
  pub few : length terms ≤ 1000
  pub each : AllByRecursion IsTerm terms
  pub whole : length pages ≡ 4096 * page_count terms

-- a schema's text of 1 to 1,048,576 bytes
pub record IsSchemaText (text : List ℕ) : Type 0 where
  pub some : 1 ≤ length text
  pub few : length text ≤ 1048576

-- a record within the limits of its kind
abbrev pub IsRecord : Record → Type 0
IsRecord (kind.Schema text) = IsSchemaText text
IsRecord (kind.Change made) = IsChange made
IsRecord (kind.Load table header block) = length block ≤ 8388608
IsRecord kind.Begin = ⊤
IsRecord (kind.Slice terms pages) = IsSlice terms pages
IsRecord kind.Publish = ⊤

-- the limits alone, which a caller knows: not that texts are UTF-8 and that numbers are in their types
abbrev pub CellFits : Cell → Type 0
CellFits (cell.Int n) = ⊤
CellFits (cell.Text text) = length text ≤ 65536

-- the same of a row
pub record RowFits (row : Row) : Type 0 where
  pub few : length row.cells ≤ 8
  pub id : HasId row
  pub cells : AllByRecursion CellFits row.cells

-- of a change
abbrev pub ChangeFits : Change → Type 0
ChangeFits (change.Insert table row) = RowFits row
ChangeFits (change.Update table row) = RowFits row
ChangeFits (change.Delete table id) = id < 2 ^ 63

-- of a term
pub record TermFits (t : TermPages) : Type 0 where
  pub some : 1 ≤ length t.term
  pub few : length t.term ≤ 255

-- of a slice
pub record SliceFits (terms : List TermPages) (pages : List ℕ) : Type 0 where
  pub some : 1 ≤ length terms
  pub few : length terms ≤ 1000
  pub each : AllByRecursion TermFits terms
  pub whole : length pages ≡ 4096 * page_count terms

-- of a record
abbrev pub RecordFits : Record → Type 0
RecordFits (kind.Schema text) = IsSchemaText text
RecordFits (kind.Change made) = ChangeFits made
RecordFits (kind.Load table header block) = length block ≤ 8388608
RecordFits kind.Begin = ⊤
RecordFits (kind.Slice terms pages) = SliceFits terms pages
RecordFits kind.Publish = ⊤
