-- Where tables and columns stand by their names.
use Rattle.std.specs.Prelude.{ℕ, ◌&&◌, Bool, true, false, List, position, Option}
use Rattle.std.specs.Str.{bytes_eq}
use Rattle.svr_schema.specs.declared.table.ColumnKind.{ColumnKind}
use Rattle.svr_schema.specs.declared.table.ColumnKind.TheVariants as kind
use Rattle.svr_schema.specs.declared.table.Column.{Column}
use Rattle.svr_schema.specs.declared.table.Table.{Table}

-- the kinds are the same
abbrev pub is_kind : ColumnKind → ColumnKind → Bool
is_kind kind.Int kind.Int = true
is_kind kind.Text kind.Text = true
is_kind _ _ = false

-- the place of the table of a name
abbrev pub table_at : List Table → List ℕ → Option ℕ
table_at tables name = position (λ t. bytes_eq t.name name) tables

-- the place of the column of a name
abbrev pub column_at : List Column → List ℕ → Option ℕ
column_at columns name = position (λ c. bytes_eq c.name name) columns

-- the same, of a column of this kind
abbrev pub column_of_kind : ColumnKind → List Column → List ℕ → Option ℕ
column_of_kind kind columns name = position (λ c. bytes_eq c.name name && is_kind c.kind kind) columns
