-- Reading from left to right: a part, and the bytes behind it.
use Rattle.std.specs.Prelude.{◌≡◌, ℕ, zero, suc, ⊤, List, [], ◌∷◌, length, take, drop, nat_lt, if◌then◌else◌}
use Rattle.std.specs.Prelude.{Option, None, Some, Result, Ok, Err}
use Rattle.std.specs.Int.{Width, byte_len, cast_signed, from_be_bytes, w32, w64}
use Rattle.std.specs.Str.{is_utf8}
use Rattle.svr_schema.specs.declared.component.Cell.{Cell}
use Rattle.svr_schema.specs.declared.component.Cell.TheVariants as cell
use Rattle.svr_record.specs.declared.fault.RecordFault.{RecordFault}
use Rattle.svr_record.specs.declared.fault.RecordFault.TheVariants as fault
use Rattle.svr_record.specs.declared.record.TermPages.{TermPages}

infixl 10 ◌>>=◌
-- what a second reading makes of what the first gave
abbrev pub ◌>>=◌ : {A B : Type 0} → Option A → (A → Option B) → Option B
None >>= next = None
(Some x) >>= next = next x

-- the fault that came: that the bytes are no record comes only where reading gives nothing
abbrev pub Fails : {Y : Type 0} → RecordFault → Option Y → Type 0
Fails fault.Memory read = ⊤
Fails fault.NotARecord read = read ≡ None

-- what came, as `seen` sees it, is what reading gives, unless memory was wanting
abbrev pub Gives : {X Y : Type 0} → (X → Y) → Result X RecordFault → Option Y → Type 0
Gives seen (Ok x) read = read ≡ Some (seen x)
Gives seen (Err why) read = Fails why read

-- so many bytes
abbrev pub bytes_at : ℕ → List ℕ → Option (List ℕ × List ℕ)
bytes_at count bytes = if nat_lt (length bytes) count then None else Some (take count bytes, drop count bytes)

-- a number
abbrev pub number_at : Width → List ℕ → Option (ℕ × List ℕ)
number_at w bytes =
    if nat_lt (length bytes) (byte_len w) then None else Some (from_be_bytes w (take (byte_len w) bytes), drop (byte_len w) bytes)

-- these bytes, if they are UTF-8
abbrev pub text_in : List ℕ → Option (List ℕ)
text_in bytes = if is_utf8 bytes then Some bytes else None

-- a text of so many bytes
unfoldable pub text_at : ℕ → List ℕ → Option (List ℕ × List ℕ)
text_at count bytes = do
  part ← bytes_at count bytes
  text ← text_in part.0
  Some (text, part.1)

-- a number in two's complement, as a cell
unfoldable pub int_cell_at : List ℕ → Option (Cell × List ℕ)
int_cell_at bytes = do
  n ← number_at w64 bytes
  Some (cell.Int (cast_signed w64 n.0), n.1)

-- a text behind its length, as a cell
unfoldable pub text_cell_at : List ℕ → Option (Cell × List ℕ)
text_cell_at bytes = do
  count ← number_at w32 bytes
  if nat_lt 65536 count.0 then None else (text_at count.0 count.1 >>= λ text. Some (cell.Text text.0, text.1))

-- a cell
unfoldable pub cell_at : List ℕ → Option (Cell × List ℕ)
cell_at [] = None
cell_at (zero ∷ bytes) = int_cell_at bytes
cell_at (suc zero ∷ bytes) = text_cell_at bytes
cell_at (suc (suc n) ∷ bytes) = None

-- a term behind its length, with its number of pages
unfoldable pub term_at : List ℕ → Option (TermPages × List ℕ)
term_at [] = None
term_at (zero ∷ bytes) = None
term_at (suc n ∷ bytes) = do
  term ← text_at (suc n) bytes
  pages ← number_at w32 term.1
  Some (record { term = term.0; pages = pages.0 }, pages.1)

-- so many parts, one behind the other
unfoldable pub many_at : {A : Type 0} → (List ℕ → Option (A × List ℕ)) → ℕ → List ℕ → Option (List A × List ℕ)
many_at part zero bytes = Some ([], bytes)
many_at part (suc count) bytes = do
  first ← part bytes
  others ← many_at part count first.1
  Some (first.0 ∷ others.0, others.1)
