-- What a reader of lines hands out.
use Rattle.std.specs.Prelude.{◌≡◌, ◌⊎◌, ◌<◌, ◌≤◌, ℕ, true, false, List, [], ◌∷◌}
use Rattle.std.specs.Prelude.{◌++◌, length, Option, Some, None, ⊤, ◌==◌, if◌then◌else◌}
use Rattle.std.specs.Io.KnownBytes.{Consumes, IsAtEnd}
use Rattle.svr_lines.specs.declared.lines.Piece.{Piece}
use Rattle.svr_lines.specs.declared.lines.Piece.TheVariants as piece
use Rattle.svr_lines.specs.declared.lines.BlockEnd.{BlockEnd}
use Rattle.svr_lines.specs.declared.lines.BlockEnd.TheVariants as block
use Rattle.svr_lines.specs.Lines.{IsUnbroken, IsWholeLines, is_skipped, pieces_of}
use Rattle.svr_lines.specs.Reading.{Reading}

-- lines that are passed over, and then a line that isn't; the end is LF, or nothing at the end of the input
pub record IsPiece (gone line end : List ℕ) : Type 0 where
  pub skipped : List ℕ
  pub whole : IsWholeLines skipped
  pub none : pieces_of skipped ≡ []
  pub unbroken : IsUnbroken line
  pub kept : is_skipped line ≡ false
  pub is : gone ≡ skipped ++ line ++ end

-- the input is at its end, and all of it was handed out
pub record IsLast (new : Reading) (left : Option (List ℕ)) : Type 0 where
  pub ended : new.ended ≡ true
  pub ahead : new.ahead ≡ []
  pub source : IsAtEnd left

-- a line was handed out: one that LF ends, or the last piece of the input
abbrev pub HandsOut : List ℕ → List ℕ → Reading → Option (List ℕ) → Type 0
HandsOut gone line new left = ((new.ended ≡ false) × IsPiece gone line (10 ∷ [])) ⊎ (IsLast new left × IsPiece gone line [])

-- what was handed out, of the gone bytes
abbrev pub TakesPiece : Piece → List ℕ → Reading → Option (List ℕ) → Type 0
TakesPiece piece.Line gone new left = (length new.text ≤ 1048576) × HandsOut gone new.text new left
TakesPiece piece.TooLong gone new left = (line : List ℕ) × (1048576 < length line) × HandsOut gone line new left
TakesPiece piece.End gone new left = IsLast new left × (pieces_of gone ≡ [])

-- of the bytes that are known to come, the next piece was handed out
abbrev pub NextPiece : Piece → List ℕ → Option (List ℕ) → Option (List ℕ) → Type 0
NextPiece p text None after = ⊤
NextPiece p text (Some before) None = ⊥
NextPiece piece.Line text (Some before) (Some after) = pieces_of before ≡ text ∷ pieces_of after
NextPiece piece.TooLong text (Some before) (Some after) = (line : List ℕ) × (1048576 < length line)
    × (pieces_of before ≡ line ∷ pieces_of after)
NextPiece piece.End text (Some before) (Some after) = pieces_of before ≡ []

-- how a block of so many bytes ended, which are the gone ones
abbrev pub TakesBlock : BlockEnd → ℕ → List ℕ → Reading → Option (List ℕ) → Type 0
TakesBlock block.Whole size gone new left = (length gone ≡ size) × (size ≤ 8388608) × (new.block ≡ gone)
TakesBlock block.Dropped size gone new left = (length gone ≡ size) × (8388608 < size) × (new.block ≡ [])
TakesBlock block.Cut size gone new left = (length gone < size) × IsLast new left

-- how a block of so many bytes ends that begins at the end of the input
abbrev pub block_at_end : ℕ → BlockEnd
block_at_end size = if size == 0 then block.Whole else block.Cut
