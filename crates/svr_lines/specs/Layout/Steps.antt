-- Steps of a reader of lines, of which its public calls are made.
use Rattle.std.specs.Prelude.{◌≡◌, ◌⊎◌, ℕ, ◌+◌, ◌<◌, ◌≤◌}
use Rattle.std.specs.Prelude.{Bool, false, List, [], ◌∷◌, ◌++◌, length, drop, Option, Result, MatchResult}
use Rattle.std.specs.List.{list_all}
use Rattle.std.specs.Io.KnownBytes.{Consumes}
use Rattle.svr_lines.specs.declared.lines.Piece.{Piece}
use Rattle.svr_lines.specs.declared.lines.Piece.TheVariants as piece
use Rattle.svr_lines.specs.declared.lines.InputStop.{InputStop}
use Rattle.svr_lines.specs.Lines.{is_blank, IsUnbroken}
use Rattle.svr_lines.specs.Pieces.{IsLast}
use Rattle.svr_lines.specs.Reading.{Reading, Reads, taken_bytes}

-- count bytes of those ahead were handed out or passed over
pub record Passes (old new : Reading) (count : ℕ) : Type 0 where
  pub ahead : new.ahead ≡ drop count old.ahead
  pub handed : new.handed ≡ old.handed + count
  pub limit : new.limit ≡ old.limit
  pub few : taken_bytes new ≤ new.limit

-- a read put as many bytes behind those ahead as it answers, and none where it failed
pub record Fills (before after : Option (List ℕ)) (old new : Reading) (result : Result ℕ InputStop) (bytes : List ℕ) : Type 0 where
  pub reads : Reads before after old new [] bytes
  pub count : MatchResult result (λ count. count ≡ length bytes) (λ _. bytes ≡ [])

-- gone is this line and the line feed behind it, or the last line of the input
abbrev pub EndsLine : List ℕ → List ℕ → Reading → Option (List ℕ) → Type 0
EndsLine gone line new left = ((new.ended ≡ false) × (gone ≡ line ++ 10 ∷ [])) ⊎ (IsLast new left × (gone ≡ line) × (0 < length line))

-- gone is the next line, whether it is blank or not
abbrev pub TakesLine : Piece → List ℕ → Reading → Option (List ℕ) → Type 0
TakesLine piece.Line gone new left = (length new.text ≤ 1048576) × IsUnbroken new.text × EndsLine gone new.text new left
TakesLine piece.TooLong gone new left = (line : List ℕ) × (1048576 < length line) × IsUnbroken line × EndsLine gone line new left
TakesLine piece.End gone new left = IsLast new left × (gone ≡ [])

-- the piece is a line of nothing but blanks
abbrev pub is_blank_piece : Piece → List ℕ → Bool
is_blank_piece piece.Line text = list_all is_blank text
is_blank_piece piece.TooLong text = false
is_blank_piece piece.End text = false

-- the bytes that were taken and aren't handed out hold no line feed
pub record StopsUnbroken (before after : Option (List ℕ)) (old new : Reading) (bytes : List ℕ) : Type 0 where
  pub consumed : Consumes before after bytes
  pub taken : taken_bytes new ≡ taken_bytes old + length bytes
  pub limit : new.limit ≡ old.limit
  pub unbroken : IsUnbroken (old.ahead ++ bytes)
