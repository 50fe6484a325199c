-- How a reader of lines stands, and what a stretch of reading makes of it.
use Rattle.std.specs.Prelude.{◌≡◌, ℕ, ◌+◌, Bool, true, false, List, [], ◌++◌, length, Option}
use Rattle.std.specs.Io.KnownBytes.{Consumes, IsAtEnd}

pub record Reading : Type 0 where
  -- the bytes that were taken from the source and aren't handed out
  pub ahead : List ℕ
  -- the line that was handed out last
  pub text : List ℕ
  -- the block that was handed out last
  pub block : List ℕ
  -- how many bytes were handed out or passed over
  pub handed : ℕ
  -- how many bytes may be taken
  pub limit : ℕ
  -- whether the source was seen at its end, and nothing is ahead
  pub ended : Bool

-- a reader that has taken nothing, and may take so many bytes
abbrev pub new_reading : ℕ → Reading
new_reading limit = record { ahead = []; text = []; block = []; handed = 0; limit = limit; ended = false }

-- how many bytes were taken
abbrev pub taken_bytes : Reading → ℕ
taken_bytes r = r.handed + length r.ahead

-- where the end was seen, nothing is ahead, and the bytes left, where they are known, are none
abbrev pub KnowsEnd : Reading → Option (List ℕ) → Type 0
KnowsEnd r left = r.ended ≡ true → (r.ahead ≡ []) × IsAtEnd left

-- bytes were read behind what was ahead, and the gone ones in front of it were handed out or passed over
pub record Reads (before after : Option (List ℕ)) (old new : Reading) (gone bytes : List ℕ) : Type 0 where
  pub consumed : Consumes before after bytes
  pub ahead : gone ++ new.ahead ≡ old.ahead ++ bytes
  pub handed : new.handed ≡ old.handed + length gone
  pub limit : new.limit ≡ old.limit
