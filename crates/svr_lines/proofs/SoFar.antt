-- What holds between two steps of a reader of lines.
use Rattle.std.specs.Prelude.{◌≡◌, ℕ, ◌+◌, ◌<◌, ◌≤◌, Bool, false, List, [], ◌++◌, length, if◌then◌else◌, Option}
use Rattle.svr_lines.specs.Layout.Feeds.{NoFeed}
use Rattle.svr_lines.specs.Lines.{IsUnbroken, IsWholeLines, pieces_of}
use Rattle.svr_lines.specs.Reading.{Reading, Reads}

-- a search for a line feed found none in front of a place
pub record Searches (before after : Option (List ℕ)) (old new : Reading) (clean : ℕ) (bytes : List ℕ) : Type 0 where
  pub reads : Reads before after old new [] bytes
  pub within : clean ≤ length new.ahead
  pub none : NoFeed new.ahead 0 clean
  pub open_end : new.ended ≡ false

-- a line goes on: what was read has no line feed, and some of it is ahead
pub record GoesOn (before after : Option (List ℕ)) (old new : Reading) (gone bytes : List ℕ) : Type 0 where
  pub reads : Reads before after old new gone bytes
  pub unbroken : IsUnbroken (old.ahead ++ bytes)
  pub some : 0 < length new.ahead
  pub open_end : new.ended ≡ false

-- gone are lines that are passed over, which are whole as long as the end of the input isn't seen
pub record SkipsLines (before after : Option (List ℕ)) (old new : Reading) (gone bytes : List ℕ) : Type 0 where
  pub reads : Reads before after old new gone bytes
  pub none : pieces_of gone ≡ []
  pub whole : new.ended ≡ false → IsWholeLines gone

-- gone is the beginning of a block of which so many bytes are missing, and where the block is kept these are its bytes so far
pub record TakesPart (before after : Option (List ℕ)) (old new : Reading) (size missing : ℕ) (kept : Bool)
    (gone bytes : List ℕ) : Type 0 where
  pub reads : Reads before after old new gone bytes
  pub count : length gone + missing ≡ size
  pub block : new.block ≡ (if kept then gone else [])
