-- What stands at a gate, whatever the bytes are.
use Rattle.std.specs.Prelude.{◌≡◌, ◌≤◌, ◌<◌, ◌+◌, ◌==◌, ◌&&◌, Bool, false, ℕ, nat_le, nat_lt, if◌then◌else◌}
use Rattle.std.specs.Prelude.{List, [], ◌∷◌, length, take, drop, Option, Some, None, Result, Ok, Err, ⊤}
use Rattle.std.specs.Int.{from_be_bytes, w32}
use Rattle.svr_journal.specs.declared.journal.Found.{Found}
use Rattle.svr_journal.specs.declared.journal.Found.TheVariants.{Shut, Broken, Record}
use Rattle.svr_journal.specs.declared.faults.JournalError.{JournalError}
use Rattle.svr_journal.specs.declared.faults.JournalError.TheVariants.{Device, NotAJournal, Memory}

pub data Gate : Type 0 where
  shut : Gate
  broken : Gate
  record_of : (body : List ℕ) → Gate

-- a body of so many bytes
abbrev pub body_of : ℕ → List ℕ → Gate
body_of count rest = if nat_le 1 count && nat_le count 16777216 && nat_le count (length rest) then record_of (take count rest) else broken

-- four bytes stand in front
abbrev pub has_word : List ℕ → Bool
has_word (a ∷ b ∷ c ∷ d ∷ rest) = nat_lt a 256 && nat_lt b 256 && nat_lt c 256 && nat_lt d 256
has_word _ = false

-- the length and the body behind an open gate
abbrev pub behind_gate : List ℕ → Gate
behind_gate rest = if has_word rest then body_of (from_be_bytes w32 (take 4 rest)) (drop 4 rest) else broken

-- what stands at the first of these bytes
abbrev pub gate_of : List ℕ → Gate
gate_of [] = broken
gate_of (gate ∷ rest) = if gate == 1 then behind_gate rest else shut

-- what `next` may answer at such a gate at that place, and the body that it gives
abbrev pub NextAnswers : Gate → ℕ → Result (Option ℕ) JournalError → List ℕ → Type 0
NextAnswers gate at (Err Device) body = ⊤
NextAnswers gate at (Err Memory) body = ⊤
NextAnswers gate at (Err (NotAJournal place)) body = (gate ≡ broken) × (place ≡ at)
NextAnswers shut at (Ok found) body = found ≡ None
NextAnswers broken at (Ok found) body = ⊥
NextAnswers (record_of b) at (Ok found) body = (found ≡ Some (at + 5)) × (body ≡ b)

-- what the look at a gate finds
abbrev pub found_of : Gate → Found
found_of shut = Shut
found_of broken = Broken
found_of (record_of body) = Record (length body)

-- a gate that was found lies inside the disk, and so does its record
abbrev pub FitsBehind : ℕ → ℕ → Found → Type 0
FitsBehind place size Shut = place < size
FitsBehind place size Broken = ⊤
FitsBehind place size (Record count) = place + 5 + count ≤ size

-- what stands at the gate of the first of these bodies, or of none
abbrev pub first_gate : List (List ℕ) → Gate
first_gate [] = shut
first_gate (body ∷ bodies) = record_of body
