-- What was read of a disk ahead of its use.
use Rattle.std.specs.Prelude.{◌≡◌, ◌≤◌, ◌+◌, ◌-◌, ℕ, List, length, take, drop}
use Rattle.svr_edge.specs.Disk.{DiskView, Reads}

pub record Ahead : Type 0 where
  -- what stands from that place on
  pub at : ℕ
  pub bytes : List ℕ
  -- the body that was found last
  pub body : List ℕ

-- where the disk tells its bytes, these stand there
abbrev pub IsAhead : Ahead → DiskView → Type 0
IsAhead a disk = (bytes : List ℕ) → Reads disk bytes → a.bytes ≡ take (length a.bytes) (drop a.at bytes)

-- so many bytes from a place on are among them
pub record Covers (a : Ahead) (at count : ℕ) : Type 0 where
  pub from : a.at ≤ at
  pub to : at - a.at + count ≤ length a.bytes

-- these bytes
abbrev pub piece_of : Ahead → ℕ → ℕ → List ℕ
piece_of a at count = take count (drop (at - a.at) a.bytes)
