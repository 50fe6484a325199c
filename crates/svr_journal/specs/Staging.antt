-- A record that stands whole behind a closed gate.
use Rattle.std.specs.Prelude.{◌≡◌, ◌≢◌, ℕ, List, ◌∷◌, ◌++◌}
use Rattle.std.specs.List.{AllByRecursion}
use Rattle.svr_edge.specs.Disk.{DiskView, IsSettled, Reads}
use Rattle.svr_journal.specs.File.{IsBody, end_of, front}
use Rattle.svr_journal.specs.Keeping.{framed}

-- the bytes are the magic and the open records of these bodies, then a closed gate, then the rest of one record more
pub record Staged (bodies : List (List ℕ)) (body : List ℕ) (bytes : List ℕ) : Type 0 where
  pub gate : ℕ
  pub more : List ℕ
  pub spelled : bytes ≡ front bodies ++ gate ∷ (framed body ++ more)
  pub closed : gate ≢ 1
  pub sizes : AllByRecursion IsBody bodies
  pub size : IsBody body

-- the disk tells such bytes, with the closed gate at that place, and a crash leaves no others
pub record IsStaged (disk : DiskView) (end : ℕ) (bodies : List (List ℕ)) (body : List ℕ) : Type 0 where
  pub bytes : List ℕ
  pub reads : Reads disk bytes
  pub staged : Staged bodies body bytes
  pub at_end : end ≡ end_of bodies
  pub settled : IsSettled disk
