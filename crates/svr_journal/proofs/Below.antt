-- What a write leaves of the bytes in front of it.
use Rattle.std.proofs.Common.{◌≡◌, ◌≤◌, ◌+◌, ℕ, min, List, ◌++◌, length, take, drop, Option, None, Some, refl, ap, ◌∙◌, arith}
use Rattle.std.specs.Option.{option_map}
use Rattle.std.proofs.lemmas.List.{length-take, take-append-le, take-take}
use Rattle.svr_edge.specs.Disk.{DiskView, IsDisk, Writes, overwritten}
use Rattle.svr_journal.specs.Keeping.{SameBelow}

-- a write behind a place changes nothing below it
written-below : (reach at : ℕ) (bytes piece : List ℕ) → reach ≤ at → reach ≤ length bytes
    → take reach (overwritten bytes at piece) ≡ take reach bytes
written-below reach at bytes piece behind long =
    let front : length (take at bytes) ≡ min at (length bytes) = length-take at bytes in
    take-append-le reach (take at bytes) (piece ++ drop (at + length piece) bytes) (omega (arith, front)) ∙ take-take reach at bytes behind

written-told : (reach at : ℕ) (o : Option (List ℕ)) (piece : List ℕ) → reach ≤ at → ((bytes : List ℕ) → o ≡ Some bytes → reach ≤ length bytes)
    → option_map (take reach) (option_map (λ bytes. overwritten bytes at piece) o) ≡ option_map (take reach) o
written-told reach at None piece behind long = refl
written-told reach at (Some bytes) piece behind long =
    ap (λ (l : List ℕ). Some l) (written-below reach at bytes piece behind (long bytes refl))

pub below-written : (reach at : ℕ) (old new : DiskView) (piece : List ℕ) → IsDisk old → reach ≤ old.size → reach ≤ at → Writes old new at piece
    → SameBelow reach old new
below-written reach at old new piece is within behind writes =
    ap (option_map (take reach)) writes.content
    ∙ written-told reach at old.content piece behind (λ bytes told. omega (arith, is.sized bytes told))
