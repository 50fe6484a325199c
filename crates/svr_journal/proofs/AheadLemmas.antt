-- Bytes that were read ahead.
use Rattle.std.proofs.Common.{◌≡◌, ◌≤◌, ◌+◌, ◌-◌, ℕ, List, length, take, drop, ap, ◌∙◌, arith}
use Rattle.std.proofs.lemmas.List.{drop-drop, drop-take, take-take}
use Rattle.svr_edge.specs.Disk.{DiskView, Reads}
use Rattle.svr_journal.specs.Ahead.{Ahead, Covers, IsAhead, piece_of}

-- a part of the first ones
part : (xs : List ℕ) (from count all : ℕ) → from + count ≤ all → take count (drop from (take all xs)) ≡ take count (drop from xs)
part xs from count all le =
    let more = all - from in
    let split : all ≡ from + more = omega (arith, le) in
    ap (λ (n : ℕ). take count (drop from (take n xs))) split
    ∙ ap (λ (ys : List ℕ). take count ys) (drop-take from more xs)
    ∙ take-take count more (drop from xs) (omega (arith, le))

-- they stand on the disk
pub piece_stands : (a : Ahead) (disk : DiskView) (bytes : List ℕ) (at count : ℕ) → IsAhead a disk → Reads disk bytes → Covers a at count
    → piece_of a at count ≡ take count (drop at bytes)
piece_stands a disk bytes at count ahead reads covers =
    let from = at - a.at in
    let split : a.at + from ≡ at = omega (arith, covers.from) in
    ap (λ (xs : List ℕ). take count (drop from xs)) (ahead bytes reads)
    ∙ part (drop a.at bytes) from count (length a.bytes) covers.to
    ∙ ap (λ (xs : List ℕ). take count xs) (drop-drop from a.at bytes)
    ∙ ap (λ (n : ℕ). take count (drop n bytes)) split
