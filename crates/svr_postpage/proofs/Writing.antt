-- What a page is while its pairs are written.
use Rattle.std.proofs.Common.{◌≡◌, ℕ, ◌+◌, ◌-◌, ◌*◌, List, [], ◌∷◌, ◌++◌, length, take, drop, replicate, refl, sym, ap, ap₂, ◌∙◌, arith}
use Rattle.std.specs.Int.{to_be_bytes, w16}
use Rattle.std.specs.List.{flat_map, slice_range}
use Rattle.std.proofs.lemmas.List.{append_assoc, drop-drop, drop_at, drop-replicate, length-append, take_at}
use Rattle.std.proofs.lemmas.List.Concat.{flat_map-append}
use Rattle.std.proofs.lemmas.List.Edits.{split_between}
use lib.Seq.{take-add}
use Rattle.svr_postpage.specs.declared.pair.Pair.{Pair}
use Rattle.svr_postpage.specs.Pages.{page_bytes, pair_bytes}
use Rattle.svr_postpage.proofs.Spelling.{length-pairs}

-- a page of so many pairs of which these are written
abbrev pub written : ℕ → List Pair → List ℕ
written count pairs =
    to_be_bytes w16 count ++ (replicate 2 0 ++ (flat_map pair_bytes pairs ++ replicate (4092 - 16 * length pairs) 0))

-- two numbers are written behind one another
pub two_written : (at : ℕ) (old mid new k i : List ℕ) → slice_range mid at (at + 8) ≡ k → take at mid ≡ take at old
    → drop (at + 8) mid ≡ drop (at + 8) old → slice_range new (at + 8) (at + 8 + 8) ≡ i → take (at + 8) new ≡ take (at + 8) mid
    → drop (at + 8 + 8) new ≡ drop (at + 8 + 8) mid → new ≡ take at old ++ ((k ++ i) ++ drop (at + 16) old)
two_written at old mid new k i key before after id before2 after2 =
    let one : at + 8 - at ≡ 8 = omega arith in
    let two : at + 8 + 8 ≡ at + 16 = omega arith in
    let front : take (at + 8) mid ≡ take at old ++ k =
    take-add at 8 mid ∙ ap₂ (λ (a b : List ℕ). a ++ b) before (ap (λ m. take m (drop at mid)) (sym one) ∙ key) in
    let rest : drop (at + 8 + 8) mid ≡ drop (at + 16) old =
    sym (drop-drop 8 (at + 8) mid) ∙ ap (drop 8) after ∙ drop-drop 8 (at + 8) old ∙ ap (λ m. drop m old) two in
    split_between new (at + 8) (at + 8 + 8) (omega arith)
    ∙ ap₂ (λ (a b : List ℕ). a ++ b) (before2 ∙ front) (ap₂ (λ (a b : List ℕ). a ++ b) id (after2 ∙ rest))
    ∙ append_assoc (take at old) k (i ++ drop (at + 16) old)
    ∙ ap (λ (l : List ℕ). take at old ++ l) (sym (append_assoc k i (drop (at + 16) old)))

-- over the zeros behind what is written
more_in_front : (front more : List ℕ) (k n : ℕ) → length front ≡ k
    → take k (front ++ replicate n 0) ++ (more ++ drop (k + 16) (front ++ replicate n 0)) ≡ (front ++ more) ++ replicate (n - 16) 0
more_in_front front more k n long =
    let rest : drop (k + 16) (front ++ replicate n 0) ≡ replicate (n - 16) 0 =
    sym (drop-drop 16 k (front ++ replicate n 0))
    ∙ ap (drop 16) (drop_at front (replicate n 0) k long)
    ∙ drop-replicate 16 n 0 in
    ap₂ (λ (a b : List ℕ). a ++ (more ++ b)) (take_at front (replicate n 0) k long) rest
    ∙ sym (append_assoc front more (replicate (n - 16) 0))

-- one pair more is written
pub written-more : (count i : ℕ) (pairs : List Pair) (p : Pair) → length pairs ≡ i
    → take (4 + 16 * i) (written count pairs) ++ (pair_bytes p ++ drop (4 + 16 * i + 16) (written count pairs)) ≡ written count (pairs ++ p ∷ [])
written-more count i pairs p long =
    let n = 4092 - 16 * length pairs in
    let front = flat_map pair_bytes pairs in
    let fewer : 4092 - 16 * length pairs - 16 ≡ 4092 - 16 * length (pairs ++ p ∷ []) = omega (arith, length-append pairs (p ∷ [])) in
    let body : take (16 * i) (front ++ replicate n 0) ++ (pair_bytes p ++ drop (16 * i + 16) (front ++ replicate n 0))
    ≡ flat_map pair_bytes (pairs ++ p ∷ []) ++ replicate (4092 - 16 * length (pairs ++ p ∷ [])) 0 =
    more_in_front front (pair_bytes p) (16 * i) n (length-pairs pairs ∙ ap (λ m. 16 * m) long)
    ∙ ap₂ (λ (a : List ℕ) (m : ℕ). a ++ replicate m 0) (sym (flat_map-append pair_bytes pairs (p ∷ []))) fewer in
    let further : 4 + 16 * i + 16 ≡ 4 + (16 * i + 16) = omega arith in
    let behind : drop (4 + 16 * i + 16) (written count pairs) ≡ drop (16 * i + 16) (drop 4 (written count pairs)) =
    ap (λ m. drop m (written count pairs)) further ∙ sym (drop-drop (16 * i + 16) 4 (written count pairs)) in
    ap₂ (λ (a b : List ℕ). a ++ (pair_bytes p ++ b)) (take-add 4 (16 * i) (written count pairs)) behind
    ∙ ap (λ (l : List ℕ). to_be_bytes w16 count ++ (replicate 2 0 ++ l)) body

-- the number is written over zeros
pub written-none : (count : ℕ) (new : List ℕ) → slice_range new 0 2 ≡ to_be_bytes w16 count → drop 2 new ≡ drop 2 (replicate 4096 0)
    → new ≡ written count []
written-none count new number after =
    split_between new 0 2 (omega arith) ∙ ap₂ (λ (a b : List ℕ). a ++ b) number (after ∙ drop-replicate 2 4096 0)

-- all pairs are written
pub written-all : (pairs : List Pair) → written (length pairs) pairs ≡ page_bytes pairs
unfolding page_bytes
written-all pairs = refl
