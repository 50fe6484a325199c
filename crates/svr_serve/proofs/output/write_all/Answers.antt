use Rattle.std.proofs.Common.{◌≡◌, ◌-◌, ◌++◌, List, ℕ, length, take, drop, ap, ◌∙◌, arith, append_assoc, take-append-drop}
use Rattle.std.proofs.lemmas.List.{take_rest}
use Rattle.std.proofs.KnownBytes.{Appends-trans}
use Rattle.svr_serve.proofs.output.write_all.Goals as goal

-- what was taken moves from the rest to the front
moves : (front rest piece : List ℕ) (n : ℕ) → front ++ rest ≡ piece
    → (front ++ take n rest) ++ take (length rest - n) (drop n rest) ≡ piece
moves front rest piece n h =
    ap (λ xs. (front ++ take n rest) ++ xs) (take_rest rest n) ∙ append_assoc front (take n rest) (drop n rest)
    ∙ ap (λ xs. front ++ xs) (take-append-drop n rest) ∙ h

pub loop-rest-preserved : goal.loop-rest-preserved
loop-rest-preserved g c =
    let inv = c.loop-rest.invariant.0 in
    let n = c.in_ok-count.count in (
      (
        inv.0 ++ take n c.loop-rest.rest.now,
        moves inv.0 c.loop-rest.rest.now c.args.piece.now n inv.1,
        Appends-trans _ _ _ inv.0 (take n c.loop-rest.rest.now) inv.2 c.in_ok-count.ensures.bytes,
      ),
      omega (arith, c.loop-rest.invariant.1, c.in_ok-count.ensures.cause.later),
    )
