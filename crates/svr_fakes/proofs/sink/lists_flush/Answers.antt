use Rattle.std.proofs.Common.{arith, ◌≡◌, ◌+◌, ◌^◌, ◌≤◌, ℕ, false, List, [], ◌∷◌, Fits, w64, get_or, sym, refl, suc}
use Rattle.std.specs.Prelude.{◌==◌}
use Rattle.std.specs.List.{list_any}
use Rattle.std.proofs.lemmas.Bool.{ne_eqb}
use Rattle.svr_fakes.proofs.sink.lists_flush.Goals as goal

-- no number of 64 bits is one past them
none_past : (xs : List ℕ) (n : ℕ) → ((i : ℕ) → Fits w64 (get_or xs i 0)) → 2 ^ 64 ≤ n →
    list_any (λ x. x == n) xs ≡ false
none_past [] n fit past = refl
none_past (x ∷ xs) n fit past =
    let below : Fits w64 x = fit 0 in
    rw (ne_eqb x n (λ same. omega (arith, below))) (none_past xs n (λ i. fit (suc i)) past)

pub returns-in-None : goal.returns-in-None
returns-in-None c =
    let past : 2 ^ 64 ≤ c.args.number + 2 ^ 32 = omega (arith, c.in-None.ensures) in
    sym (none_past c.args.fail.now _ c.type_inv.fail past)
