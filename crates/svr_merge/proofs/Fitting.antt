-- The key of a score is below 2^48.
use Rattle.std.proofs.Common.{◌≡◌, ℕ, ◌+◌, ◌-◌, ◌<◌, ◌≤◌, Bool, true, false, cond, List, [], ◌∷◌, refl, arith, nat_le}
use Rattle.std.proofs.Math.Logic.{∥∥₁_elim}
use Rattle.std.proofs.Props.{props}
use Rattle.std.specs.List.{AllByRecursion, count_by}
use Rattle.std.proofs.lemmas.Bool.Decides.{nat_tests}
use Rattle.std.proofs.lemmas.List.Sums.{sum_by-cons}
use Rattle.svr_chunks.specs.Chosen.{chosen_rules}
use Rattle.svr_chunks.specs.declared.chosen.Chosen.{Chosen}
use Rattle.svr_chunks.specs.declared.chosen.Chosen.TheVariants as chosen
use Rattle.svr_listing.specs.Bounds.{AreBounds, Rises}
use Rattle.svr_listing.proofs.Finding.{weaker}
use Rattle.svr_listing.specs.Methods.{chunk_of, greatest}

-- rising numbers from k on: so many of them are at most s
few : (s k : ℕ) (ns : List ℕ) → AllByRecursion (λ n. k ≤ n) ns → Rises ns → count_by (λ n. nat_le n s) ns ≤ s + 1 - k
few s k [] low up = omega arith
few s k (n ∷ ns) low up =
    let more : count_by (λ n. nat_le n s) ns ≤ s + 1 - (n + 1) = few s (n + 1) ns (weaker (λ m. n < m) (λ m. n + 1 ≤ m) ns (λ m h. omega (arith, h)) up.0) up.1 in
    let here : k ≤ n = low.0 in
    by (nat_le n s) refl more here
  where
    by : (b : Bool) → nat_le n s ≡ b → count_by (λ m. nat_le m s) ns ≤ s + 1 - (n + 1) → k ≤ n
        → count_by (λ m. nat_le m s) (n ∷ ns) ≤ s + 1 - k
    by true e more here =
        let at : n ≤ s = grind (arith, nat_tests) in
        let one : ◌≡◌ {A = ℕ} (cond (nat_le n s) 1 0) 1 = rw e refl in
        omega (arith, sum_by-cons (λ m. cond (nat_le m s) 1 0) n ns, one, at, more, here)
    by false e more here =
        let off : s < n = grind (arith, nat_tests) in
        let none : ◌≡◌ {A = ℕ} (cond (nat_le n s) 1 0) 0 = rw e refl in
        omega (arith, sum_by-cons (λ m. cond (nat_le m s) 1 0) n ns, none, off, more, here)

from_zero : (ns : List ℕ) → AllByRecursion (λ n. 0 ≤ n) ns
from_zero [] = tt
from_zero (n ∷ ns) = (omega arith, from_zero ns)

chunk_fits : (bounds : List ℕ) (score : ℕ) → score ≤ greatest → AreBounds bounds → chunk_of bounds score ≤ greatest
chunk_fits bounds score low are = omega (arith, few score 0 bounds (from_zero bounds) are.rise, low)

pub key_fits : (m : Chosen) (score : ℕ) → score ≤ greatest → (chosen_rules m).key score ≤ greatest
key_fits (chosen.Id _) score low = omega arith
key_fits (chosen.Score _) score low = low
key_fits (chosen.Threshold m) score low = low
key_fits (chosen.Chunk m) score low = ∥∥₁_elim m.are (hlevel props) (chunk_fits m.bounds score low)
