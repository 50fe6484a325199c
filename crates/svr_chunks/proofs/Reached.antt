-- How many bounds a score reaches.
use Rattle.std.proofs.Common.{◌≡◌, ℕ, zero, suc, ◌-◌, ◌<◌, ◌≤◌, Bool, true, false, cond, List, [], ◌∷◌, length, ap, sym, subst, arith, get_or, nat_le}
use Rattle.std.specs.List.{AllByRecursion, count_by}
use Rattle.std.specs.List.Sorted.{IsNonDecreasing, IsPartitionedBy, IsPartitionPoint}
use Rattle.std.proofs.lemmas.List.Sums.{sum_by-cons}
use Rattle.std.proofs.lemmas.List.Sorted.{IsPartitionedBy-leb}
use Rattle.svr_listing.specs.Bounds.{AreBounds, Rises}
use Rattle.svr_listing.specs.Methods.{chunk_of}

all_at : (x : ℕ) (xs : List ℕ) (j d : ℕ) → AllByRecursion (λ later. x < later) xs → j < length xs → x < get_or xs j d
all_at x [] j d all lt = absurd (omega arith)
all_at x (y ∷ ys) zero d all lt = all.0
all_at x (y ∷ ys) (suc j) d all lt = all_at x ys j d all.1 (omega arith)

-- numbers that rise don't fall
pub non_decreasing : (xs : List ℕ) → Rises xs → IsNonDecreasing xs
non_decreasing [] up i j d le lt = absurd (omega arith)
non_decreasing (x ∷ xs) up zero zero d le lt = omega arith
non_decreasing (x ∷ xs) up zero (suc j) d le lt = omega (arith, all_at x xs j d up.0 (omega arith))
non_decreasing (x ∷ xs) up (suc i) zero d le lt = absurd (omega arith)
non_decreasing (x ∷ xs) up (suc i) (suc j) d le lt = non_decreasing xs up.1 i j d (omega arith) (omega arith)

-- those that pass a test are those in front of a place
pub count-parted : (p : ℕ → Bool) (xs : List ℕ) (i : ℕ) → i ≤ length xs → IsPartitionPoint (λ y. p y ≡ true) (λ y. p y ≡ false) xs i
    → count_by p xs ≡ i
count-parted p [] i le parted = omega arith
count-parted p (x ∷ xs) zero le parted =
    let no : ◌≡◌ {A = ℕ} (cond (p x) 1 0) 0 = ap (λ b. cond b 1 0) (parted.1 0 0 (omega arith) (omega arith)) in
    let rest = count-parted p xs zero (omega arith)
    ((λ k d low high. absurd (omega arith)), (λ k d low high. parted.1 (suc k) d (omega arith) (omega arith))) in
    omega (arith, rest, no, sum_by-cons (λ y. cond (p y) 1 0) x xs)
count-parted p (x ∷ xs) (suc i) le parted =
    let yes : ◌≡◌ {A = ℕ} (cond (p x) 1 0) 1 = ap (λ b. cond b 1 0) (parted.0 0 0 (omega arith) (omega arith)) in
    let rest = count-parted p xs i (omega arith)
    ((λ k d low high. parted.0 (suc k) d (omega arith) (omega arith)), (λ k d low high. parted.1 (suc k) d (omega arith) (omega arith))) in
    omega (arith, rest, yes, sum_by-cons (λ y. cond (p y) 1 0) x xs)

-- what a search among bounds tells
abbrev pub Found : ℕ → List ℕ → ℕ → Type 0
Found score bounds i = IsPartitionedBy (λ y. nat_le y score) bounds
    → IsPartitionPoint (λ y. nat_le y score ≡ true) (λ y. nat_le y score ≡ false) bounds i

pub chunk_of-found : (score : ℕ) (bounds seen : List ℕ) (i : ℕ) → AreBounds bounds → seen ≡ bounds → i ≤ length seen → Found score seen i
    → i - 1 ≡ chunk_of bounds score
chunk_of-found score bounds seen i are same le found =
    let at : Found score bounds i = subst (λ (l : List ℕ). Found score l i) same found in
    let count = count-parted (λ y. nat_le y score) bounds i (subst (λ (l : List ℕ). i ≤ length l) same le)
    (at (IsPartitionedBy-leb (λ x. x) bounds score (non_decreasing bounds are.rise))) in
    ap (λ n. n - 1) (sym count)
