-- The way through ascending scores: what stands before and after a place.
use Rattle.std.proofs.Common.{◌≡◌, ℕ, zero, suc, ◌+◌, ◌-◌, ◌*◌, ◌<◌, ◌≤◌, Bool, true, false, ◌&&◌, cond, List, [], ◌∷◌, length, take, drop}
use Rattle.std.proofs.Common.{ap, subst, sym, arith, max, nat_le, nat_lt, get_or}
use Rattle.std.specs.List.{AllByRecursion, count_by}
use Rattle.std.specs.List.Sorted.{IsNonDecreasing}
use Rattle.std.proofs.lemmas.Bool.Decides.{nat_tests}
use Rattle.std.proofs.lemmas.List.Sums.{sum_by-cons}
use Rattle.svr_listing.specs.Bounds.{may_follow}
use Rattle.svr_chunks.specs.Layout.{NoneFollows, Splits, is_new}

-- each score is at most those after it
abbrev pub Ascends : List ℕ → Type 0
Ascends [] = Unit {0}
Ascends (x ∷ xs) = AllByRecursion (λ y. x ≤ y) xs × Ascends xs

each_above : (x : ℕ) (xs : List ℕ) → ((j : ℕ) → j < length xs → x ≤ get_or xs j 0) → AllByRecursion (λ y. x ≤ y) xs
each_above x [] up = tt
each_above x (y ∷ ys) up = (up 0 (omega arith), each_above x ys (λ j lt. up (suc j) (omega arith)))

pub ascends : (xs : List ℕ) → IsNonDecreasing xs → Ascends xs
ascends [] up = tt
ascends (x ∷ xs) up =
    let first = each_above x xs (λ j lt. up 0 (suc j) 0 (omega arith) (omega arith)) in
    (first, ascends xs (λ i j d le lt. up (suc i) (suc j) d (omega arith) (omega arith)))

at_of_all : (x : ℕ) (xs : List ℕ) (at : ℕ) → AllByRecursion (λ y. x ≤ y) xs → at < length xs → x ≤ get_or xs at 0
at_of_all x [] at all lt = absurd (omega arith)
at_of_all x (y ∷ ys) zero all lt = all.0
at_of_all x (y ∷ ys) (suc at) all lt = at_of_all x ys at all.1 (omega arith)

-- the scores before a place are at most the one there
pub before_at : (xs : List ℕ) (at : ℕ) → Ascends xs → at < length xs → AllByRecursion (λ x. x ≤ get_or xs at 0) (take at xs)
before_at [] at up lt = absurd (omega arith)
before_at (x ∷ xs) zero up lt = tt
before_at (x ∷ xs) (suc at) up lt = (at_of_all x xs at up.0 (omega arith), before_at xs at up.1 (omega arith))

-- those from it on are at least that
pub from_at : (xs : List ℕ) (at : ℕ) → Ascends xs → at < length xs → AllByRecursion (λ x. get_or xs at 0 ≤ x) (drop at xs)
from_at [] at up lt = absurd (omega arith)
from_at (x ∷ xs) zero up lt = (omega arith, up.0)
from_at (x ∷ xs) (suc at) up lt = from_at xs at up.1 (omega arith)

below_first : (n : ℕ) (xs : List ℕ) → AllByRecursion (λ x. x ≤ n) xs → (m : ℕ) → n < m → AllByRecursion (λ x. x < m) xs
below_first n [] all m lt = tt
below_first n (x ∷ xs) all m lt = (omega (arith, all.0), below_first n xs all.1 m lt)

-- those before a new score are below it
pub below_new : (xs : List ℕ) (at : ℕ) → Ascends xs → at < length xs → is_new xs at ≡ true
    → AllByRecursion (λ x. x < get_or xs at 0) (take at xs)
below_new [] at up lt new = absurd (omega arith)
below_new (x ∷ xs) zero up lt new = tt
below_new (x ∷ y ∷ ys) (suc zero) up lt new = (grind (arith, nat_tests), tt)
below_new (x ∷ []) (suc at) up lt new = absurd (omega arith)
below_new (x ∷ y ∷ ys) (suc (suc at)) up lt new =
    let rest = below_new (y ∷ ys) (suc at) up.1 (omega arith) new in
    (omega (arith, rest.0, up.0.0), rest)

-- ---- how many scores are at least one number and less than another

abbrev between : ℕ → ℕ → ℕ → Bool
between low high score = nat_le low score && nat_lt score high

between-below : (low high score : ℕ) → score < low → ◌≡◌ {A = ℕ} (cond (between low high score) 1 0) 0
between-below low high score lt = grind (arith, nat_tests)

between-above : (low high score : ℕ) → high ≤ score → ◌≡◌ {A = ℕ} (cond (between low high score) 1 0) 0
between-above low high score le = grind (arith, nat_tests)

between-is : (low high score : ℕ) → low ≤ score → score < high → ◌≡◌ {A = ℕ} (cond (between low high score) 1 0) 1
between-is low high score le lt = grind (arith, nat_tests)

pub count-between : (low high : ℕ) (xs : List ℕ) (from at : ℕ) → Splits low xs from → Splits high xs at → from ≤ at → at ≤ length xs
    → count_by (between low high) xs + from ≡ at
count-between low high [] from at first second le fits = omega arith
count-between low high (x ∷ xs) zero zero first second le fits =
    let rest = count-between low high xs zero zero (record { below = tt; above = first.above.1 }) (record { below = tt; above = second.above.1 })
    (omega arith) (omega arith) in
    omega (arith, rest, sum_by-cons (λ s. cond (between low high s) 1 0) x xs, between-above low high x second.above.0)
count-between low high (x ∷ xs) zero (suc at) first second le fits =
    let rest = count-between low high xs zero at (record { below = tt; above = first.above.1 })
    (record { below = second.below.1; above = second.above }) (omega arith) (omega arith) in
    omega (arith, rest, sum_by-cons (λ s. cond (between low high s) 1 0) x xs, between-is low high x first.above.0 second.below.0)
count-between low high (x ∷ xs) (suc from) zero first second le fits = absurd (omega arith)
count-between low high (x ∷ xs) (suc from) (suc at) first second le fits =
    let rest = count-between low high xs from at (record { below = first.below.1; above = first.above })
    (record { below = second.below.1; above = second.above }) (omega arith) (omega arith) in
    omega (arith, rest, sum_by-cons (λ s. cond (between low high s) 1 0) x xs, between-below low high x first.below.0)

-- ---- whether the score at a place may come after a bound

-- of a new score it is told by places
pub may_follow-new : (scores : List ℕ) (ratio min_docs bound from at : ℕ) → Ascends scores → at < length scores → from ≤ at
    → Splits bound scores from → is_new scores at ≡ true
    → (nat_lt bound (get_or scores at 0) && nat_le (max bound 1 * ratio) (get_or scores at 0 * 100)) ≡ true
    → nat_le min_docs (at - from) ≡ may_follow scores ratio min_docs bound (get_or scores at 0)
may_follow-new scores ratio min_docs bound from at up lt le splits new high =
    let score = get_or scores at 0 in
    let there : Splits score scores at = record { below = below_new scores at up lt new; above = from_at scores at up lt } in
    let count : count_by (between bound score) scores + from ≡ at = count-between bound score scores from at splits there le (omega arith) in
    by (nat_lt bound score) (nat_le (max bound 1 * ratio) (score * 100)) (count_by (between bound score) scores) high (omega arith)
  where
    by : (a b : Bool) (n : ℕ) → (a && b) ≡ true → n ≡ at - from → nat_le min_docs (at - from) ≡ (a && (b && nat_le min_docs n))
    by false b n e same = absurd (cc)
    by true false n e same = absurd (cc)
    by true true n e same = ap (nat_le min_docs) (sym same)

-- the score before an old one is the same
before_old : (xs : List ℕ) (at : ℕ) → Ascends xs → at < length xs → is_new xs at ≡ false → (P : ℕ → Type 0) → AllByRecursion P (take at xs)
    → P (get_or xs at 0)
before_old [] at up lt old P all = absurd (omega arith)
before_old (x ∷ xs) zero up lt old P all = absurd (cc)
before_old (x ∷ []) (suc at) up lt old P all = absurd (omega arith)
before_old (x ∷ y ∷ ys) (suc zero) up lt old P all =
    let same : x ≡ y = grind (arith, nat_tests, up.0.0) in subst P same all.0
before_old (x ∷ y ∷ ys) (suc (suc at)) up lt old P all = before_old (y ∷ ys) (suc at) up.1 (omega arith) old P all.1

pub may_follow-old : (scores : List ℕ) (ratio min_docs bound at : ℕ) → Ascends scores → at < length scores → is_new scores at ≡ false
    → NoneFollows scores ratio min_docs bound at → may_follow scores ratio min_docs bound (get_or scores at 0) ≡ false
may_follow-old scores ratio min_docs bound at up lt old none =
    before_old scores at up lt old (λ score. may_follow scores ratio min_docs bound score ≡ false) none
