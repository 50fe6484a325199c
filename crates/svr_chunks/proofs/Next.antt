-- The bounds that were found so far, and those that are left.
use Rattle.std.proofs.Common.{◌≡◌, ℕ, zero, suc, ◌+◌, ◌-◌, ◌<◌, ◌≤◌, Bool, true, false, cond, List, [], ◌∷◌, ◌++◌, length, take, drop}
use Rattle.std.proofs.Common.{Option, Some, None, refl, ap, sym, ◌∙◌, subst, arith, get_or, nat_lt, inl, inr, ◌⊎◌}
use Rattle.std.specs.List.{All, AllByRecursion, filter}
use Rattle.std.proofs.lemmas.Bool.{cases_lt}
use Rattle.std.proofs.lemmas.Bool.Decides.{nat_tests}
use Rattle.std.proofs.lemmas.List.{append_assoc, append-nil}
use Rattle.svr_listing.specs.Bounds.{bounds_after, bounds_of, least_of, least_with, may_follow, next_bound, then_more}
use Rattle.svr_chunks.specs.Layout.{NoneFollows, Splits}
use Rattle.svr_chunks.proofs.Places.{Ascends, before_at, from_at}

-- ---- the least of those that pass a test

filter-true : (p : ℕ → Bool) (x : ℕ) (xs : List ℕ) → p x ≡ true → filter p (x ∷ xs) ≡ x ∷ filter p xs
filter-true p x xs e = ap (λ b. cond b (x ∷ filter p xs) (filter p xs)) e

filter-false : (p : ℕ → Bool) (x : ℕ) (xs : List ℕ) → p x ≡ false → filter p (x ∷ xs) ≡ filter p xs
filter-false p x xs e = ap (λ b. cond b (x ∷ filter p xs) (filter p xs)) e

least-of_all : (n : ℕ) (p : ℕ → Bool) (xs : List ℕ) → AllByRecursion (λ x. n ≤ x) xs → least_with n (least_of (filter p xs)) ≡ n
least-of_all n p [] all = refl
least-of_all n p (x ∷ xs) all = by (p x) refl (least-of_all n p xs all.1)
  where
    least : (o : Option ℕ) → least_with n o ≡ n → least_with n (Some (least_with x o)) ≡ n
    least None e = omega (arith, all.0)
    least (Some m) e = omega (arith, all.0, e)

    by : (b : Bool) → p x ≡ b → least_with n (least_of (filter p xs)) ≡ n → least_with n (least_of (filter p (x ∷ xs))) ≡ n
    by true e rest = ap (λ l. least_with n (least_of l)) (filter-true p x xs e) ∙ least (least_of (filter p xs)) rest
    by false e rest = ap (λ l. least_with n (least_of l)) (filter-false p x xs e) ∙ rest

-- the first of ascending numbers that passes
pub least-is_first : (p : ℕ → Bool) (xs : List ℕ) (at : ℕ) → at < length xs → AllByRecursion (λ x. p x ≡ false) (take at xs)
    → p (get_or xs at 0) ≡ true → AllByRecursion (λ x. get_or xs at 0 ≤ x) (drop at xs) → least_of (filter p xs) ≡ Some (get_or xs at 0)
least-is_first p [] at lt none e up = absurd (omega arith)
least-is_first p (x ∷ xs) zero lt none e up =
    ap least_of (filter-true p x xs e) ∙ ap Some (least-of_all x p xs up.1)
least-is_first p (x ∷ xs) (suc at) lt none e up =
    ap least_of (filter-false p x xs none.0) ∙ least-is_first p xs at (omega arith) none.1 e up

filter-none : (p : ℕ → Bool) (xs : List ℕ) (n : ℕ) → length xs ≤ n → AllByRecursion (λ x. p x ≡ false) (take n xs) → filter p xs ≡ []
filter-none p [] n le none = refl
filter-none p (x ∷ xs) zero le none = absurd (omega arith)
filter-none p (x ∷ xs) (suc n) le none = filter-false p x xs none.0 ∙ filter-none p xs n (omega arith) none.1

-- ---- the bounds so far

pub record SoFar (scores : List ℕ) (ratio min_docs : ℕ) (found : List ℕ) (count bound from at : ℕ) : Type 0 where
  pub some : 1 ≤ count
  pub few : count ≤ 64
  pub is : bounds_of scores ratio min_docs ≡ found ++ bounds_after scores ratio min_docs (64 - count) bound
  pub splits : Splits bound scores from
  pub none : NoneFollows scores ratio min_docs bound at
  pub before : from ≤ at

-- what holds at each place holds of each
pub by_recursion : (P : ℕ → Type 0) (xs : List ℕ) → All P xs → AllByRecursion P xs
by_recursion P [] all = tt
by_recursion P (x ∷ xs) all = (all 0 0 (omega arith), by_recursion P xs (λ i d lt. all (suc i) d (omega arith)))

from_zero : (xs : List ℕ) → AllByRecursion (λ x. 0 ≤ x) xs
from_zero [] = tt
from_zero (x ∷ xs) = (omega arith, from_zero xs)

pub SoFar-one : (scores : List ℕ) (ratio min_docs : ℕ) (found : List ℕ) → found ≡ 0 ∷ [] → SoFar scores ratio min_docs found 1 0 0 0
SoFar-one scores ratio min_docs found e = record {
  some = omega arith;
  few = omega arith;
  is = ap (λ (l : List ℕ). l ++ bounds_after scores ratio min_docs 63 0) (sym e);
  splits = record { below = tt; above = from_zero scores };
  none = tt;
  before = omega arith;
}

none-more : (P : ℕ → Type 0) (xs : List ℕ) (at next : ℕ) → next ≡ suc at → at < length xs → AllByRecursion P (take at xs)
    → P (get_or xs at 0) → AllByRecursion P (take next xs)
none-more P xs at zero e lt all one = absurd (omega arith)
none-more P [] at (suc next) e lt all one = absurd (omega arith)
none-more P (x ∷ xs) zero (suc zero) e lt all one = (one, tt)
none-more P (x ∷ xs) zero (suc (suc next)) e lt all one = absurd (omega arith)
none-more P (x ∷ xs) (suc at) (suc next) e lt all one = (all.0, none-more P xs at next (omega arith) (omega arith) all.1 one)

-- a score that may not come next
pub SoFar-passed : (scores : List ℕ) (ratio min_docs : ℕ) (found : List ℕ) (count bound from at : ℕ) → at < length scores
    → may_follow scores ratio min_docs bound (get_or scores at 0) ≡ false → SoFar scores ratio min_docs found count bound from at
    → SoFar scores ratio min_docs found count bound from (at + 1)
SoFar-passed scores ratio min_docs found count bound from at lt e so_far = record {
  some = so_far.some;
  few = so_far.few;
  is = so_far.is;
  splits = so_far.splits;
  none = none-more (λ score. may_follow scores ratio min_docs bound score ≡ false) scores at (at + 1) (omega arith) lt so_far.none e;
  before = omega (arith, so_far.before);
}

-- those before the first that may come next are below it
below-next : (p : ℕ → Bool) (n : ℕ) (xs : List ℕ) → p n ≡ true → AllByRecursion (λ x. p x ≡ false) xs → AllByRecursion (λ x. x ≤ n) xs
    → AllByRecursion (λ x. x < n) xs
below-next p n [] e none up = tt
below-next p n (x ∷ xs) e none up = (by (cases_lt x n), below-next p n xs e none.1 up.1)
  where
    by : (x < n) ⊎ (n ≤ x) → x < n
    by (inl lt) = lt
    by (inr ge) =
        let same : x ≡ n = omega (arith, up.0) in
        let no : p n ≡ false = subst (λ m. p m ≡ false) same none.0 in absurd (cc)

no-lower : (scores : List ℕ) (ratio min_docs n : ℕ) (xs : List ℕ) → AllByRecursion (λ x. x ≤ n) xs
    → AllByRecursion (λ score. may_follow scores ratio min_docs n score ≡ false) xs
no-lower scores ratio min_docs n [] up = tt
no-lower scores ratio min_docs n (x ∷ xs) up = (by (nat_lt n x) refl, no-lower scores ratio min_docs n xs up.1)
  where
    by : (b : Bool) → nat_lt n x ≡ b → may_follow scores ratio min_docs n x ≡ false
    by true e = absurd (grind (arith, nat_tests, up.0))
    by false e = rw e refl

after-next : (scores : List ℕ) (ratio min_docs limit more bound n : ℕ) → limit ≡ suc more → next_bound scores ratio min_docs bound ≡ Some n
    → bounds_after scores ratio min_docs limit bound ≡ n ∷ bounds_after scores ratio min_docs more n
unfolding bounds_after
after-next scores ratio min_docs limit more bound n e next =
    ap (λ l. bounds_after scores ratio min_docs l bound) e ∙ ap (then_more (bounds_after scores ratio min_docs more)) next

-- a score that comes next
pub SoFar-found : (scores : List ℕ) (ratio min_docs : ℕ) (found more : List ℕ) (count bound from at : ℕ) → Ascends scores
    → at < length scores → count < 64 → may_follow scores ratio min_docs bound (get_or scores at 0) ≡ true
    → more ≡ found ++ get_or scores at 0 ∷ [] → SoFar scores ratio min_docs found count bound from at
    → SoFar scores ratio min_docs more (count + 1) (get_or scores at 0) at (at + 1)
SoFar-found scores ratio min_docs found more count bound from at up lt room e added so_far =
    let p = may_follow scores ratio min_docs bound in
    let n = get_or scores at 0 in
    let lower = before_at scores at up lt in
    let next : next_bound scores ratio min_docs bound ≡ Some n =
    least-is_first p scores at lt so_far.none e (from_at scores at up lt) in
    let left = after-next scores ratio min_docs (64 - count) (64 - (count + 1)) bound n (omega arith) next in
    record {
      some = omega arith;
      few = omega arith;
      is = so_far.is ∙ ap (λ (l : List ℕ). found ++ l) left
          ∙ sym (append_assoc found (n ∷ []) (bounds_after scores ratio min_docs (64 - (count + 1)) n))
          ∙ ap (λ (l : List ℕ). l ++ bounds_after scores ratio min_docs (64 - (count + 1)) n) (sym added);
      splits = record { below = below-next p n (take at scores) e so_far.none lower; above = from_at scores at up lt };
      none = none-more (λ score. may_follow scores ratio min_docs n score ≡ false) scores at (at + 1) (omega arith) lt
          (no-lower scores ratio min_docs n (take at scores) lower) (no-lower scores ratio min_docs n (n ∷ []) (omega arith, tt)).0;
      before = omega arith;
    }

after-none : (scores : List ℕ) (ratio min_docs limit bound : ℕ) → next_bound scores ratio min_docs bound ≡ None
    → bounds_after scores ratio min_docs limit bound ≡ []
unfolding bounds_after
after-none scores ratio min_docs zero bound next = refl
after-none scores ratio min_docs (suc limit) bound next = ap (then_more (bounds_after scores ratio min_docs limit)) next

after-full : (scores : List ℕ) (ratio min_docs limit bound : ℕ) → limit ≡ 0 → bounds_after scores ratio min_docs limit bound ≡ []
unfolding bounds_after
after-full scores ratio min_docs limit bound e = ap (λ l. bounds_after scores ratio min_docs l bound) e

-- where all were passed, or there are as many as there may be, all were found
pub SoFar-all : (scores : List ℕ) (ratio min_docs : ℕ) (found : List ℕ) (count bound from at : ℕ)
    → (length scores ≤ at) ⊎ (64 ≤ count) → SoFar scores ratio min_docs found count bound from at
    → found ≡ bounds_of scores ratio min_docs
SoFar-all scores ratio min_docs found count bound from at ended so_far =
    sym (so_far.is ∙ ap (λ (l : List ℕ). found ++ l) (by ended) ∙ append-nil found)
  where
    by : (length scores ≤ at) ⊎ (64 ≤ count) → bounds_after scores ratio min_docs (64 - count) bound ≡ []
    by (inl le) = after-none scores ratio min_docs (64 - count) bound
        (ap least_of (filter-none (may_follow scores ratio min_docs bound) scores at le so_far.none))
    by (inr ge) = after-full scores ratio min_docs (64 - count) bound (omega arith)
