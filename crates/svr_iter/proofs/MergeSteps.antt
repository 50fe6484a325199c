-- The steps of putting ids of two lists together.
use Rattle.std.proofs.Common.{◌≡◌, ℕ, zero, suc, ◌+◌, ◌<◌, ◌≤◌, List, [], ◌∷◌, ◌++◌, length, slice_index, drop, ap, sym, subst, ◌∙◌, arith, add-one, refl}
use Rattle.std.specs.List.Sorted.{IsStrictlyIncreasing}
use Rattle.std.proofs.lemmas.List.{append-nil, append_assoc}
use Rattle.svr_listing.specs.Joined.{either, with_id}
use Rattle.svr_iter.specs.Merging.{Above, Up, Up-from, above-less, all-either, with_id-again, with_id-behind, with_id-first}

pub Up-drop : (n : ℕ) (xs : List ℕ) → Up xs → Up (drop n xs)
Up-drop zero xs up = up
Up-drop (suc n) [] up = tt
Up-drop (suc n) (x ∷ xs) up = Up-drop n xs up.1

-- ---- the first id of two lists

pub either-before : (y : ℕ) (xs ys : List ℕ) → Above y xs → either xs (y ∷ ys) ≡ y ∷ either xs ys
either-before y [] ys a = refl
either-before y (x ∷ xs) ys a = ap (with_id x) (either-before y xs ys a.1) ∙ with_id-behind y x (either xs ys) a.0

pub either-nil : (xs : List ℕ) → Up xs → either xs [] ≡ xs
either-nil [] up = refl
either-nil (x ∷ xs) up = ap (with_id x) (either-nil xs up.1) ∙ with_id-first x xs up.0

pub first_left : (x y : ℕ) (xs ys : List ℕ) → Up (x ∷ xs) → Up (y ∷ ys) → x < y → either (x ∷ xs) (y ∷ ys) ≡ x ∷ either xs (y ∷ ys)
first_left x y xs ys up others lt = with_id-first x _ (all-either (λ z. x < z) xs (y ∷ ys) up.0 (lt, above-less x y ys lt others.0))

pub first_right : (x y : ℕ) (xs ys : List ℕ) → Up (x ∷ xs) → y < x → either (x ∷ xs) (y ∷ ys) ≡ y ∷ either (x ∷ xs) ys
first_right x y xs ys up lt = either-before y (x ∷ xs) ys (lt, above-less y x xs lt up.0)

pub first_both : (x y : ℕ) (xs ys : List ℕ) → Up (x ∷ xs) → x ≡ y → either (x ∷ xs) (y ∷ ys) ≡ x ∷ either xs ys
first_both x y xs ys up e =
    rw (← e) (ap (with_id x) (either-before x xs ys up.0) ∙ with_id-again x (either xs ys))

pub drop_at : (xs : List ℕ) (i : ℕ) → i < length xs → drop i xs ≡ slice_index xs i ∷ drop (i + 1) xs
drop_at [] i lt = absurd (omega arith)
drop_at (x ∷ xs) zero lt = refl
drop_at (x ∷ xs) (suc i) lt = rw add-one (rw add-one at (drop_at xs i (omega arith)))

pub drop_past : (xs : List ℕ) (i : ℕ) → length xs ≤ i → drop i xs ≡ []
drop_past [] zero le = refl
drop_past [] (suc i) le = refl
drop_past (x ∷ xs) zero le = absurd (omega arith)
drop_past (x ∷ xs) (suc i) le = drop_past xs i (omega arith)

-- ---- a step of the loop, where these ids came so far

step : (so both rest rest' : List ℕ) (id : ℕ) → so ++ rest ≡ both → rest ≡ id ∷ rest' → (so ++ id ∷ []) ++ rest' ≡ both
step so both rest rest' id e first = append_assoc so (id ∷ []) rest' ∙ sym (ap (λ (l : List ℕ). so ++ l) first) ∙ e

pub step_left : (so both xs ys : List ℕ) (i j : ℕ) → IsStrictlyIncreasing xs → IsStrictlyIncreasing ys → i < length xs → j < length ys
    → slice_index xs i < slice_index ys j → so ++ either (drop i xs) (drop j ys) ≡ both
    → (so ++ slice_index xs i ∷ []) ++ either (drop (i + 1) xs) (drop j ys) ≡ both
step_left so both xs ys i j up others li lj lt e =
    step so both _ _ _ e (
    let left = subst Up (drop_at xs i li) (Up-drop i xs (Up-from xs up)) in
    let right = subst Up (drop_at ys j lj) (Up-drop j ys (Up-from ys others)) in
    rw (drop_at xs i li, drop_at ys j lj) (first_left _ _ _ _ left right lt))

pub step_right : (so both xs ys : List ℕ) (i j : ℕ) → IsStrictlyIncreasing xs → i < length xs → j < length ys
    → slice_index ys j < slice_index xs i → so ++ either (drop i xs) (drop j ys) ≡ both
    → (so ++ slice_index ys j ∷ []) ++ either (drop i xs) (drop (j + 1) ys) ≡ both
step_right so both xs ys i j up li lj lt e =
    step so both _ _ _ e (
    let left = subst Up (drop_at xs i li) (Up-drop i xs (Up-from xs up)) in
    rw (drop_at xs i li, drop_at ys j lj) (first_right _ _ _ _ left lt))

pub step_both : (so both xs ys : List ℕ) (i j : ℕ) → IsStrictlyIncreasing xs → i < length xs → j < length ys
    → slice_index xs i ≡ slice_index ys j → so ++ either (drop i xs) (drop j ys) ≡ both
    → (so ++ slice_index xs i ∷ []) ++ either (drop (i + 1) xs) (drop (j + 1) ys) ≡ both
step_both so both xs ys i j up li lj same e =
    step so both _ _ _ e (
    let left = subst Up (drop_at xs i li) (Up-drop i xs (Up-from xs up)) in
    rw (drop_at xs i li, drop_at ys j lj) (first_both _ _ _ _ left same))

pub ends_left : (so both xs ys : List ℕ) (i j : ℕ) → length xs ≤ i → so ++ either (drop i xs) (drop j ys) ≡ both
    → (so ++ drop i xs) ++ drop j ys ≡ both
ends_left so both xs ys i j le e = append_assoc so (drop i xs) (drop j ys)
    ∙ ap (λ (l : List ℕ). so ++ (l ++ drop j ys)) (drop_past xs i le)
    ∙ sym (ap (λ (l : List ℕ). so ++ either l (drop j ys)) (drop_past xs i le)) ∙ e

pub ends_right : (so both xs ys : List ℕ) (i j : ℕ) → IsStrictlyIncreasing xs → length ys ≤ j
    → so ++ either (drop i xs) (drop j ys) ≡ both
    → (so ++ drop i xs) ++ drop j ys ≡ both
ends_right so both xs ys i j up le e =
    ap (λ (l : List ℕ). (so ++ drop i xs) ++ l) (drop_past ys j le) ∙ append-nil (so ++ drop i xs)
    ∙ sym (ap (λ (l : List ℕ). so ++ l) (either-nil (drop i xs) (Up-drop i xs (Up-from xs up))))
    ∙ sym (ap (λ (l : List ℕ). so ++ either (drop i xs) l) (drop_past ys j le)) ∙ e
