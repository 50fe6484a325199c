-- Where an id stands among ids in their order.
use Rattle.std.proofs.Common.{◌≡◌, ℕ, zero, suc, ◌+◌, ◌<◌, ◌≤◌, ◌==◌, Bool, true, false, cond, List, [], ◌∷◌, length, slice_index, get_or, Some, None, refl, ap, sym, subst, arith}
use Rattle.std.specs.List.Sorted.{IsStrictlyIncreasing}
use Rattle.std.proofs.lemmas.Bool.Decides.{nat_tests}
use Rattle.svr_listing.specs.Joined.{is_in}
use Rattle.svr_iter.specs.Layout.{IsPlaceOf}
use Rattle.svr_iter.specs.Marks.{ids_of, mark_of}
use Rattle.svr_iter.specs.Merging.{Up, above-less}
use Rattle.svr_iter.specs.declared.marks.Marked.{Marked}
use Rattle.svr_iter.proofs.LiveSteps.{no_mark}
use Rattle.svr_iter.specs.Truths.{eq_less, eq_more}

up_tail : (x : ℕ) (xs : List ℕ) → IsStrictlyIncreasing (x ∷ xs) → IsStrictlyIncreasing xs
up_tail x xs up = λ k lt.
    let place : suc k + 1 ≡ suc (k + 1) = omega arith in
    subst (λ (n : ℕ). slice_index xs k < slice_index (x ∷ xs) n) place (up (suc k) (omega arith))

up_far : (x : ℕ) (xs : List ℕ) → IsStrictlyIncreasing (x ∷ xs) → (k : ℕ) → k < length xs → x < slice_index xs k
up_far x [] up k lt = absurd (omega arith)
up_far x (y ∷ ys) up zero lt = up 0 (omega arith)
up_far x (y ∷ ys) up (suc k) lt = let one : x < y = up 0 (omega arith) in let far : y < slice_index ys k =
    up_far y ys (up_tail x (y ∷ ys) up) k (omega arith) in omega arith

none_equal : (id : ℕ) (xs : List ℕ) → ((k : ℕ) → k < length xs → id < slice_index xs k) → is_in id xs ≡ false
none_equal id [] above = refl
none_equal id (x ∷ xs) above = rw (eq_more id x (above 0 (omega arith))) (none_equal id xs (λ k lt. above (suc k) (omega arith)))

pub is_in-past : (id : ℕ) (xs : List ℕ) (at : ℕ) → length xs ≤ at → ((j : ℕ) → j < at → slice_index xs j < id) → is_in id xs ≡ false
is_in-past id [] at le below = refl
is_in-past id (x ∷ xs) zero le below = absurd (omega arith)
is_in-past id (x ∷ xs) (suc at) le below = rw (eq_less x id (below 0 (omega arith)))
    (is_in-past id xs at (omega arith) (λ j lt. below (suc j) (omega arith)))

at_first : (id x : ℕ) (xs : List ℕ) (b : Bool) → (x == id) ≡ b → id ≤ x → IsStrictlyIncreasing (x ∷ xs) → (x == id) ≡ is_in id (x ∷ xs)
at_first id x xs true e le up = rw e refl
at_first id x xs false e le up =
    let above : id < x = grind (arith, nat_tests) in
    rw e (sym (none_equal id xs (λ k lt. let far : x < slice_index xs k = up_far x xs up k lt in omega arith)))

pub is_in-at : (id : ℕ) (xs : List ℕ) (at : ℕ) → IsStrictlyIncreasing xs → at < length xs → ((j : ℕ) → j < at → slice_index xs j < id)
    → id ≤ slice_index xs at
    → (slice_index xs at == id) ≡ is_in id xs
is_in-at id [] at up lt below le = absurd (omega arith)
is_in-at id (x ∷ xs) zero up lt below le = at_first id x xs _ refl le up
is_in-at id (x ∷ xs) (suc at) up lt below le =
    rw (eq_less x id (below 0 (omega arith))) (is_in-at id xs at (up_tail x xs up) (omega arith) (λ j h. below (suc j) (omega arith)) le)

-- an id stands among the others where it stands at its place
pub is_in-place : (id : ℕ) (xs : List ℕ) (place : ℕ) → IsStrictlyIncreasing xs → IsPlaceOf id xs place → place < length xs
    → (slice_index xs place == id) ≡ is_in id xs
is_in-place id xs place up is lt = is_in-at id xs place up lt is.below (is.at lt)

pub not_in-place : (id : ℕ) (xs : List ℕ) (place : ℕ) → IsPlaceOf id xs place → length xs ≤ place → is_in id xs ≡ false
not_in-place id xs place is le = is_in-past id xs place le is.below

-- ---- among marks

pub index-ids : (ms : List Marked) (j : ℕ) (d : Marked) → j < length ms → slice_index (ids_of ms) j ≡ (get_or ms j d).id
index-ids [] j d lt = absurd (omega arith)
index-ids (m ∷ ms) zero d lt = refl
index-ids (m ∷ ms) (suc j) d lt = index-ids ms j d (omega arith)

pub length-ids : (ms : List Marked) → length (ids_of ms) ≡ length ms
length-ids [] = refl
length-ids (m ∷ ms) = ap suc (length-ids ms)

past_marks : (id : ℕ) (ms : List Marked) (place : ℕ) → length ms ≤ place → ((j : ℕ) → j < place → slice_index (ids_of ms) j < id)
    → mark_of id ms ≡ None
past_marks id [] place le below = refl
past_marks id (m ∷ ms) zero le below = absurd (omega arith)
past_marks id (m ∷ ms) (suc place) le below = rw (eq_less m.id id (below 0 (omega arith)))
    (past_marks id ms place (omega arith) (λ j lt. below (suc j) (omega arith)))

at_marks : (id : ℕ) (ms : List Marked) (place : ℕ) (d : Marked) → Up (ids_of ms) → place < length ms
    → ((j : ℕ) → j < place → slice_index (ids_of ms) j < id)
    → id ≤ (get_or ms place d).id → mark_of id ms ≡ cond ((get_or ms place d).id == id) (Some (get_or ms place d).mark) None
at_marks id [] place d up lt below at = absurd (omega arith)
at_marks id (m ∷ ms) zero d up lt below at = by (m.id == id) refl
  where
    by : (b : Bool) → (m.id == id) ≡ b → cond b (Some m.mark) (mark_of id ms) ≡ cond b (Some m.mark) None
    by true e = refl
    by false e = let above : id < m.id = grind (arith, nat_tests) in no_mark id ms (above-less id m.id (ids_of ms) above up.0)
at_marks id (m ∷ ms) (suc place) d up lt below at =
    rw (eq_less m.id id (below 0 (omega arith))) (at_marks id ms place d up.1 (omega arith) (λ j low. below (suc j) (omega arith)) at)

pub mark_of-place : (id : ℕ) (ms : List Marked) (place : ℕ) (d : Marked) → Up (ids_of ms) → IsPlaceOf id (ids_of ms) place
    → place < length ms
    → mark_of id ms ≡ cond ((get_or ms place d).id == id) (Some (get_or ms place d).mark) None
mark_of-place id ms place d up is lt =
    at_marks id ms place d up lt is.below (subst (λ (n : ℕ). id ≤ n) (index-ids ms place d lt) (is.at (rw (length-ids ms) lt)))

pub no_mark-place : (id : ℕ) (ms : List Marked) (place : ℕ) → IsPlaceOf id (ids_of ms) place → length ms ≤ place → mark_of id ms ≡ None
no_mark-place id ms place is le = past_marks id ms place le is.below
