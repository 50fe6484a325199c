-- The lists of several terms, one behind the other.
use Rattle.std.proofs.Common.{◌≡◌, ℕ, zero, suc, ◌+◌, ◌-◌, ◌≤◌, List, [], ◌∷◌, ◌++◌, take, drop, slice_range, Some, refl, ap, sym, subst, ◌∙◌, arith}
use Rattle.std.proofs.lemmas.List.{append_assoc}
use Rattle.std.specs.List.{slice_get}
use Rattle.svr_index.specs.Index.{Indexed}
use Rattle.svr_index.specs.Layout.{AreListsOf, IsListOf, TermList}

take_more : {A : Type 0} (xs : List A) (n : ℕ) (x : A) → slice_get xs n ≡ Some x → take (suc n) xs ≡ take n xs ++ (x ∷ [])
take_more [] n x e = absurd (cc)
take_more {A} (y ∷ ys) zero x e = let same : y ≡ x = cc in ap (λ (z : A). z ∷ []) same
take_more {A} (y ∷ ys) (suc n) x e = ap (λ (l : List A). y ∷ l) (take_more ys n x e)

get_behind : {A : Type 0} (xs : List A) (from n : ℕ) → slice_get (drop from xs) n ≡ slice_get xs (from + n)
get_behind xs zero n = let e : n ≡ zero + n = omega arith in ap (slice_get xs) e
get_behind [] (suc from) n = refl
get_behind (x ∷ xs) (suc from) n =
    let e : suc (from + n) ≡ suc from + n = omega arith in get_behind xs from n ∙ ap (slice_get (x ∷ xs)) e

pub range_more : {A : Type 0} (xs : List A) (from i : ℕ) (x : A) → from ≤ i → slice_get xs i ≡ Some x
    → slice_range xs from (i + 1) ≡ slice_range xs from i ++ (x ∷ [])
range_more {A} xs from i x le e =
    let one : (i + 1) - from ≡ suc (i - from) = omega (arith, le) in
    let here : from + (i - from) ≡ i = omega (arith, le) in
    ap (λ (n : ℕ). take n (drop from xs)) one
    ∙ take_more (drop from xs) (i - from) x (get_behind xs from (i - from) ∙ ap (slice_get xs) here ∙ e)

pub are_more : (index : Indexed) (terms : List (List ℕ)) (lists : List TermList) (term : List ℕ) (list : TermList)
    → AreListsOf index terms lists → IsListOf index term list → AreListsOf index (terms ++ (term ∷ [])) (lists ++ (list ∷ []))
are_more index [] [] term list are is = (is, tt)
are_more index [] (l ∷ ls) term list are is = absurd are
are_more index (t ∷ ts) [] term list are is = absurd are
are_more index (t ∷ ts) (l ∷ ls) term list are is = (are.0, are_more index ts ls term list are.1 is)

pub push_one : (index : Indexed) (before terms : List (List ℕ)) (from i : ℕ) (lists pushed : List TermList) (term : List ℕ) (list : TermList)
    → from ≤ i → slice_get terms i ≡ Some term → AreListsOf index (before ++ slice_range terms from i) lists → IsListOf index term list
    → pushed ≡ lists ++ (list ∷ []) → AreListsOf index (before ++ slice_range terms from (i + 1)) pushed
push_one index before terms from i lists pushed term list le e are is same =
    subst (AreListsOf index (before ++ slice_range terms from (i + 1))) (sym same)
    (subst (λ (ts : List (List ℕ)). AreListsOf index ts (lists ++ (list ∷ [])))
    (append_assoc before (slice_range terms from i) (term ∷ []) ∙ ap (λ (ts : List (List ℕ)). before ++ ts) (sym (range_more terms from i term le e)))
    (are_more index (before ++ slice_range terms from i) lists term list are is))
