-- Which ids are among others, and that ids in their order are told by which they are.
use Rattle.std.proofs.Common.{◌≡◌, ℕ, ◌==◌, ◌&&◌, ◌||◌, Bool, true, false, cond, List, [], ◌∷◌, filter, Option, Some, refl, ap, sym, subst, ◌∙◌, arith}
use Rattle.svr_num.specs.declared.list_key.ListKey.{ListKey}
use Rattle.svr_listing.specs.Joined.{either, is_in, with_id}
use Rattle.svr_iter.specs.Marks.{has_mark, ids_of, live_ids, mark_of, stands}
use Rattle.svr_iter.specs.Merging.{Above, Up, above-less}
use Rattle.svr_iter.specs.Truths.{by_order, eq_from, eq_more, eq_self, lt_false, lt_true}
use Rattle.svr_iter.specs.declared.marks.Marked.{Marked}

pub not_among : (id : ℕ) (xs : List ℕ) → Above id xs → is_in id xs ≡ false
not_among id [] a = refl
not_among id (x ∷ xs) a = rw (eq_more id x a.0) (not_among id xs a.1)

pub first_in : (n : ℕ) (l : List ℕ) → is_in n (n ∷ l) ≡ true
first_in n l = rw (eq_self n) refl

rest_same : (x id : ℕ) (xs ys : List ℕ) → Above x xs → Above x ys → is_in id (x ∷ xs) ≡ is_in id (x ∷ ys) → is_in id xs ≡ is_in id ys
rest_same x id xs ys a b e = one (x == id) refl e
  where
    one : (t : Bool) → (x == id) ≡ t → (t || is_in id xs) ≡ (t || is_in id ys) → is_in id xs ≡ is_in id ys
    one false f g = g
    one true f g =
        let same : x ≡ id = eq_from x id f in
        subst (λ (n : ℕ). is_in n xs ≡ is_in n ys) same (not_among x xs a ∙ sym (not_among x ys b))

-- ids in their order that are the same ids are the same list
pub same_ids : (xs ys : List ℕ) → Up xs → Up ys → ((id : ℕ) → is_in id xs ≡ is_in id ys) → xs ≡ ys
same_ids [] [] up others same = refl
same_ids [] (y ∷ ys) up others same = let e : false ≡ true = same y ∙ first_in y ys in absurd (cc)
same_ids (x ∷ xs) [] up others same = let e : true ≡ false = sym (first_in x xs) ∙ same x in absurd (cc)
same_ids (x ∷ xs) (y ∷ ys) up others same =
    let ih : ((id : ℕ) → is_in id xs ≡ is_in id ys) → xs ≡ ys = same_ids xs ys up.1 others.1 in
    by_order x y _
    (λ lt. let e : true ≡ false = sym (first_in x xs) ∙ same x ∙ not_among x (y ∷ ys) (lt, above-less x y ys lt others.0) in absurd (cc))
    (λ e. let low : Above x ys = subst (λ (n : ℕ). Above n ys) (sym e) others.0 in
    let each : (id : ℕ) → is_in id (x ∷ xs) ≡ is_in id (x ∷ ys) = λ id. same id ∙ ap (λ (n : ℕ). is_in id (n ∷ ys)) (sym e) in
    ap (λ (l : List ℕ). x ∷ l) (ih (λ id. rest_same x id xs ys up.0 low (each id))) ∙ ap (λ (n : ℕ). n ∷ ys) e)
    (λ lt. let e : true ≡ false = sym (first_in y ys) ∙ sym (same y)
    ∙ not_among y (x ∷ xs) (lt, above-less y x xs lt up.0) in absurd (cc))

or_swap : (a b c : Bool) → (a || (b || c)) ≡ (b || (a || c))
or_swap true true c = refl
or_swap true false c = refl
or_swap false true c = refl
or_swap false false c = refl

or_assoc : (a b c : Bool) → ((a || b) || c) ≡ (a || (b || c))
or_assoc true b c = refl
or_assoc false b c = refl

or_same : (a b : Bool) → (a || b) ≡ (a || (a || b))
or_same true b = refl
or_same false b = refl

is_in-if : (id : ℕ) (b : Bool) (xs ys : List ℕ) (t : Bool) → is_in id xs ≡ t → is_in id ys ≡ t → is_in id (cond b xs ys) ≡ t
is_in-if id true xs ys t e f = e
is_in-if id false xs ys t e f = f

pub in_with : (id n : ℕ) (xs : List ℕ) → is_in id (with_id n xs) ≡ ((n == id) || is_in id xs)
in_with id n [] = refl
in_with id n (x ∷ xs) = by_order n x _
    (λ lt. rw (lt_true n x lt) refl)
    (λ e. subst (λ (m : ℕ). is_in id (with_id n (m ∷ xs)) ≡ ((n == id) || is_in id (m ∷ xs))) e
    (rw (lt_false n n (omega arith), eq_self n) (or_same (n == id) (is_in id xs))))
    (λ lt. rw (lt_false n x (omega arith), eq_more x n lt)
    (ap (λ (b : Bool). (x == id) || b) (in_with id n xs) ∙ or_swap (x == id) (n == id) (is_in id xs)))

pub in_either : (id : ℕ) (xs ys : List ℕ) → is_in id (either xs ys) ≡ (is_in id xs || is_in id ys)
in_either id [] ys = refl
in_either id (x ∷ xs) ys = in_with id x (either xs ys) ∙ ap (λ (b : Bool). (x == id) || b) (in_either id xs ys)
    ∙ sym (or_assoc (x == id) (is_in id xs) (is_in id ys))

pub in_filter : (p : ℕ → Bool) (id : ℕ) (xs : List ℕ) → is_in id (filter p xs) ≡ (p id && is_in id xs)
in_filter p id [] = none (p id)
  where
    none : (b : Bool) → false ≡ (b && false)
    none true = refl
    none false = refl
in_filter p id (x ∷ xs) = one (p x) (x == id) refl refl (in_filter p id xs)
  where
    one : (a b : Bool) → p x ≡ a → (x == id) ≡ b → is_in id (filter p xs) ≡ (p id && is_in id xs)
        → is_in id (cond a (x ∷ filter p xs) (filter p xs)) ≡ (p id && (b || is_in id xs))
    one a false e f rest = is_in-if id a (x ∷ filter p xs) (filter p xs) _ (rw f rest) rest
    one true true e f rest = let here : p id ≡ true = subst (λ (n : ℕ). p n ≡ true) (eq_from x id f) e in rw (f, here) refl
    one false true e f rest = let here : p id ≡ false = subst (λ (n : ℕ). p n ≡ false) (eq_from x id f) e in rw here (rw here at rest)

pub in_marks : (id : ℕ) (ms : List Marked) → is_in id (ids_of ms) ≡ has_mark (mark_of id ms)
in_marks id [] = refl
in_marks id (m ∷ ms) = one (m.id == id) (in_marks id ms)
  where
    one : (b : Bool) → is_in id (ids_of ms) ≡ has_mark (mark_of id ms)
        → (b || is_in id (ids_of ms)) ≡ has_mark (cond b (Some m.mark) (mark_of id ms))
    one true e = refl
    one false e = e

-- which ids stand at a key: of the posted and marked ones those that do
pub in_live : (entry : ℕ → Option ListKey) (key : ℕ) (marks : List Marked) (posted : List ℕ) (id : ℕ)
    → is_in id (live_ids entry key marks posted)
    ≡ (stands (entry id) key (mark_of id marks) && (has_mark (mark_of id marks) || is_in id posted))
in_live entry key marks posted id =
    in_filter (λ i. stands (entry i) key (mark_of i marks)) id (either (ids_of marks) posted)
    ∙ ap (λ (b : Bool). stands (entry id) key (mark_of id marks) && b)
    (in_either id (ids_of marks) posted ∙ ap (λ (b : Bool). b || is_in id posted) (in_marks id marks))
