-- What inserting a term at its place does to an ascending list.
use Rattle.std.proofs.Common.{◌≡◌, ◌∙◌, sym, ap, refl, List, ℕ, [], ◌∷◌, Bool, true, false, ◌||◌}
use Rattle.std.specs.declared.cmp.Ordering.{Ordering}
use Rattle.std.specs.declared.cmp.Ordering.TheVariants.{Less, Equal, Greater}
use Rattle.std.specs.Ordering.{nat_cmp, match_ordering, ordering_reverse}
use Rattle.std.specs.Cmp.Lexicographic.{slice_cmp, nat_list_cmp_total}
use Rattle.std.specs.BTreeSet.{insert_key}
use Rattle.std.specs.List.{AllByRecursion, list_any, fold}
use Rattle.std.specs.List.Sorted.{IsStrictlySortedBy}
use Rattle.std.proofs.lemmas.Map.Lookups.{exact_bytes}

-- the order of terms
abbrev pub by_bytes : List ℕ → List ℕ → Ordering
by_bytes = slice_cmp nat_cmp

by_rank : (P : List (List ℕ) → Type 0) (o : Ordering) (xs ys zs : List (List ℕ)) → (o ≡ Less → P xs) → (o ≡ Equal → P ys)
    → (o ≡ Greater → P zs) → P (match_ordering o xs ys zs)
by_rank P Less xs ys zs a b c = a refl
by_rank P Equal xs ys zs a b c = b refl
by_rank P Greater xs ys zs a b c = c refl

-- ---- it stays ascending
all-insert : (P : List ℕ → Type 0) (t : List ℕ) (ts : List (List ℕ)) → P t → AllByRecursion P ts → AllByRecursion P (insert_key by_bytes ts t)
all-insert P t [] p a = (p, a)
all-insert P t (x ∷ xs) p a = by_rank (AllByRecursion P) (by_bytes t x) _ _ _ (λ _. (p, a)) (λ _. a) (λ _. (a.0, all-insert P t xs p a.1))

below-below : (t x : List ℕ) (ts : List (List ℕ)) → by_bytes t x ≡ Less → AllByRecursion (λ y. by_bytes x y ≡ Less) ts
    → AllByRecursion (λ y. by_bytes t y ≡ Less) ts
below-below t x [] l a = tt
below-below t x (y ∷ ys) l a = (nat_list_cmp_total.trans t x y l a.0, below-below t x ys l a.1)

above : (t x : List ℕ) → by_bytes t x ≡ Greater → by_bytes x t ≡ Less
above t x e = nat_list_cmp_total.antisymm x t ∙ ap ordering_reverse e

pub sorted-insert : (t : List ℕ) (ts : List (List ℕ)) → IsStrictlySortedBy by_bytes ts → IsStrictlySortedBy by_bytes (insert_key by_bytes ts t)
unfolding IsStrictlySortedBy
sorted-insert t [] s = (tt, tt)
sorted-insert t (x ∷ xs) s = by_rank (IsStrictlySortedBy by_bytes) (by_bytes t x) _ _ _
    (λ l. ((l, below-below t x xs l s.0), s))
    (λ _. s)
    (λ g. (all-insert (λ y. by_bytes x y ≡ Less) t xs (above t x g) s.0, sorted-insert t xs s.1))

pub sorted-fold : (ts ks : List (List ℕ)) → IsStrictlySortedBy by_bytes ks → IsStrictlySortedBy by_bytes (fold (insert_key by_bytes) ks ts)
sorted-fold [] ks s = s
sorted-fold (t ∷ ts) ks s = sorted-fold ts (insert_key by_bytes ks t) (sorted-insert t ks s)

-- ---- it has the term and what it had
or-turn : (a b c : Bool) → (b || (a || c)) ≡ (a || (b || c))
or-turn true true c = refl
or-turn true false c = refl
or-turn false true c = refl
or-turn false false c = refl

or-once : (a c : Bool) → (a || c) ≡ (a || (a || c))
or-once true c = refl
or-once false c = refl

pub any-insert : (p : List ℕ → Bool) (t : List ℕ) (ts : List (List ℕ)) → list_any p (insert_key by_bytes ts t) ≡ (p t || list_any p ts)
any-insert p t [] = refl
any-insert p t (x ∷ xs) = by_rank (λ ys. list_any p ys ≡ (p t || (p x || list_any p xs))) (by_bytes t x) _ _ _
    (λ _. refl)
    (λ e. or-once (p x) (list_any p xs) ∙ ap (λ y. p y || (p x || list_any p xs)) (sym (exact_bytes t x e)))
    (λ _. ap (λ b. p x || b) (any-insert p t xs) ∙ or-turn (p t) (p x) (list_any p xs))

or-false : (b : Bool) → (b || false) ≡ b
or-false true = refl
or-false false = refl

or-join : (a b c : Bool) → ((a || b) || c) ≡ (b || (a || c))
or-join true true c = refl
or-join true false c = refl
or-join false true c = refl
or-join false false c = refl

pub any-fold : (p : List ℕ → Bool) (ts ks : List (List ℕ)) → list_any p (fold (insert_key by_bytes) ks ts) ≡ (list_any p ts || list_any p ks)
any-fold p [] ks = refl
any-fold p (t ∷ ts) ks = any-fold p ts (insert_key by_bytes ks t) ∙ ap (λ b. list_any p ts || b) (any-insert p t ks)
    ∙ sym (or-join (p t) (list_any p ts) (list_any p ks))

pub any-fold_nil : (p : List ℕ → Bool) (ts : List (List ℕ)) → list_any p (fold (insert_key by_bytes) [] ts) ≡ list_any p ts
any-fold_nil p ts = any-fold p ts [] ∙ or-false (list_any p ts)
