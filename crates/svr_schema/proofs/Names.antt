-- Names that differ, from the first on.
use Rattle.std.proofs.Common.{◌≡◌, ◌&&◌, Bool, true, false, not, ℕ, List, ◌∷◌, map, sym, ap, ◌∙◌}
use Rattle.std.specs.List.{list_any}
use Rattle.std.specs.Str.{bytes_eq}
use Rattle.svr_json.proofs.PartsLemmas.{list_any-map}
use Rattle.svr_schema.specs.Lawful.{are_different}

are_different-cons : {N : Type 0} (f : N → List ℕ) (x : N) (xs : List N)
    → are_different (map f (x ∷ xs)) ≡ (not (list_any (λ o. bytes_eq (f x) (f o)) xs) && are_different (map f xs))
unfolding are_different
are_different-cons f x xs = ap (λ b. not b && are_different (map f xs)) (list_any-map (bytes_eq (f x)) f xs)

-- what is taken of the first name, and of the rest
split : {N : Type 0} (f : N → List ℕ) (items xs : List N) (x : N) (n : List ℕ) (taken : Bool) → items ≡ x ∷ xs → n ≡ f x
    → taken ≡ list_any (λ o. bytes_eq n (f o)) xs → are_different (map f items) ≡ (not taken && are_different (map f xs))
split f items xs x n taken is name t =
    ap (λ ys. are_different (map f ys)) is ∙ are_different-cons f x xs
    ∙ ap (λ b. not b && are_different (map f xs)) (sym (t ∙ ap (λ m. list_any (λ o. bytes_eq m (f o)) xs) name))

pub are_different-free : {N : Type 0} (f : N → List ℕ) (items xs : List N) (x : N) (n : List ℕ) (taken r : Bool) → items ≡ x ∷ xs → n ≡ f x
    → taken ≡ list_any (λ o. bytes_eq n (f o)) xs → not taken ≡ true → r ≡ are_different (map f xs) → r ≡ are_different (map f items)
are_different-free f items xs x n taken r is name t free rest =
    rest ∙ sym (split f items xs x n taken is name t ∙ ap (λ b. b && are_different (map f xs)) free)

pub are_different-taken : {N : Type 0} (f : N → List ℕ) (items xs : List N) (x : N) (n : List ℕ) (taken : Bool) → items ≡ x ∷ xs → n ≡ f x
    → taken ≡ list_any (λ o. bytes_eq n (f o)) xs → not taken ≡ false → not taken ≡ are_different (map f items)
are_different-taken f items xs x n taken is name t held =
    held ∙ sym (split f items xs x n taken is name t ∙ ap (λ b. b && are_different (map f xs)) held)
