-- What is found in a list, from one element to the next.
use Rattle.std.proofs.Common.{◌≡◌, ◌<◌, ◌+◌, ◌++◌, ℕ, List, [], ◌∷◌, length, map, take, get_or, Option, Some, None, refl, sym, ap, ◌∙◌}
use Rattle.std.specs.List.{cons_option, filter_map}
use Rattle.std.specs.Option.{option_to_list}
use Rattle.std.proofs.lemmas.List.{map_more}

cons_option-append : {Y : Type 0} (o : Option Y) (ys zs : List Y) → cons_option o (ys ++ zs) ≡ cons_option o ys ++ zs
cons_option-append None ys zs = refl
cons_option-append (Some y) ys zs = refl

filter_map-last : {X Y : Type 0} (f : X → Option Y) (x : X) → filter_map f (x ∷ []) ≡ option_to_list (f x)
filter_map-last f x = elim (f x) as (λ o. cons_option o [] ≡ option_to_list o) [ None ↦ refl | Some y ↦ refl ]

filter_map-append : {X Y : Type 0} (f : X → Option Y) (xs : List X) (x : X)
    → filter_map f (xs ++ x ∷ []) ≡ filter_map f xs ++ option_to_list (f x)
filter_map-append f [] x = filter_map-last f x
filter_map-append f (y ∷ xs) x =
    ap (cons_option (f y)) (filter_map-append f xs x) ∙ cons_option-append (f y) (filter_map f xs) (option_to_list (f x))

pub filter_map-more : {W X Y : Type 0} (f : X → Option Y) (h : W → X) (ws : List W) (i : ℕ) (w : W) → i < length ws → w ≡ get_or ws i w
    → filter_map f (map h (take (i + 1) ws)) ≡ filter_map f (map h (take i ws)) ++ option_to_list (f (h w))
filter_map-more f h ws i w lt is =
    ap (filter_map f) (map_more h ws i w lt) ∙ filter_map-append f (map h (take i ws)) (h (get_or ws i w))
    ∙ ap (λ x. filter_map f (map h (take i ws)) ++ option_to_list (f (h x))) (sym is)
