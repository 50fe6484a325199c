-- Ids of one list after another, put together.
use Rattle.std.proofs.Common.{◌≡◌, ℕ, ◌&&◌, ◌||◌, Bool, true, false, cond, List, [], ◌∷◌, ◌++◌, filter, refl, ap, ap₂, sym, ◌∙◌}
use mathlib.Core.Path.{fun_ext}
use Rattle.std.specs.List.{list_all}
use Rattle.svr_listing.specs.Joined.{either, is_in}
use Rattle.svr_iter.specs.GroupLaws.{Up-filter}
use Rattle.svr_iter.specs.Merging.{Up, Up-either}
use Rattle.svr_iter.proofs.Membership.{in_either, in_filter, same_ids}
use Rattle.svr_match.specs.Joined.{any_of, common_of, common_with}
use Rattle.svr_match.specs.JoinedLaws.{any-up, in_common}

-- ---- kept by each

filter-filter : (p q : ℕ → Bool) (xs : List ℕ) → filter q (filter p xs) ≡ filter (λ x. p x && q x) xs
filter-filter p q [] = refl
filter-filter p q (x ∷ xs) = one (p x) (q x) (filter p xs) (filter (λ y. p y && q y) xs) refl (filter-filter p q xs)
  where
    one : (a b : Bool) (l m : List ℕ) → q x ≡ b → filter q l ≡ m → filter q (cond a (x ∷ l) l) ≡ cond (a && b) (x ∷ m) m
    one true true l m f e = rw f (ap (λ (n : List ℕ). x ∷ n) e)
    one true false l m f e = rw f e
    one false b l m f e = e

and_assoc : (a b c : Bool) → ((a && b) && c) ≡ (a && (b && c))
and_assoc true b c = refl
and_assoc false b c = refl

and_true : (a : Bool) → (a && true) ≡ a
and_true true = refl
and_true false = refl

list_all-more : (p : List ℕ → Bool) (xs : List (List ℕ)) (x : List ℕ) → list_all p (xs ++ x ∷ []) ≡ (list_all p xs && p x)
list_all-more p [] x = and_true (p x)
list_all-more p (y ∷ ys) x = ap (λ (b : Bool). p y && b) (list_all-more p ys x) ∙ sym (and_assoc (p y) (list_all p ys) (p x))

keep_all : (xs : List ℕ) → filter (λ (id : ℕ). true) xs ≡ xs
keep_all [] = refl
keep_all (x ∷ xs) = ap (λ (l : List ℕ). x ∷ l) (keep_all xs)

pub common-none : (ids start : List ℕ) → ids ≡ start → ids ≡ common_with start []
common-none ids start e = e ∙ sym (keep_all start)

pub common-more : (start ids new more : List ℕ) → new ≡ filter (λ id. is_in id more) ids → (all : List (List ℕ))
    → ids ≡ common_with start all → new ≡ common_with start (all ++ more ∷ [])
common-more start ids new more kept all so =
    kept ∙ ap (filter (λ id. is_in id more)) so
    ∙ filter-filter (λ id. list_all (λ other. is_in id other) all) (λ id. is_in id more) start
    ∙ ap (λ (p : ℕ → Bool). filter p start) (fun_ext (λ id. sym (list_all-more (λ other. is_in id other) all more)))

-- of ids that the first list keeps, those that each other keeps are those that all have
pub common-kept : (before mid after ids : List ℕ) (all : List (List ℕ)) → mid ≡ filter (λ id. is_in id ids) before
    → after ≡ common_with mid all
    → after ≡ filter (λ id. is_in id (common_of (ids ∷ all))) before
common-kept before mid after ids all first others =
    others ∙ ap (λ (l : List ℕ). common_with l all) first
    ∙ filter-filter (λ id. is_in id ids) (λ id. list_all (λ other. is_in id other) all) before
    ∙ ap (λ (p : ℕ → Bool). filter p before) (fun_ext (λ id. sym (in_common id ids all)))

-- ---- in some

or_false : (a : Bool) → (a || false) ≡ a
or_false true = refl
or_false false = refl

or_assoc : (a b c : Bool) → ((a || b) || c) ≡ (a || (b || c))
or_assoc true b c = refl
or_assoc false b c = refl

or_turn : (a b : Bool) → (a || b) ≡ (b || a)
or_turn true true = refl
or_turn true false = refl
or_turn false true = refl
or_turn false false = refl

in_any-more : (id : ℕ) (all : List (List ℕ)) (more : List ℕ)
    → is_in id (any_of (all ++ more ∷ [])) ≡ (is_in id (any_of all) || is_in id more)
in_any-more id [] more = in_either id more [] ∙ or_false (is_in id more)
in_any-more id (ids ∷ all) more =
    in_either id ids (any_of (all ++ more ∷ [])) ∙ ap (λ (b : Bool). is_in id ids || b) (in_any-more id all more)
    ∙ sym (or_assoc (is_in id ids) (is_in id (any_of all)) (is_in id more))
    ∙ ap (λ (b : Bool). b || is_in id more) (sym (in_either id ids (any_of all)))

pub any-more : (ids new more : List ℕ) → new ≡ either more ids → (all : List (List ℕ)) → ids ≡ any_of all
    → new ≡ any_of (all ++ more ∷ [])
any-more ids new more added all so =
    added ∙ ap (either more) so
    ∙ same_ids _ _ (Up-either more (any_of all) (any-up all)) (any-up (all ++ more ∷ []))
    (λ id. in_either id more (any_of all) ∙ or_turn (is_in id more) (is_in id (any_of all)) ∙ sym (in_any-more id all more))

-- ---- kept by some

none_kept : (ids : List ℕ) → filter (λ (id : ℕ). false) ids ≡ []
none_kept [] = refl
none_kept (x ∷ xs) = none_kept xs

pub some-none : (kept ids : List ℕ) → kept ≡ [] → kept ≡ filter (λ id. is_in id (any_of [])) ids
some-none kept ids e = e ∙ sym (none_kept ids)

both_or : (a b p : Bool) → ((a && p) || (b && p)) ≡ ((b || a) && p)
both_or true true true = refl
both_or true true false = refl
both_or true false p = or_false p
both_or false true p = refl
both_or false false p = refl

pub some-more : (ids kept new mine more : List ℕ) → Up ids → mine ≡ filter (λ id. is_in id more) ids → new ≡ either mine kept
    → (all : List (List ℕ))
    → kept ≡ filter (λ id. is_in id (any_of all)) ids → new ≡ filter (λ id. is_in id (any_of (all ++ more ∷ []))) ids
some-more ids kept new mine more up has added all so =
    added ∙ ap₂ either has so
    ∙ same_ids _ _ (Up-either (filter (λ id. is_in id more) ids) (filter (λ id. is_in id (any_of all)) ids) (Up-filter _ ids up))
    (Up-filter _ ids up)
    (λ id.
    in_either id (filter (λ n. is_in n more) ids) (filter (λ n. is_in n (any_of all)) ids)
    ∙ ap₂ (λ (a b : Bool). a || b) (in_filter (λ n. is_in n more) id ids) (in_filter (λ n. is_in n (any_of all)) id ids)
    ∙ both_or (is_in id more) (is_in id (any_of all)) (is_in id ids)
    ∙ ap (λ (b : Bool). b && is_in id ids) (sym (in_any-more id all more))
    ∙ sym (in_filter (λ n. is_in n (any_of (all ++ more ∷ []))) id ids))
