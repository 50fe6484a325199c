-- The moves of documents among which are all whose scores differ.
use Rattle.std.proofs.Common.{◌≡◌, ℕ, ◌==◌, ◌||◌, Bool, true, false, cond, List, [], ◌∷◌, find, map, Option, Some, None}
use Rattle.std.proofs.Common.{is_some, refl, sym, ap, ap₂, ◌∙◌, subst, arith, if◌then◌else◌}
use Rattle.std.specs.List.{cons_option, filter, filter_map, list_any}
use Rattle.std.specs.List.Sorted.{IsStrictlyIncreasing}
use Rattle.std.specs.Option.{option_eq}
use Rattle.std.proofs.lemmas.Bool.Decides.{nat_tests}
use Rattle.std.proofs.lemmas.List.Kept.{IsStrictlyIncreasing-filter}
use Rattle.svr_view.specs.declared.score_move.ScoreMove.{ScoreMove}
use Rattle.svr_view.specs.View.{AreMoves, move_of}

same_number : (n : ℕ) → (n == n) ≡ true
same_number n = grind (arith, nat_tests)

option_eq-self : (o : Option ℕ) → option_eq (λ a b. a == b) o o ≡ true
option_eq-self None = refl
option_eq-self (Some n) = same_number n

-- a document whose score is the same doesn't move
pub move_of-same : (id : ℕ) (old new : Option ℕ) → old ≡ new → move_of id old new ≡ None
move_of-same id old new e =
    ap (λ o. move_of id old o) (sym e) ∙ ap (λ b. cond b None (Some (record { id = id; old = old; new = old }))) (option_eq-self old)

moves_id : (id : ℕ) (old new : Option ℕ) (b : Bool) (m : ScoreMove) → cond b None (Some (record { id = id; old = old; new = new })) ≡ Some m
    → m.id ≡ id
moves_id id old new true m e = absurd (let no : None ≡ Some m = e in cc)
moves_id id old new false m e =
    let is : Some (record { id = id; old = old; new = new }) ≡ Some m = e in
    let same : record { id = id; old = old; new = new } ≡ m = cc in
    ap (λ (x : ScoreMove). x.id) (sym same)

either : (b : Bool) (o : Option ScoreMove) → o ≡ None → (if b then o else None) ≡ o
either true o h = refl
either false o h = sym h

module _ (f : ℕ → Option ScoreMove) (names : (id : ℕ) (m : ScoreMove) → f id ≡ Some m → m.id ≡ id) where
  found_none : (x : ℕ) (xs : List ℕ) (k : ℕ) (b : Bool) → (x == k) ≡ b → f x ≡ None
      → (if list_any (λ id. id == k) xs then f k else None) ≡ (if b || list_any (λ id. id == k) xs then f k else None)
  found_none x xs k false e none = refl
  found_none x xs k true e none =
      let same : x ≡ k = grind (arith, nat_tests, e) in
      let nothing = ap f (sym same) ∙ none in
      either (list_any (λ id. id == k) xs) (f k) nothing

  found_some : (x : ℕ) (xs : List ℕ) (k : ℕ) (m : ScoreMove) (b : Bool) → (x == k) ≡ b → f x ≡ Some m
      → find (λ m. m.id == k) (filter_map f xs) ≡ (if list_any (λ id. id == k) xs then f k else None)
      → cond b (Some m) (find (λ m. m.id == k) (filter_map f xs)) ≡ (if b || list_any (λ id. id == k) xs then f k else None)
  found_some x xs k m true e is rest =
      let same : x ≡ k = grind (arith, nat_tests, e) in sym (ap f (sym same) ∙ is)
  found_some x xs k m false e is rest = rest

  found_step : (x : ℕ) (xs : List ℕ) (k : ℕ) (o : Option ScoreMove) → f x ≡ o
      → find (λ m. m.id == k) (filter_map f xs) ≡ (if list_any (λ id. id == k) xs then f k else None)
      → find (λ m. m.id == k) (cons_option o (filter_map f xs)) ≡ (if list_any (λ id. id == k) (x ∷ xs) then f k else None)
  found_step x xs k None is rest = rest ∙ found_none x xs k (x == k) refl is
  found_step x xs k (Some m) is rest =
      ap (λ id. cond (id == k) (Some m) (find (λ m. m.id == k) (filter_map f xs))) (names x m is)
      ∙ found_some x xs k m (x == k) refl is rest

  pub find-filter_map : (xs : List ℕ) (k : ℕ)
      → find (λ m. m.id == k) (filter_map f xs) ≡ (if list_any (λ id. id == k) xs then f k else None)
  find-filter_map [] k = refl
  find-filter_map (x ∷ xs) k =
      found_step x xs k (f x) refl (find-filter_map xs k)

  ids_step : (x : ℕ) (xs : List ℕ) (o : Option ScoreMove) → f x ≡ o
      → map (λ m. m.id) (filter_map f xs) ≡ filter (λ id. is_some (f id)) xs
      → map (λ m. m.id) (cons_option o (filter_map f xs)) ≡ cond (is_some o) (x ∷ filter (λ id. is_some (f id)) xs) (filter (λ id. is_some (f id)) xs)
  ids_step x xs None is rest = rest
  ids_step x xs (Some m) is rest = ap₂ (λ id ids. id ∷ ids) (names x m is) rest

  pub ids-filter_map : (xs : List ℕ) → map (λ m. m.id) (filter_map f xs) ≡ filter (λ id. is_some (f id)) xs
  ids-filter_map [] = refl
  ids-filter_map (x ∷ xs) = ids_step x xs (f x) refl (ids-filter_map xs)

or_true : (b d : Bool) → d ≡ true → (b || d) ≡ true
or_true true d e = refl
or_true false d e = e

filter_map-agree : (f g : ℕ → Option ScoreMove) (xs : List ℕ) → ((id : ℕ) → list_any (λ k. k == id) xs ≡ true → f id ≡ g id)
    → filter_map f xs ≡ filter_map g xs
filter_map-agree f g [] h = refl
filter_map-agree f g (x ∷ xs) h =
    ap₂ cons_option (h x (ap (λ b. b || list_any (λ k. k == x) xs) (same_number x)))
    (filter_map-agree f g xs (λ id among. h id (or_true (x == id) (list_any (λ k. k == id) xs) among)))

pick : (b : Bool) (o : Option ScoreMove) → (b ≡ false → o ≡ None) → (if b then o else None) ≡ o
pick true o h = refl
pick false o h = sym (h refl)

-- the moves of documents by ascending id, of which none is left out whose scores before and after differ
pub AreMoves-among : (before after : ℕ → Option ℕ) (ids : List ℕ) (moves : List ScoreMove) → IsStrictlyIncreasing ids
    → ((id : ℕ) → list_any (λ k. k == id) ids ≡ false → before id ≡ after id)
    → moves ≡ filter_map (λ id. move_of id (before id) (after id)) ids → AreMoves before after moves
AreMoves-among before after ids moves ascend others is =
    let f = λ (id : ℕ). move_of id (before id) (after id) in
    let names : (id : ℕ) (m : ScoreMove) → f id ≡ Some m → m.id ≡ id
    = λ id m e. moves_id id (before id) (after id) (option_eq (λ a b. a == b) (before id) (after id)) m e in
    record {
      each = λ id. ap (find (λ m. m.id == id)) is ∙ find-filter_map f names ids id
          ∙ pick (list_any (λ k. k == id) ids) (f id) (λ none. move_of-same id (before id) (after id) (others id none));
      ascending = subst IsStrictlyIncreasing (sym (ap (map (λ m. m.id)) is ∙ ids-filter_map f names ids))
          (IsStrictlyIncreasing-filter (λ id. is_some (f id)) ids ascend);
    }

-- the same where the moves are told by other names of the scores
pub AreMoves-told : (before after old new : ℕ → Option ℕ) (ids : List ℕ) (moves : List ScoreMove) → IsStrictlyIncreasing ids
    → ((id : ℕ) → list_any (λ k. k == id) ids ≡ false → before id ≡ after id)
    → ((id : ℕ) → old id ≡ before id) → ((id : ℕ) → list_any (λ k. k == id) ids ≡ true → new id ≡ after id)
    → moves ≡ filter_map (λ id. move_of id (old id) (new id)) ids → AreMoves before after moves
AreMoves-told before after old new ids moves ascend others olds news is =
    AreMoves-among before after ids moves ascend others
    (is ∙ filter_map-agree (λ id. move_of id (old id) (new id)) (λ id. move_of id (before id) (after id)) ids
    (λ id among. ap₂ (move_of id) (olds id) (news id among)))
