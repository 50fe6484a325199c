-- The moves of a change, one after the other.
use Rattle.std.proofs.Common.{◌≡◌, ℕ, zero, suc, ◌<◌, ◌==◌, ◌||◌, Bool, true, false, cond, List, [], ◌∷◌, length, map, take, get_or, find, Option, Some, None, refl, ap, sym, subst, ◌∙◌, arith, Less, nat_cmp}
use Rattle.std.specs.List.{AllByRecursion, list_any}
use Rattle.std.specs.List.Sorted.{IsStrictlySortedBy}
use Rattle.std.specs.Option.{option_eq}
use Rattle.std.proofs.lemmas.Bool.Decides.{nat_tests}
use Rattle.std.proofs.lemmas.Map.Keys.{sorted_from_strictly_increasing, sorted_head, sorted_tail}
use Rattle.svr_view.specs.declared.score_move.ScoreMove.{ScoreMove}
use Rattle.svr_view.specs.View.{AreMoves}

-- a move is among others
abbrev pub seen_in : List ScoreMove → ℕ → Bool
seen_in moves id = list_any (λ m. m.id == id) moves

apart : (id : ℕ) (ms : List ScoreMove) (j : ℕ) (d : ScoreMove) → AllByRecursion (λ n. nat_cmp id n ≡ Less) (map (λ m. m.id) ms)
    → j < length ms → (id == (get_or ms j d).id) ≡ false
apart id [] j d all below = absurd (omega (arith, below))
apart id (m ∷ ms) zero d all below = less all.0
  where
    less : nat_cmp id m.id ≡ Less → (id == m.id) ≡ false
    less e = grind (arith, nat_tests)
apart id (m ∷ ms) (suc j) d all below = apart id ms j d all.1 (omega (arith, below))

itself : (n : ℕ) → (n == n) ≡ true
itself n = grind (arith, nat_tests)

module _ (d : ScoreMove) where
  -- one that comes wasn't seen before
  fresh-sorted : (ms : List ScoreMove) (i : ℕ) → IsStrictlySortedBy nat_cmp (map (λ m. m.id) ms) → i < length ms
      → seen_in (take i ms) (get_or ms i d).id ≡ false
  fresh-sorted [] i sorted below = absurd (omega (arith, below))
  fresh-sorted (m ∷ ms) zero sorted below = refl
  fresh-sorted (m ∷ ms) (suc i) sorted below =
      let within : i < length ms = omega (arith, below) in
      ap (λ b. b || seen_in (take i ms) (get_or ms i d).id)
      (apart m.id ms i d (sorted_head nat_cmp m.id (map (λ m. m.id) ms) sorted) within)
      ∙ fresh-sorted ms i (sorted_tail nat_cmp m.id (map (λ m. m.id) ms) sorted) within

  -- each is found at its id
  found-sorted : (ms : List ScoreMove) (i : ℕ) → IsStrictlySortedBy nat_cmp (map (λ m. m.id) ms) → i < length ms
      → find (λ m. m.id == (get_or ms i d).id) ms ≡ Some (get_or ms i d)
  found-sorted [] i sorted below = absurd (omega (arith, below))
  found-sorted (m ∷ ms) zero sorted below = ap (λ b. cond b (Some m) (find (λ x. x.id == m.id) ms)) (itself m.id)
  found-sorted (m ∷ ms) (suc i) sorted below =
      let within : i < length ms = omega (arith, below) in
      ap (λ b. cond b (Some m) (find (λ x. x.id == (get_or ms i d).id) ms))
      (apart m.id ms i d (sorted_head nat_cmp m.id (map (λ m. m.id) ms) sorted) within)
      ∙ found-sorted ms i (sorted_tail nat_cmp m.id (map (λ m. m.id) ms) sorted) within

-- a move tells the scores of its document before and after, which differ
pub record IsMove (before after : ℕ → Option ℕ) (m : ScoreMove) : Type 0 where
  pub old_is : m.old ≡ before m.id
  pub new_is : m.new ≡ after m.id
  pub differs : option_eq (λ a b. a == b) (before m.id) (after m.id) ≡ false

is_move : (before after : ℕ → Option ℕ) (m : ScoreMove) (b : Bool) → option_eq (λ a b. a == b) (before m.id) (after m.id) ≡ b
    → cond b None (Some (record { id = m.id; old = before m.id; new = after m.id })) ≡ Some m → IsMove before after m
is_move before after m true e is = absurd (let no : None ≡ Some m = is in cc)
is_move before after m false e is =
    let some : Some (record { id = m.id; old = before m.id; new = after m.id }) ≡ Some m = is in
    let same : record { id = m.id; old = before m.id; new = after m.id } ≡ m = cc in
    record {
      old_is = sym (ap (λ (x : ScoreMove). x.old) same);
      new_is = sym (ap (λ (x : ScoreMove). x.new) same);
      differs = e;
    }

module _ (before after : ℕ → Option ℕ) (moves : List ScoreMove) (are : AreMoves before after moves) where
  sorted : IsStrictlySortedBy nat_cmp (map (λ m. m.id) moves)
  sorted = sorted_from_strictly_increasing (map (λ m. m.id) moves) are.ascending

  -- the next move wasn't seen yet
  pub move-fresh : (i : ℕ) (d m : ScoreMove) → i < length moves → m ≡ get_or moves i d → seen_in (take i moves) m.id ≡ false
  move-fresh i d m below is =
      subst (λ (x : ScoreMove). seen_in (take i moves) x.id ≡ false) (sym is) (fresh-sorted d moves i sorted below)

  pub move-is : (i : ℕ) (d m : ScoreMove) → i < length moves → m ≡ get_or moves i d → IsMove before after m
  move-is i d m below is =
      let found : find (λ x. x.id == m.id) moves ≡ Some m =
      subst (λ (x : ScoreMove). find (λ y. y.id == x.id) moves ≡ Some x) (sym is) (found-sorted d moves i sorted below) in
      is_move before after m (option_eq (λ a b. a == b) (before m.id) (after m.id)) refl (sym (are.each m.id) ∙ found)

  unseen : (ms : List ScoreMove) (id : ℕ) → seen_in ms id ≡ false → find (λ m. m.id == id) ms ≡ None
  unseen [] id none = refl
  unseen (m ∷ ms) id none = by (unseen ms id) (m.id == id) none
    where
      by : (seen_in ms id ≡ false → find (λ x. x.id == id) ms ≡ None) → (b : Bool) → (b || seen_in ms id) ≡ false
          → cond b (Some m) (find (λ x. x.id == id) ms) ≡ None
      by rest true none = absurd (let bad : true ≡ false = none in cc)
      by rest false none = rest none

  same_or : (old new : Option ℕ) (m : ScoreMove) (b : Bool) → option_eq (λ a b. a == b) old new ≡ b → cond b None (Some m) ≡ None
      → option_eq (λ a b. a == b) old new ≡ true
  same_or old new m true e none = e
  same_or old new m false e none = absurd (let bad : Some m ≡ None = none in cc)

  equal : (old new : Option ℕ) → option_eq (λ a b. a == b) old new ≡ true → old ≡ new
  equal None None e = refl
  equal None (Some n) e = absurd (let bad : false ≡ true = e in cc)
  equal (Some n) None e = absurd (let bad : false ≡ true = e in cc)
  equal (Some a) (Some b) e = ap (λ (n : ℕ). Some n) (let same : a ≡ b = grind (arith, nat_tests) in same)

  -- a document that doesn't move has the score that it had
  pub unmoved : (id : ℕ) → seen_in moves id ≡ false → before id ≡ after id
  unmoved id none =
      equal (before id) (after id)
      (same_or (before id) (after id) (record { id = id; old = before id; new = after id }) (option_eq (λ a b. a == b) (before id) (after id)) refl
      (sym (are.each id) ∙ unseen moves id none))
