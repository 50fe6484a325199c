-- Documents that get their scores one after the other, by ascending id.
use Rattle.std.proofs.Common.{◌≡◌, ℕ, zero, suc, ◌+◌, ◌<◌, ◌==◌, ◌||◌, Bool, true, false, List, [], ◌∷◌, ◌++◌, length, take, get_or}
use Rattle.std.proofs.Common.{Option, refl, sym, ap, ap₂, ◌∙◌, subst, arith, ⊎_elim, if◌then◌else◌, add-one}
use Rattle.std.specs.List.{cons_option, filter_map, list_any}
use Rattle.std.specs.List.Sorted.{IsStrictlyIncreasing}
use Rattle.std.proofs.lemmas.Bool.{cases_eq}
use Rattle.std.proofs.lemmas.Bool.Decides.{nat_tests}
use Rattle.std.proofs.lemmas.List.{get_or-take, get_or_default, length-take, take_more}
use Rattle.std.proofs.lemmas.List.Elements.{filter_map-append}
use Rattle.std.proofs.lemmas.List.Folds.{list_any-append, list_any_none}
use Rattle.svr_view.specs.declared.score_move.ScoreMove.{ScoreMove}
use Rattle.svr_idmap.specs.Ids.{SetsValue}
use Rattle.svr_view.specs.Layout.{SetsScores, score_at_id}
use Rattle.svr_view.specs.View.{move_of}

-- ---- ids that ascend

below_later : (xs : List ℕ) → IsStrictlyIncreasing xs → (i j : ℕ) → i < j → j < length xs → get_or xs i 0 < get_or xs j 0
below_later xs inc i zero below within = absurd (omega (arith, below))
below_later xs inc i (suc m) below within =
    let next : get_or xs m 0 < get_or xs (suc m) 0 = subst (λ n. get_or xs m 0 < get_or xs n 0) (add-one m) (inc m (omega (arith, within))) in
    ⊎_elim
    (λ (same : i ≡ m). subst (λ n. get_or xs n 0 < get_or xs (suc m) 0) (sym same) next)
    (λ (apart : i ≡ m → ⊥).
    let before = below_later xs inc i m (let k = apart in omega (arith, below, k)) (omega (arith, within)) in omega (arith, before, next))
    (cases_eq i m)

-- none of the ids before one is the same
pub new_id : (xs : List ℕ) (i : ℕ) → IsStrictlyIncreasing xs → i < length xs → list_any (λ k. k == get_or xs i 0) (take i xs) ≡ false
new_id xs i inc within =
    list_any_none (λ k. k == get_or xs i 0) (take i xs)
    (λ j d at.
    let before : j < i = omega (arith, at, length-take i xs) in
    let less = below_later xs inc j i before within in
    let is : get_or (take i xs) j d ≡ get_or xs j 0 = get_or-take i xs j d before ∙ get_or_default xs j d 0 (omega (arith, before, within)) in
    ap (λ n. n == get_or xs i 0) is ∙ (let b : (get_or xs j 0 == get_or xs i 0) ≡ false = grind (arith, nat_tests, less) in b))

-- ---- one document after the other

-- these documents have their scores, and their moves are told
pub record Settled (before now : List (ℕ × ℕ)) (ids : List ℕ) (score : ℕ → Option ℕ) (moves : List ScoreMove) : Type 0 where
  pub scores : SetsScores before now ids score
  pub moved : moves ≡ filter_map (λ id. move_of id (score_at_id before id) (score id)) ids

pub Settled-none : (before : List (ℕ × ℕ)) (score : ℕ → Option ℕ) → Settled before before [] score []
Settled-none before score = record { scores = λ k. refl; moved = refl }

taken_or : (b d : Bool) (mine yours : Option ℕ) (kept : Option ℕ) → kept ≡ (if b then mine else yours)
    → (if d then mine else kept) ≡ (if b || (d || false) then mine else yours)
taken_or true true mine yours kept e = refl
taken_or true false mine yours kept e = e
taken_or false true mine yours kept e = refl
taken_or false false mine yours kept e = e

scored : (d : Bool) (a b rest : Option ℕ) → (d ≡ true → a ≡ b) → (if d then a else rest) ≡ (if d then b else rest)
scored true a b rest h = h refl
scored false a b rest h = refl

fresh : (b : Bool) (x y : Option ℕ) → b ≡ false → (if b then x else y) ≡ y
fresh b x y e = ap (λ d. if d then x else y) e

pub Settled-more : (before mid now : List (ℕ × ℕ)) (ids : List ℕ) (id : ℕ) (score : ℕ → Option ℕ) (moves : List ScoreMove)
    → Settled before mid ids score moves → list_any (λ k. k == id) ids ≡ false → SetsValue mid now id (score id)
    → Settled before now (ids ++ id ∷ []) score (moves ++ cons_option (move_of id (score_at_id mid id) (score id)) [])
Settled-more before mid now ids id score moves h new sets = record {
  scores = λ k.
      sets k
      ∙ scored (id == k) (score id) (score k) (score_at_id mid k) (λ e. (let same : id ≡ k = grind (arith, nat_tests, e) in ap score same))
      ∙ taken_or (list_any (λ n. n == k) ids) (id == k) (score k) (score_at_id before k) (score_at_id mid k) (h.scores k)
      ∙ ap (λ b. if b then score k else score_at_id before k) (sym (list_any-append (λ n. n == k) ids (id ∷ [])));
  moved =
      ap₂ (λ ms m. ms ++ cons_option m []) h.moved
      (ap (λ o. move_of id o (score id)) (h.scores id ∙ fresh (list_any (λ n. n == id) ids) (score id) (score_at_id before id) new))
      ∙ sym (filter_map-append (λ n. move_of n (score_at_id before n) (score n)) ids (id ∷ []));
}

-- the same of the next of some ids, as the code goes over them
pub Settled-step : (before mid now : List (ℕ × ℕ)) (all : List ℕ) (i : ℕ) (score : ℕ → Option ℕ) (result : Option ℕ)
    (moved : Option ScoreMove) (moves more : List ScoreMove) → IsStrictlyIncreasing all → i < length all
    → Settled before mid (take i all) score moves → result ≡ score (get_or all i 0) → SetsValue mid now (get_or all i 0) result
    → moved ≡ move_of (get_or all i 0) (score_at_id mid (get_or all i 0)) result → more ≡ moves ++ cons_option moved []
    → Settled before now (take (i + 1) all) score more
Settled-step before mid now all i score result moved moves more ascend within h told sets is made =
    let id = get_or all i 0 in
    let all_moved = made ∙ ap (λ m. moves ++ cons_option m []) (is ∙ ap (move_of id (score_at_id mid id)) told) in
    subst (λ ids. Settled before now ids score more) (sym (take_more all i 0 within))
    (subst (Settled before now (take i all ++ id ∷ []) score) (sym all_moved)
    (Settled-more before mid now (take i all) id score moves h (new_id all i ascend within) (subst (SetsValue mid now id) told sets)))
