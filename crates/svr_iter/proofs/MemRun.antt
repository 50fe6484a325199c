-- Taking the ids of one key from pairs in memory.
use Rattle.std.proofs.Common.{◌≡◌, ℕ, zero, suc, ◌+◌, ◌<◌, ◌≤◌, ◌^◌, ◌==◌, Bool, true, false, cond, List, [], ◌∷◌, ◌++◌, drop, length}
use Rattle.std.proofs.Common.{get_or, Option, Some, refl, ap, sym, subst, ◌∙◌, arith, add-one}
use Rattle.std.specs.List.{list_all}
use Rattle.std.specs.Option.{IsSome}
use Rattle.std.proofs.lemmas.List.{append_assoc}
use Rattle.svr_postpage.specs.Pairs.{are_in_order, is_in_range}
use Rattle.svr_postpage.specs.declared.pair.Pair.{Pair}
use Rattle.svr_listing.specs.Groups.{first_key}
use Rattle.svr_listing.specs.declared.group.Group.{Group}
use Rattle.svr_iter.specs.Marks.{every}
use Rattle.svr_iter.specs.MemPairs.{grouped, grouped-lawful, with_pair}
use Rattle.svr_iter.specs.Taking.{TakesGroup}
use Rattle.svr_iter.specs.Truths.{and_left, and_right, eq_self, lt_from}
use Rattle.svr_iter.proofs.MemTaking.{first_of, takes_group}

-- the first group, of which these ids were taken so far
abbrev pub front : ℕ → List ℕ → List Group → List Group
front key ids [] = record { key = key; ids = ids } ∷ []
front key ids (g ∷ gs) = cond (g.key == key) (record { key = key; ids = ids ++ g.ids } ∷ gs) (record { key = key; ids = ids } ∷ g ∷ gs)

first_with : (p : Pair) (gs : List Group) → (ids : List ℕ) × (rest : List Group) ×
    (with_pair p gs ≡ record { key = p.key; ids = ids } ∷ rest)
first_with p [] = (p.id ∷ [], [], refl)
first_with p (g ∷ gs) = one (g.key == p.key)
  where
    one : (b : Bool) → (ids : List ℕ) × (rest : List Group) ×
        (cond b (record { key = p.key; ids = p.id ∷ g.ids } ∷ gs) (record { key = p.key; ids = p.id ∷ [] } ∷ g ∷ gs)
        ≡ record { key = p.key; ids = ids } ∷ rest)
    one true = (p.id ∷ g.ids, gs, refl)
    one false = (p.id ∷ [], g ∷ gs, refl)

pub drop_pair : (ps : List Pair) (i : ℕ) (d : Pair) → i < length ps → drop i ps ≡ get_or ps i d ∷ drop (i + 1) ps
drop_pair [] i d lt = absurd (omega arith)
drop_pair (p ∷ ps) zero d lt = refl
drop_pair (p ∷ ps) (suc i) d lt = rw add-one (rw add-one at (drop_pair ps i d (omega arith)))

pub drop_pairs : (ps : List Pair) (i : ℕ) → length ps ≤ i → drop i ps ≡ []
drop_pairs [] zero le = refl
drop_pairs [] (suc i) le = refl
drop_pairs (p ∷ ps) zero le = absurd (omega arith)
drop_pairs (p ∷ ps) (suc i) le = drop_pairs ps i (omega arith)

-- nothing is taken yet
pub front-start : (p : Pair) (ps : List Pair) → front p.key [] (grouped (p ∷ ps)) ≡ grouped (p ∷ ps)
front-start p ps =
    let f = first_with p (grouped ps) in
    rw f.2 (rw (eq_self p.key) refl)

-- one more id
pub front-more : (p : Pair) (ps : List Pair) (ids : List ℕ)
    → front p.key (ids ++ p.id ∷ []) (grouped ps) ≡ front p.key ids (grouped (p ∷ ps))
front-more p ps ids = cases (grouped ps)
  where
    cases : (gs : List Group) → front p.key (ids ++ p.id ∷ []) gs ≡ front p.key ids (with_pair p gs)
    cases [] = rw (eq_self p.key) refl
    cases (g ∷ gs) = one (g.key == p.key)
      where
        one : (b : Bool) → cond b (record { key = p.key; ids = (ids ++ p.id ∷ []) ++ g.ids } ∷ gs)
            (record { key = p.key; ids = ids ++ p.id ∷ [] } ∷ g ∷ gs)
            ≡ front p.key ids (cond b (record { key = p.key; ids = p.id ∷ g.ids } ∷ gs)
            (record { key = p.key; ids = p.id ∷ [] } ∷ g ∷ gs))
        one true = rw (eq_self p.key) (ap (λ (l : List ℕ). record { key = p.key; ids = l } ∷ gs) (append_assoc ids (p.id ∷ []) g.ids))
        one false = rw (eq_self p.key) refl

-- the next pair has another key
pub front-end : (key : ℕ) (p : Pair) (ps : List Pair) (ids : List ℕ) → (p.key == key) ≡ false
    → front key ids (grouped (p ∷ ps)) ≡ record { key = key; ids = ids } ∷ grouped (p ∷ ps)
front-end key p ps ids e =
    let f = first_with p (grouped ps) in
    rw f.2 (rw e refl)

pub front-step : (ps : List Pair) (i key : ℕ) (d : Pair) (ids : List ℕ) (all : List Group) → i < length ps → (get_or ps i d).key ≡ key
    → front key ids (grouped (drop i ps)) ≡ all
    → front key (ids ++ (get_or ps i d).id ∷ []) (grouped (drop (i + 1) ps)) ≡ all
front-step ps i key d ids all lt e so =
    let p : Pair = get_or ps i d in
    subst (λ (k : ℕ). front k (ids ++ p.id ∷ []) (grouped (drop (i + 1) ps)) ≡ front k ids (grouped (p ∷ drop (i + 1) ps))) e
    (front-more p (drop (i + 1) ps) ids)
    ∙ ap (λ (l : List Pair). front key ids (grouped l)) (sym (drop_pair ps i d lt)) ∙ so

pub pairs-fit : (ps : List Pair) (i : ℕ) (d : Pair) → list_all is_in_range ps ≡ true → i < length ps → (get_or ps i d).key < 2 ^ 48
pairs-fit [] i d fit lt = absurd (omega arith)
pairs-fit (p ∷ ps) zero d fit lt = lt_from p.key (2 ^ 48) (and_left _ _ (and_left _ _ fit))
pairs-fit (p ∷ ps) (suc i) d fit lt = pairs-fit ps i d (and_right _ _ fit) (omega arith)

pub first-key : (ps : List Pair) (i : ℕ) (d : Pair) → i < length ps → first_key (grouped (drop i ps)) ≡ Some (get_or ps i d).key
first-key ps i d lt =
    ap (λ (l : List Pair). first_key (grouped l)) (drop_pair ps i d lt)
    ∙ ap first_key (first_with (get_or ps i d) (grouped (drop (i + 1) ps))).2

pub pairs-left : (ps : List Pair) (i : ℕ) → IsSome (first_key (grouped (drop i ps))) → i < length ps
pairs-left [] zero some = absurd (cc)
pairs-left [] (suc i) some = absurd (cc)
pairs-left (p ∷ ps) zero some = omega arith
pairs-left (p ∷ ps) (suc i) some = let r = pairs-left ps i some in omega arith

-- what taking a run of pairs does to their groups
pub takes_run : (told : Option (List ℕ)) (ps : List Pair) (at end key : ℕ) (ids : List ℕ) → list_all is_in_range ps ≡ true
    → are_in_order ps ≡ true
    → grouped (drop at ps) ≡ record { key = key; ids = ids } ∷ grouped (drop end ps)
    → TakesGroup (λ groups _. groups) first_key (λ _. every) (λ _ _. []) told (grouped (drop at ps)) (grouped (drop end ps)) ids
takes_run told ps at end key ids fit order e =
    takes_group every told (grouped (drop at ps)) (grouped (drop end ps)) ids (grouped-lawful at ps fit order)
    (e ∙ ap (λ (k : ℕ). record { key = k; ids = ids } ∷ grouped (drop end ps))
    (sym (first_of (grouped (drop at ps)) (grouped (drop end ps)) (record { key = key; ids = ids }) e)))
