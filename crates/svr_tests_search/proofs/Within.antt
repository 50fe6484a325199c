-- Scores within bounds, from what was seen of each group.
use Rattle.std.proofs.Common.{◌≡◌, ℕ, suc, ◌-◌, ◌^◌, ◌<◌, ◌≤◌, ◌==◌, ◌&&◌, ◌||◌, Bool, true, false, List, []}
use Rattle.std.proofs.Common.{◌∷◌, length, get_or, slice_index, Option, Some, subst, refl, ap, ◌∙◌, arith, cond, find, min, option_map}
use Rattle.std.proofs.Math.Nat.{min-le_left}
use Rattle.svr_num.specs.declared.hit.Hit.{Hit}
use Rattle.svr_num.specs.declared.list_key.ListKey.{ListKey}
use Rattle.std.specs.List.{AllByRecursion, list_any}
use Rattle.std.specs.Option.{ForSome}
use Rattle.svr_listing.specs.declared.group.Group.{Group}
use Rattle.svr_iter.specs.Mem.{holds}
use Rattle.svr_iter.specs.Truths.{and_left, and_right, eq_from}
use Rattle.svr_tests_search.specs.Bounded.{ScoresWithin, score_in}

pub all_from : (P : ℕ → Type 0) (ids : List ℕ) → ((k : ℕ) → k < length ids → P (slice_index ids k)) → AllByRecursion P ids
all_from P [] each = tt
all_from P (x ∷ xs) each = (each 0 (omega arith), all_from P xs (λ k lt. each (suc k) (omega arith)))

at_member : (P : ℕ → Type 0) (id : ℕ) (xs : List ℕ) → AllByRecursion P xs → list_any (λ other. other == id) xs ≡ true → P id
at_member P id [] all e = absurd (cc)
at_member P id (x ∷ xs) all e = one (x == id) refl e (at_member P id xs all.1)
  where
    one : (b : Bool) → (x == id) ≡ b → (b || list_any (λ other. other == id) xs) ≡ true
        → (list_any (λ other. other == id) xs ≡ true → P id) → P id
    one true same h rest = subst P (eq_from x id same) all.0
    one false same h rest = rest h

pub within_all : (score : ℕ → Option ℕ) (bound : ℕ → ℕ) (groups : List Group)
    → ((k : ℕ) (d : Group) → k < length groups → ScoresWithin score (bound (get_or groups k d).key) (get_or groups k d).ids)
    → (key id : ℕ) → holds groups key id ≡ true → ForSome (score id) (λ s. s ≤ bound key)
within_all score bound [] each key id e = absurd (cc)
within_all score bound (g ∷ gs) each key id e =
    one ((g.key == key) && list_any (λ other. other == id) g.ids) refl e
    (within_all score bound gs (λ k d lt. each (suc k) d (omega arith)) key id)
  where
    here : ((g.key == key) && list_any (λ other. other == id) g.ids) ≡ true → ForSome (score id) (λ s. s ≤ bound key)
    here f = subst (λ (k : ℕ). ForSome (score id) (λ s. s ≤ bound k)) (eq_from g.key key (and_left _ _ f))
        (at_member (λ i. ForSome (score i) (λ s. s ≤ bound g.key)) id g.ids (each 0 g (omega arith)) (and_right (g.key == key) _ f))

    one : (b : Bool) → ((g.key == key) && list_any (λ other. other == id) g.ids) ≡ b → (b || holds gs key id) ≡ true
        → (holds gs key id ≡ true → ForSome (score id) (λ s. s ≤ bound key)) → ForSome (score id) (λ s. s ≤ bound key)
    one true f h rest = here f
    one false f h rest = rest h

-- ---- scores of rows, each of which is within the bound of its entry

one_within : (bound : ℕ → ℕ) (entry_at : ℕ → Option ListKey) (row : Hit) (others : Option Hit) (id : ℕ) (entry : ListKey)
    → entry_at id ≡ Some entry → ForSome (entry_at row.id) (λ e. row.score ≤ bound e.key)
    → ((s : ℕ) → option_map (λ (hit : Hit). min hit.score (2 ^ 48 - 1)) others ≡ Some s → s ≤ bound entry.key)
    → (b : Bool) → (row.id == id) ≡ b
    → (s : ℕ) → option_map (λ (hit : Hit). min hit.score (2 ^ 48 - 1)) (cond b (Some row) others) ≡ Some s → s ≤ bound entry.key
one_within bound entry_at row others id entry there here rest true same s is =
    let le : row.score ≤ bound entry.key = here entry (ap entry_at (eq_from row.id id same) ∙ there) in
    let this : min row.score (2 ^ 48 - 1) ≡ s = cc in
    omega (arith, min-le_left row.score (2 ^ 48 - 1), this, le)
one_within bound entry_at row others id entry there here rest false same s is = rest s is

pub rows_within : (bound : ℕ → ℕ) (entry_at : ℕ → Option ListKey) (rows : List Hit)
    → ((k : ℕ) (d : Hit) → k < length rows → ForSome (entry_at (get_or rows k d).id) (λ e. (get_or rows k d).score ≤ bound e.key))
    → (id : ℕ) (entry : ListKey) → entry_at id ≡ Some entry → (s : ℕ) → score_in rows id ≡ Some s → s ≤ bound entry.key
rows_within bound entry_at [] each id entry there s is = absurd (cc)
rows_within bound entry_at (row ∷ rows) each id entry there s is =
    one_within bound entry_at row (find (λ hit. hit.id == id) rows) id entry there (each 0 row (omega arith))
    (rows_within bound entry_at rows (λ k d lt. each (suc k) d (omega (arith, lt))) id entry there) (row.id == id) refl s is
