-- The pairs of pages as a listing has them.
use Rattle.std.proofs.Common.{◌≡◌, ◌<◌, ◌≤◌, ◌==◌, ◌&&◌, ◌||◌, ℕ, List, [], ◌∷◌, ◌++◌, Bool, true, false, cond, map, Some, refl, sym, ap, ap₂, ◌∙◌, arith}
use Rattle.std.specs.List.{AllByRecursion}
use Rattle.std.proofs.lemmas.Bool.Decides.{nat_tests}
use Rattle.std.proofs.lemmas.List.{append-nil}
use Rattle.svr_iter.specs.MemPairs.{IsPaged, before_low, grouped, grouped-lawful, with_pair}
use Rattle.svr_iter.specs.Truths.{eq_from, eq_less, eq_true, lt_false, lt_true}
use Rattle.svr_listing.specs.Groups.{Descends, first_key}
use Rattle.svr_listing.specs.Joined.{ids_at, is_in}
use Rattle.svr_listing.specs.Listing.{descending, has_pair, pairs_by, with_key}
use Rattle.svr_listing.specs.declared.group.Group.{Group}
use Rattle.svr_listing.specs.declared.pages.Page.{Page}
use Rattle.svr_postpage.specs.declared.page_ref.PageRef.{PageRef}
use Rattle.svr_postpage.specs.declared.pair.Pair.{Pair}
use Rattle.svr_long.specs.Cursor.{kept, pairs_from}
use Rattle.svr_long.specs.CursorLaws.{first_key-grouped}
use Rattle.svr_long.specs.PagedLaws.{order-to, range-to}

kept-last : (pairs : List Pair) → kept [] pairs ≡ pairs
kept-last [] = refl
kept-last (pair ∷ pairs) = ap (λ (ps : List Pair). pair ∷ ps) (kept-last pairs)

-- the pairs that a cursor goes over are those that the posted pages hold
pub pairs_from-posted : (read : PageRef → List Pair) (pages : List Page) → pairs_from read (map (λ page. page.head) pages) ≡ pairs_by read pages
pairs_from-posted read [] = refl
pairs_from-posted read (page ∷ []) = append-nil (kept [] (read page.head)) ∙ kept-last (read page.head)
pairs_from-posted read (page ∷ next ∷ pages) =
    ap (λ (ps : List Pair). kept (next.head ∷ map (λ (p : Page). p.head) pages) (read page.head) ++ ps) (pairs_from-posted read (next ∷ pages))

-- ---- their groups have the keys and the ids that the pairs have

first_low : (p : Pair) (ps : List Pair) → IsPaged (p ∷ ps) → (g : Group) (gs : List Group) → grouped ps ≡ g ∷ gs → g.key ≤ p.key
first_low p [] h g gs e = absurd (cc)
first_low p (q ∷ ps) h g gs e =
    let same : Some g.key ≡ Some q.key = sym (ap first_key e) ∙ first_key-grouped (q ∷ ps) in
    let key : g.key ≡ q.key = cc in
    let low : q.key ≤ p.key = before_low p q h.1.0.0 in
    omega (arith, key, low)

keys_with : (p : Pair) (gs : List Group) → ((g : Group) (rest : List Group) → gs ≡ g ∷ rest → g.key ≤ p.key)
    → map (λ (g : Group). g.key) (with_pair p gs) ≡ with_key p.key (map (λ (g : Group). g.key) gs)
keys_with p [] low = refl
keys_with p (g ∷ gs) low = by (g.key == p.key) refl
  where
    by : (b : Bool) → (g.key == p.key) ≡ b
        → map (λ (x : Group). x.key) (cond b (record { key = p.key; ids = p.id ∷ g.ids } ∷ gs) (record { key = p.key; ids = p.id ∷ [] } ∷ g ∷ gs))
        ≡ with_key p.key (g.key ∷ map (λ (x : Group). x.key) gs)
    by true e =
        let same : g.key ≡ p.key = eq_from g.key p.key e in
        rw (lt_false g.key p.key (omega (arith, same)), eq_true p.key g.key (sym same))
        (ap (λ (k : ℕ). k ∷ map (λ (x : Group). x.key) gs) (sym same))
    by false e =
        let le : g.key ≤ p.key = low g gs refl in
        let lt : g.key < p.key = grind (arith, nat_tests, le) in
        rw (lt_true g.key p.key lt) refl

pub keys-grouped : (ps : List Pair) → IsPaged ps → map (λ (g : Group). g.key) (grouped ps) ≡ descending (map (λ (p : Pair). p.key) ps)
keys-grouped [] h = refl
keys-grouped (p ∷ ps) h = keys_with p (grouped ps) (first_low p ps h) ∙ ap (with_key p.key) (keys-grouped ps h.1.1)

none_at : (key : ℕ) (gs : List Group) → AllByRecursion (λ (g : Group). g.key < key) gs → ids_at key gs ≡ []
none_at key [] all = refl
none_at key (g ∷ gs) all = ap (λ (b : Bool). cond b g.ids (ids_at key gs)) (eq_less g.key key all.0) ∙ none_at key gs all.1

lower_all : (bound key : ℕ) (gs : List Group) → bound < key → AllByRecursion (λ (g : Group). g.key < bound) gs
    → AllByRecursion (λ (g : Group). g.key < key) gs
lower_all bound key [] lt all = tt
lower_all bound key (g ∷ gs) lt all = (let l = all.0 in omega (arith, l, lt), lower_all bound key gs lt all.1)

turn : (a b : ℕ) → (a == b) ≡ (b == a)
turn a b = grind (arith, nat_tests)

one_more_id : (same here : Bool) (others : Bool) → cond same (here || others) others ≡ ((same && here) || others)
one_more_id true here others = refl
one_more_id false here others = refl

in_cond : (id : ℕ) (b : Bool) (xs ys : List ℕ) → is_in id (cond b xs ys) ≡ cond b (is_in id xs) (is_in id ys)
in_cond id true xs ys = refl
in_cond id false xs ys = refl

ids_with : (key id : ℕ) (p : Pair) (gs : List Group) → Descends gs → ((g : Group) (rest : List Group) → gs ≡ g ∷ rest → g.key ≤ p.key)
    → is_in id (ids_at key (with_pair p gs)) ≡ (((p.key == key) && (p.id == id)) || is_in id (ids_at key gs))
ids_with key id p [] down low = in_cond id (p.key == key) (p.id ∷ []) [] ∙ one_more_id (p.key == key) (p.id == id) false
ids_with key id p (g ∷ gs) down low = by (g.key == p.key) refl
  where
    by : (b : Bool) → (g.key == p.key) ≡ b
        → is_in id (ids_at key (cond b (record { key = p.key; ids = p.id ∷ g.ids } ∷ gs) (record { key = p.key; ids = p.id ∷ [] } ∷ g ∷ gs)))
        ≡ (((p.key == key) && (p.id == id)) || is_in id (ids_at key (g ∷ gs)))
    by true e =
        let same : g.key ≡ p.key = eq_from g.key p.key e in
        with (p.key == key)
        ∙ ap (λ (k : ℕ). ((p.key == key) && (p.id == id)) || is_in id (cond (k == key) g.ids (ids_at key gs))) (sym same)
      where
        with : (t : Bool) → is_in id (cond t (p.id ∷ g.ids) (ids_at key gs)) ≡ ((t && (p.id == id)) || is_in id (cond t g.ids (ids_at key gs)))
        with true = refl
        with false = refl
    by false e = with (p.key == key) refl
      where
        with : (t : Bool) → (p.key == key) ≡ t
            → is_in id (cond t (p.id ∷ []) (ids_at key (g ∷ gs))) ≡ ((t && (p.id == id)) || is_in id (ids_at key (g ∷ gs)))
        with true f =
            let same : p.key ≡ key = eq_from p.key key f in
            let le : g.key ≤ p.key = low g gs refl in
            let lt : g.key < p.key = grind (arith, nat_tests, le) in
            let here : g.key < key = omega (arith, same, lt) in
            ap (λ (ids : List ℕ). (p.id == id) || is_in id ids) (sym (none_at key (g ∷ gs) (here, lower_all g.key key gs here down.0)))
        with false f = refl

pub ids-grouped : (key id : ℕ) (ps : List Pair) → IsPaged ps → is_in id (ids_at key (grouped ps)) ≡ has_pair (record { key = key; id = id }) ps
ids-grouped key id [] h = refl
ids-grouped key id (p ∷ ps) h =
    let down : Descends (grouped ps) = (grouped-lawful 0 ps (range-to ps h.1.1) (order-to ps h.1.1)).descend in
    ids_with key id p (grouped ps) down (first_low p ps h)
    ∙ ap₂ (λ (a b : Bool). (a && b) || is_in id (ids_at key (grouped ps))) (turn p.key key) (turn p.id id)
    ∙ ap (λ (b : Bool). ((key == p.key) && (id == p.id)) || b) (ids-grouped key id ps h.1.1)
