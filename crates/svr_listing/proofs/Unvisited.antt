-- What a search answers does not depend on groups that it does not visit.
use Rattle.std.proofs.Common.{◌≡◌, ℕ, zero, suc, ◌<◌, ◌≤◌, Bool, true, false, cond, List, [], ◌∷◌, ◌++◌, length, take, drop}
use Rattle.std.proofs.Common.{Option, Some, None, refl, ap, ap₂, sym, subst, ◌∙◌, arith, eqb-true, nat_le, leb-true, ltb-true, ◌==◌, ◌&&◌, ◌||◌, map}
use Rattle.std.proofs.lemmas.Bool.{or_right}
use Rattle.std.proofs.lemmas.List.{length-take-le, take-append-drop}
use Rattle.std.proofs.lemmas.Bool.Decides.{nat_tests}
use Rattle.std.specs.List.{All, AllByRecursion, filter, list_any, slice_get}
use Rattle.std.specs.Option.{ForSome, option_map_or}
use Rattle.svr_num.specs.declared.hit.Hit.{Hit}
use Rattle.svr_num.specs.Hits.{best_hits, kth_score}
use Rattle.svr_listing.specs.Groups.{Descends, Group, found, hits_of, ids_in}
use Rattle.svr_listing.specs.Listing.{Listed, groups_by, matching_at}
use Rattle.svr_listing.specs.Visits.{IsAnswer, is_above, least, stops}
use Rattle.svr_listing.proofs.Answering.{Falls}
use Rattle.svr_listing.proofs.Finding.{weaker}
use Rattle.svr_listing.proofs.Fronting.{itself}
use Rattle.svr_listing.proofs.Visiting.{AreBounded, IsAllowed, SoFar, SoFar-none, SoFar-settled_by, stops-at}

-- ---- the least number that passes a test

pub least-earlier : (test : ℕ → Bool) (limit j : ℕ) → j < least test limit → test j ≡ false
unfolding least
least-earlier test zero j lt = absurd (omega (arith, lt))
least-earlier test (suc limit) j lt = by (test 0) refl j lt (least-earlier (λ m. test (suc m)) limit)
  where
    by : (b : Bool) → test 0 ≡ b → (j : ℕ) → j < cond b 0 (suc (least (λ m. test (suc m)) limit))
        → ((i : ℕ) → i < least (λ m. test (suc m)) limit → test (suc i) ≡ false) → test j ≡ false
    by true e j lt more = absurd (omega (arith, lt))
    by false e zero lt more = e
    by false e (suc i) lt more = more i (omega (arith, lt))

pub least-there : (test : ℕ → Bool) (limit : ℕ) → least test limit < limit → test (least test limit) ≡ true
unfolding least
least-there test zero lt = absurd (omega (arith, lt))
least-there test (suc limit) lt = by (test 0) refl lt (least-there (λ m. test (suc m)) limit)
  where
    by : (b : Bool) → test 0 ≡ b → cond b 0 (suc (least (λ m. test (suc m)) limit)) < suc limit
        → (least (λ m. test (suc m)) limit < limit → test (suc (least (λ m. test (suc m)) limit)) ≡ true)
        → test (cond b 0 (suc (least (λ m. test (suc m)) limit))) ≡ true
    by true e lt more = e
    by false e lt more = more (omega (arith, lt))

-- ---- the front of a list

get_front : (xs ys zs : List Group) (j : ℕ) → j < length xs → slice_get (xs ++ ys) j ≡ slice_get (xs ++ zs) j
get_front [] ys zs j lt = absurd (omega (arith, lt))
get_front (x ∷ xs) ys zs zero lt = refl
get_front (x ∷ xs) ys zs (suc j) lt = get_front xs ys zs j (omega (arith, lt))

take_front : (xs ys zs : List Group) (j : ℕ) → j ≤ length xs → take j (xs ++ ys) ≡ take j (xs ++ zs)
take_front xs ys zs zero le = refl
take_front [] ys zs (suc j) le = absurd (omega (arith, le))
take_front (x ∷ xs) ys zs (suc j) le = ap (λ (l : List Group). x ∷ l) (take_front xs ys zs j (omega (arith, le)))

drop_front : (xs ys : List Group) → drop (length xs) (xs ++ ys) ≡ ys
drop_front [] ys = refl
drop_front (x ∷ xs) ys = drop_front xs ys

get_behind : (xs ys : List Group) → slice_get (xs ++ ys) (length xs) ≡ slice_get ys 0
get_behind [] ys = refl
get_behind (x ∷ xs) ys = get_behind xs ys

length_front : (xs ys : List Group) → length xs ≤ length (xs ++ ys)
length_front [] ys = omega arith
length_front (x ∷ xs) ys = let more = length_front xs ys in omega (arith, more)

length_behind : (xs ys : List Group) (y : Group) → length xs < length (xs ++ y ∷ ys)
length_behind [] ys y = omega arith
length_behind (x ∷ xs) ys y = let more = length_behind xs ys y in omega (arith, more)

-- ---- other groups behind those that were visited

-- the first of other groups has no greater key than the first of these, if there is one at all
abbrev pub NoHigher : List Group → List Group → Type 0
NoHigher groups [] = Unit {0}
NoHigher [] (other ∷ others) = ⊥
NoHigher (group ∷ groups) (other ∷ others) = other.key ≤ group.key

higher_bound : (worst : Option ℕ) (low high : ℕ) → low ≤ high → is_above worst high ≡ true → is_above worst low ≡ true
higher_bound None low high le e = absurd (cc)
higher_bound (Some w) low high le e = let lt : high < w = ltb-true high w e in grind (arith, nat_tests, le, lt)

module _ (k : ℕ) (may : ℕ → ℕ → Bool) (bound : ℕ → ℕ) (score : ℕ → Option ℕ) (some : 0 < k) (bounded : AreBounded may bound score)
    (visited rest others : List Group) (down : Descends rest) (are : AllByRecursion (IsAllowed may) rest)
    (down_others : Descends others) (are_others : AllByRecursion (IsAllowed may) others) (no_higher : NoHigher rest others)
    (hits : List Hit) (answer : IsAnswer k bound score (visited ++ rest) hits (length visited)) where
  abbrev first_hits : List Hit
  first_hits = best_hits k (found score (visited ++ rest) (length visited))

  not_yet : (j : ℕ) → j < length visited → stops k bound score (visited ++ rest) j ≡ false
  not_yet j lt =
      least-earlier (stops k bound score (visited ++ rest)) (length (visited ++ rest)) j
      (subst (λ (n : ℕ). j < n) answer.least lt)

  so_far : SoFar k bound score (visited ++ rest) (length visited) first_hits rest
  so_far = record {
    left_is = drop_front visited rest;
    best = refl;
    not_yet = not_yet;
    within = length_front visited rest;
  }

  same_found : (j : ℕ) → j ≤ length visited → found score (visited ++ rest) j ≡ found score (visited ++ others) j
  same_found j le = ap (λ (gs : List Group). hits_of score (ids_in gs)) (take_front visited rest others j le)

  so_far_others : SoFar k bound score (visited ++ others) (length visited) first_hits others
  so_far_others = record {
    left_is = drop_front visited others;
    best = ap (best_hits k) (same_found (length visited) (omega arith));
    not_yet = λ j lt.
        sym (ap₂ (λ (hs : List Hit) (o : Option Group). option_map_or
        (λ (next : Group). is_above (kth_score k hs) (bound next.key)) o true) (same_found j (omega (arith, lt)))
        (get_front visited rest others j lt)) ∙ not_yet j lt;
    within = length_front visited others;
  }

  -- where groups are left the best so far are above the bound of the next one
  above : (group : Group) (behind : List Group) → rest ≡ group ∷ behind → is_above (kth_score k first_hits) (bound group.key) ≡ true
  above group behind e =
      sym (stops-at k bound score (visited ++ rest) (length visited) first_hits group
      (get_behind visited rest ∙ ap (λ (gs : List Group). slice_get gs 0) e) refl)
      ∙ subst (λ (n : ℕ). stops k bound score (visited ++ rest) n ≡ true) (sym answer.least)
      (least-there (stops k bound score (visited ++ rest)) (length (visited ++ rest))
      (subst (λ (n : ℕ). n < length (visited ++ rest)) answer.least
      (subst (λ (gs : List Group). length visited < length (visited ++ gs)) (sym e) (length_behind visited behind group))))

  answer_here : IsAnswer k bound score (visited ++ rest) first_hits (length visited)
  answer_here = by rest refl
    where
      by : (gs : List Group) → rest ≡ gs → IsAnswer k bound score (visited ++ rest) first_hits (length visited)
      by [] e =
          SoFar-none k bound score (visited ++ rest) (length visited) first_hits
          (subst (SoFar k bound score (visited ++ rest) (length visited) first_hits) e so_far)
      by (group ∷ behind) e =
          SoFar-settled_by k may bound score (visited ++ rest) (length visited) first_hits group behind some bounded
          (subst Descends e down) (subst (AllByRecursion (IsAllowed may)) e are)
          (subst (SoFar k bound score (visited ++ rest) (length visited) first_hits) e so_far) (above group behind e)

  same_hits : first_hits ≡ hits
  same_hits = answer_here.best ∙ sym answer.best

  pub answer-others : IsAnswer k bound score (visited ++ others) hits (length visited)
  answer-others = subst (λ (hs : List Hit). IsAnswer k bound score (visited ++ others) hs (length visited)) same_hits (by others refl rest refl)
    where
      by : (gs : List Group) → others ≡ gs → (hs : List Group) → rest ≡ hs
          → IsAnswer k bound score (visited ++ others) first_hits (length visited)
      by [] e hs f =
          SoFar-none k bound score (visited ++ others) (length visited) first_hits
          (subst (SoFar k bound score (visited ++ others) (length visited) first_hits) e so_far_others)
      by (other ∷ behind) e [] f = absurd (none f (subst (NoHigher rest) e no_higher))
        where
          none : rest ≡ [] → NoHigher rest (other ∷ behind) → ⊥
          none same higher = subst (λ (gs : List Group). NoHigher gs (other ∷ behind)) same higher
      by (other ∷ behind) e (group ∷ more) f =
          let le : NoHigher (group ∷ more) (other ∷ behind) =
          subst (λ (gs : List Group). NoHigher gs (other ∷ behind)) f (subst (NoHigher rest) e no_higher) in
          SoFar-settled_by k may bound score (visited ++ others) (length visited) first_hits other behind some bounded
          (subst Descends e down_others) (subst (AllByRecursion (IsAllowed may)) e are_others)
          (subst (SoFar k bound score (visited ++ others) (length visited) first_hits) e so_far_others)
          (higher_bound (kth_score k first_hits) (bound other.key) (bound group.key) (bounded.rise other.key group.key le) (above group more f))

-- ---- keys that are the same in front

all_in : (P : ℕ → Type 0) (n : ℕ) (xs : List ℕ) → AllByRecursion P xs → list_any (λ x. x == n) xs ≡ true → P n
all_in P n [] all e = absurd (cc)
all_in P n (x ∷ xs) all e = one (x == n) refl e (all_in P n xs all.1)
  where
    one : (b : Bool) → (x == n) ≡ b → (b || list_any (λ x. x == n) xs) ≡ true → (list_any (λ x. x == n) xs ≡ true → P n) → P n
    one true f e more = subst P (eqb-true x n f) all.0
    one false f e more = more e

in_le : (n y : ℕ) (ys : List ℕ) → AllByRecursion (λ later. later < y) ys → list_any (λ x. x == n) (y ∷ ys) ≡ true → n ≤ y
in_le n y ys all there = by (y == n) refl there
  where
    by : (b : Bool) → (y == n) ≡ b → (b || list_any (λ x. x == n) ys) ≡ true → n ≤ y
    by true e there = let same : y ≡ n = eqb-true y n e in omega (arith, same)
    by false e there = let lt = all_in (λ x. x < y) n ys all there in omega (arith, lt)

in_rest : (n y : ℕ) (ys : List ℕ) → n < y → list_any (λ x. x == n) (y ∷ ys) ≡ true → list_any (λ x. x == n) ys ≡ true
in_rest n y ys lt there =
    let differ : (y == n) ≡ false = grind (arith, nat_tests, lt) in
    sym (ap (λ (b : Bool). b || list_any (λ x. x == n) ys) differ) ∙ there

-- where descending numbers are among others, and have the front of these, they begin with it; what follows is among what follows there
pub record BeginsWith (front rest ks : List ℕ) : Type 0 where
  pub others : List ℕ
  pub is : ks ≡ front ++ others
  pub among : (n : ℕ) → list_any (λ x. x == n) others ≡ true → list_any (λ x. x == n) rest ≡ true

pub begins_with : (front rest ks : List ℕ) → Falls (front ++ rest) → Falls ks
    → ((n : ℕ) → list_any (λ x. x == n) ks ≡ true → list_any (λ x. x == n) (front ++ rest) ≡ true)
    → AllByRecursion (λ n. list_any (λ x. x == n) ks ≡ true) front → BeginsWith front rest ks
begins_with [] rest ks down falls among has = record { others = ks; is = refl; among = among }
begins_with (f ∷ fs) rest [] down falls among has = absurd (cc)
begins_with (f ∷ fs) rest (x ∷ xs) down falls among has =
    let low : x ≤ f = in_le x f (fs ++ rest) down.0 (among x (itself x xs)) in
    let high : f ≤ x = in_le f x xs falls.0 has.0 in
    let same : x ≡ f = omega (arith, low, high) in
    let more = begins_with fs rest xs down.1 falls.1
    (λ n there. in_rest n f (fs ++ rest) (below n there same) (among n (or_right (x == n) _ there)))
    (below_all fs (fronts fs rest down.0) has.1 same) in
    record {
      others = more.others;
      is = ap₂ (λ (y : ℕ) (ys : List ℕ). y ∷ ys) same more.is;
      among = more.among;
    }
  where
    below : (n : ℕ) → list_any (λ x. x == n) xs ≡ true → x ≡ f → n < f
    below n there same = subst (λ (y : ℕ). n < y) same (under n xs falls.0 there)
      where
        under : (n : ℕ) (ys : List ℕ) → AllByRecursion (λ later. later < x) ys → list_any (λ y. y == n) ys ≡ true → n < x
        under n [] all e = absurd (cc)
        under n (y ∷ ys) all e = one (y == n) refl e (under n ys all.1)
          where
            one : (b : Bool) → (y == n) ≡ b → (b || list_any (λ y. y == n) ys) ≡ true → (list_any (λ y. y == n) ys ≡ true → n < x) → n < x
            one true g e more = subst (λ (z : ℕ). z < x) (eqb-true y n g) all.0
            one false g e more = more e

    fronts : (ys zs : List ℕ) → AllByRecursion (λ later. later < f) (ys ++ zs) → AllByRecursion (λ later. later < f) ys
    fronts [] zs all = tt
    fronts (y ∷ ys) zs all = (all.0, fronts ys zs all.1)

    below_all : (ys : List ℕ) → AllByRecursion (λ later. later < f) ys → AllByRecursion (λ n. list_any (λ y. y == n) (x ∷ xs) ≡ true) ys
        → x ≡ f → AllByRecursion (λ n. list_any (λ y. y == n) xs ≡ true) ys
    below_all [] all has same = tt
    below_all (y ∷ ys) all has same =
        (in_rest y x xs (subst (λ (z : ℕ). y < z) (sym same) all.0) has.0, below_all ys all.1 has.1 same)

-- ---- a query by two readings of the pages, which differ where no visited page is

-- whether a key is among others
abbrev pub is_among : List ℕ → ℕ → Bool
is_among ks key = list_any (λ x. x == key) ks

matching-same : (docs : List Listed) (p q : Listed → Bool) (key : ℕ)
    → AllByRecursion (λ (d : Listed). (d.entry.key == key) ≡ true → p d ≡ q d) docs → matching_at docs p key ≡ matching_at docs q key
matching-same [] p q key same = refl
matching-same (d ∷ ds) p q key same = by (matching-same ds p q key same.1) (d.entry.key == key) refl
  where
    by : matching_at ds p key ≡ matching_at ds q key → (b : Bool) → (d.entry.key == key) ≡ b
        → map (λ (e : Listed). e.document.id) (cond (b && p d) (d ∷ filter (λ e. (e.entry.key == key) && p e) ds)
        (filter (λ e. (e.entry.key == key) && p e) ds))
        ≡ map (λ (e : Listed). e.document.id) (cond (b && q d) (d ∷ filter (λ e. (e.entry.key == key) && q e) ds)
        (filter (λ e. (e.entry.key == key) && q e) ds))
    by rest false e = rest
    by rest true e =
        ap (λ (c : Bool). map (λ (e : Listed). e.document.id) (cond c (d ∷ filter (λ e. (e.entry.key == key) && p e) ds)
        (filter (λ e. (e.entry.key == key) && p e) ds))) (same.0 e)
        ∙ one (q d)
      where
        one : (c : Bool) → map (λ (e : Listed). e.document.id) (cond c (d ∷ filter (λ e. (e.entry.key == key) && p e) ds)
            (filter (λ e. (e.entry.key == key) && p e) ds))
            ≡ map (λ (e : Listed). e.document.id) (cond c (d ∷ filter (λ e. (e.entry.key == key) && q e) ds)
            (filter (λ e. (e.entry.key == key) && q e) ds))
        one true = ap (λ (l : List ℕ). d.document.id ∷ l) rest
        one false = rest

groups-same : (docs : List Listed) (p q : Listed → Bool) (ks : List ℕ)
    → AllByRecursion (λ key. matching_at docs p key ≡ matching_at docs q key) ks → groups_by docs p ks ≡ groups_by docs q ks
groups-same docs p q [] same = refl
groups-same docs p q (k ∷ ks) same =
    ap₂ (λ (ids : List ℕ) (gs : List Group). record { key = k; ids = ids } ∷ gs) same.0 (groups-same docs p q ks same.1)

groups-append : (docs : List Listed) (p : Listed → Bool) (ks js : List ℕ)
    → groups_by docs p (ks ++ js) ≡ groups_by docs p ks ++ groups_by docs p js
groups-append docs p [] js = refl
groups-append docs p (k ∷ ks) js = ap (λ (gs : List Group). record { key = k; ids = matching_at docs p k } ∷ gs) (groups-append docs p ks js)

groups-down : (docs : List Listed) (p : Listed → Bool) (ks : List ℕ) → Falls ks → Descends (groups_by docs p ks)
groups-down docs p [] falls = tt
groups-down docs p (k ∷ ks) falls = (all ks falls.0, groups-down docs p ks falls.1)
  where
    all : (js : List ℕ) → AllByRecursion (λ later. later < k) js → AllByRecursion (λ (g : Group). g.key < k) (groups_by docs p js)
    all [] lt = tt
    all (j ∷ js) lt = (lt.0, all js lt.1)

-- a score within the bound of a key
abbrev pub is_within : (ℕ → ℕ) → (ℕ → Option ℕ) → ℕ → ℕ → Bool
is_within bound score key id = option_map_or (λ s. nat_le s (bound key)) (score id) true

within-bounded : (bound : ℕ → ℕ) (score : ℕ → Option ℕ) → ((key other : ℕ) → key ≤ other → bound key ≤ bound other)
    → AreBounded (is_within bound score) bound score
within-bounded bound score rise = record { scores = λ key id e. by key (score id) e; rise = rise }
  where
    by : (key : ℕ) (o : Option ℕ) → option_map_or (λ s. nat_le s (bound key)) o true ≡ true → ForSome o (λ s. s ≤ bound key)
    by key None e s at = absurd (cc)
    by key (Some x) e s at = let same : x ≡ s = cc in subst (λ (y : ℕ). y ≤ bound key) same (leb-true x (bound key) e)

all_front : (P : ℕ → Type 0) (x : ℕ) (xs : List ℕ) → P x → All P xs → All P (x ∷ xs)
all_front P x xs p all zero d lt = p
all_front P x xs p all (suc k) d lt = all k d (omega (arith, lt))

to_All : (P : ℕ → Type 0) (xs : List ℕ) → AllByRecursion P xs → All P xs
to_All P [] all = λ k d lt. absurd (omega (arith, lt))
to_All P (x ∷ xs) all = all_front P x xs all.0 (to_All P xs all.1)

groups-allowed : (bound : ℕ → ℕ) (score : ℕ → Option ℕ) (docs : List Listed) (p : Listed → Bool) (ks : List ℕ)
    → AllByRecursion (λ (d : Listed). is_within bound score d.entry.key d.document.id ≡ true) docs
    → AllByRecursion (IsAllowed (is_within bound score)) (groups_by docs p ks)
groups-allowed bound score docs p [] all = tt
groups-allowed bound score docs p (k ∷ ks) all =
    (to_All (λ id. is_within bound score k id ≡ true) (matching_at docs p k) (each docs all), groups-allowed bound score docs p ks all)
  where
    each : (ds : List Listed) → AllByRecursion (λ (d : Listed). is_within bound score d.entry.key d.document.id ≡ true) ds
        → AllByRecursion (λ id. is_within bound score k id ≡ true) (matching_at ds p k)
    each [] all = tt
    each (d ∷ ds) all = by (d.entry.key == k) refl (p d) (each ds all.1)
      where
        by : (b : Bool) → (d.entry.key == k) ≡ b → (c : Bool)
            → AllByRecursion (λ id. is_within bound score k id ≡ true) (matching_at ds p k)
            → AllByRecursion (λ id. is_within bound score k id ≡ true)
            (map (λ (e : Listed). e.document.id) (cond (b && c) (d ∷ filter (λ e. (e.entry.key == k) && p e) ds)
            (filter (λ e. (e.entry.key == k) && p e) ds)))
        by true e true rest =
            (subst (λ (key : ℕ). is_within bound score key d.document.id ≡ true) (eqb-true d.entry.key k e) all.0, rest)
        by true e false rest = rest
        by false e c rest = rest

least-within : (test : ℕ → Bool) (limit : ℕ) → least test limit ≤ limit
unfolding least
least-within test zero = omega arith
least-within test (suc limit) = by (test 0) (least-within (λ m. test (suc m)) limit)
  where
    by : (b : Bool) → least (λ m. test (suc m)) limit ≤ limit → cond b 0 (suc (least (λ m. test (suc m)) limit)) ≤ suc limit
    by true le = omega arith
    by false le = omega (arith, le)

groups-length : (docs : List Listed) (p : Listed → Bool) (ks : List ℕ) → length (groups_by docs p ks) ≡ length ks
groups-length docs p [] = refl
groups-length docs p (k ∷ ks) = ap suc (groups-length docs p ks)

falls-rest : (ks js : List ℕ) → Falls (ks ++ js) → Falls js
falls-rest [] js falls = falls
falls-rest (k ∷ ks) js falls = falls-rest ks js falls.1

no_higher : (docs : List Listed) (p q : Listed → Bool) (rest others : List ℕ) → Falls rest
    → ((n : ℕ) → is_among others n ≡ true → is_among rest n ≡ true) → NoHigher (groups_by docs p rest) (groups_by docs q others)
no_higher docs p q rest [] falls among = tt
no_higher docs p q [] (o ∷ os) falls among = let yes : false ≡ true = among o (itself o os) in absurd (cc)
no_higher docs p q (r ∷ rs) (o ∷ os) falls among = in_le o r rs falls.0 (among o (itself o os))

-- the keys of groups that are visited, where two tests agree on the documents
same-at : (docs : List Listed) (p q : Listed → Bool) (front all : List ℕ)
    → ((n : ℕ) → is_among front n ≡ true → is_among all n ≡ true)
    → AllByRecursion (λ (d : Listed). is_among all d.entry.key ≡ true → p d ≡ q d) docs
    → AllByRecursion (λ key. matching_at docs p key ≡ matching_at docs q key) front
same-at docs p q [] all among agree = tt
same-at docs p q (f ∷ fs) all among agree = (
  matching-same docs p q f (weaker _ _ docs (λ d h e.
      h (subst (λ (n : ℕ). is_among all n ≡ true) (sym (eqb-true d.entry.key f e)) (among f (itself f fs)))) agree),
  same-at docs p q fs all (λ n there. among n (or_right (f == n) _ there)) agree,
)

-- what is answered by one reading of pages is answered by another which has no keys that the first has not, has the visited ones, and
-- tells of documents at these the same
pub answer-told : (k : ℕ) (bound : ℕ → ℕ) (score : ℕ → Option ℕ) (docs : List Listed) (p q : Listed → Bool) (ks js : List ℕ) (hits : List Hit)
    (visits : ℕ) → 0 < k → ((key other : ℕ) → key ≤ other → bound key ≤ bound other)
    → AllByRecursion (λ (d : Listed). is_within bound score d.entry.key d.document.id ≡ true) docs → Falls ks → Falls js
    → ((n : ℕ) → is_among js n ≡ true → is_among ks n ≡ true)
    → AllByRecursion (λ n. is_among js n ≡ true) (take visits ks)
    → AllByRecursion (λ (d : Listed). is_among (take visits ks) d.entry.key ≡ true → p d ≡ q d) docs
    → IsAnswer k bound score (groups_by docs p ks) hits visits → IsAnswer k bound score (groups_by docs q js) hits visits
answer-told k bound score docs p q ks js hits visits some rise within falls falls' among has agree answer =
    let front = take visits ks in
    let rest = drop visits ks in
    let parts : ks ≡ front ++ rest = sym (take-append-drop visits ks) in
    let begins = begins_with front rest js (subst Falls parts falls) falls'
    (λ n there. subst (λ (l : List ℕ). is_among l n ≡ true) parts (among n there)) has in
    let few : visits ≤ length ks = subst (λ (n : ℕ). n ≤ length ks) (sym answer.least)
    (subst (λ (m : ℕ). least (stops k bound score (groups_by docs p ks)) (length (groups_by docs p ks)) ≤ m) (groups-length docs p ks)
    (least-within (stops k bound score (groups_by docs p ks)) (length (groups_by docs p ks)))) in
    let count : length (groups_by docs q front) ≡ visits = groups-length docs q front ∙ length-take-le visits ks few in
    let same : groups_by docs p front ≡ groups_by docs q front = groups-same docs p q front (same-at docs p q front front (λ n e. e) agree) in
    let here : groups_by docs p ks ≡ groups_by docs q front ++ groups_by docs p rest =
    ap (groups_by docs p) parts ∙ groups-append docs p front rest ∙ ap (λ (gs : List Group). gs ++ groups_by docs p rest) same in
    let there : groups_by docs q js ≡ groups_by docs q front ++ groups_by docs q begins.others =
    ap (groups_by docs q) begins.is ∙ groups-append docs q front begins.others in
    let falls_rest : Falls rest = falls-rest front rest (subst Falls parts falls) in
    let falls_others : Falls begins.others = falls-rest front begins.others (subst Falls begins.is falls') in
    subst (λ (gs : List Group). IsAnswer k bound score gs hits visits) (sym there)
    (subst (λ (n : ℕ). IsAnswer k bound score (groups_by docs q front ++ groups_by docs q begins.others) hits n) count
    (answer-others k (is_within bound score) bound score some (within-bounded bound score rise) (groups_by docs q front) (groups_by docs p rest)
    (groups_by docs q begins.others) (groups-down docs p rest falls_rest) (groups-allowed bound score docs p rest within)
    (groups-down docs q begins.others falls_others) (groups-allowed bound score docs q begins.others within)
    (no_higher docs p q rest begins.others falls_rest begins.among) hits
    (subst (λ (n : ℕ). IsAnswer k bound score (groups_by docs q front ++ groups_by docs p rest) hits n) (sym count)
    (subst (λ (gs : List Group). IsAnswer k bound score gs hits visits) here answer))))
