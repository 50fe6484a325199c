-- The steps of the plain program.
use Rattle.std.proofs.Common.{◌≡◌, ◌≢◌, ℕ, zero, suc, ◌+◌, ◌<◌, ◌==◌, ◌^◌, Bool, true, false, cond, List, [], ◌∷◌, ◌++◌, length, get_or}
use Rattle.std.proofs.Common.{map, take, Option, None, refl, ap, ap₂, sym, ◌∙◌, arith, nat_lt}
use Rattle.std.specs.List.{All, AllByRecursion, IsFirstAndRest, flat_map, insert, prefix_len, slice_get}
use Rattle.std.proofs.lemmas.Bool.Decides.{nat_tests}
use Rattle.std.proofs.lemmas.List.{append_assoc, map-append, take_more}
use Rattle.std.proofs.lemmas.List.Elements.{All-append}
use Rattle.svr_num.specs.declared.hit.Hit.{Hit}
use Rattle.svr_postpage.specs.declared.pair.Pair.{Pair}
use Rattle.svr_listing.specs.Groups.{Group, IsOrdered, hits_of, ids_in}
use Rattle.svr_listing.specs.Joined.{keys_in, with_id}
use Rattle.svr_listing.specs.Layout.{with_keys, with_pair_keys}
use Rattle.svr_listing.specs.Listing.{Listed, Listing, descending, groups_by, held, keys, matching_at, posted, with_key}
use Rattle.svr_listing.specs.Visits.{stops, visited}
use Rattle.svr_listing.proofs.Visiting.{hits_of-append, least-is}

-- ---- hits

-- the hits of one more id
pub hits_of-more : (score : ℕ → Option ℕ) (ids : List ℕ) (i : ℕ) → i < length ids
    → hits_of score (take (i + 1) ids) ≡ hits_of score (take i ids) ++ hits_of score (get_or ids i 0 ∷ [])
hits_of-more score ids i lt = ap (hits_of score) (take_more ids i 0 lt) ∙ hits_of-append score (take i ids) (get_or ids i 0 ∷ [])

pub hits_of-step : (score : ℕ → Option ℕ) (ids : List ℕ) (i : ℕ) (old new : List Hit) → i < length ids
    → new ≡ old ++ hits_of score (get_or ids i 0 ∷ []) → old ≡ hits_of score (take i ids) → new ≡ hits_of score (take (i + 1) ids)
hits_of-step score ids i old new lt added so_far =
    added ∙ ap (λ (l : List Hit). l ++ hits_of score (get_or ids i 0 ∷ [])) so_far ∙ sym (hits_of-more score ids i lt)

-- ids of groups that are in their order are below 2^63
pub ids_fit : (groups : List Group) → AllByRecursion IsOrdered groups → All (λ id. id < 2 ^ 63) (ids_in groups)
ids_fit [] are = λ i d lt. absurd (omega arith)
ids_fit (group ∷ groups) are = All-append (λ id. id < 2 ^ 63) group.ids (ids_in groups) are.0.ids_fit (ids_fit groups are.1)

pub ordered-take : (n : ℕ) (groups : List Group) → AllByRecursion IsOrdered groups → AllByRecursion IsOrdered (take n groups)
ordered-take zero groups are = tt
ordered-take (suc n) [] are = tt
ordered-take (suc n) (group ∷ groups) are = (are.0, ordered-take n groups are.1)

-- ---- visits

past_all : {A : Type 0} (xs : List A) → slice_get xs (length xs) ≡ None
past_all [] = refl
past_all (x ∷ xs) = past_all xs

-- a search that stops after none of the groups visits all
pub visited-all : (k : ℕ) (bound : ℕ → ℕ) (score : ℕ → Option ℕ) (groups : List Group)
    → ((n : ℕ) → n < length groups → stops k bound score groups n ≡ false) → length groups ≡ visited k bound score groups
visited-all k bound score groups none =
    least-is (stops k bound score groups) (length groups) (length groups) (omega arith) (rw (past_all groups) refl) none

-- ---- an id at its place

abbrev first_not_below : ℕ → List ℕ → ℕ
first_not_below id ids = prefix_len (λ other. nat_lt other id) ids

pub with_id-new : (id : ℕ) (ids : List ℕ) (at : ℕ) → at ≡ first_not_below id ids → (at < length ids → get_or ids at 0 ≢ id)
    → with_id id ids ≡ insert ids at id
with_id-new id [] zero e other = refl
with_id-new id [] (suc at) e other = absurd (omega arith)
with_id-new id (x ∷ xs) at e other = by (nat_lt x id) refl at e other (with_id-new id xs)
  where
    by : (b : Bool) → nat_lt x id ≡ b → (at : ℕ) → at ≡ cond b (1 + first_not_below id xs) 0
        → (at < length (x ∷ xs) → get_or (x ∷ xs) at 0 ≢ id)
        → ((i : ℕ) → i ≡ first_not_below id xs → (i < length xs → get_or xs i 0 ≢ id) → with_id id xs ≡ insert xs i id)
        → with_id id (x ∷ xs) ≡ insert (x ∷ xs) at id
    by true less zero e other more = absurd (omega arith)
    by true less (suc i) e other more =
        let no' : nat_lt id x ≡ false = grind (arith, nat_tests) in
        let differ : (id == x) ≡ false = grind (arith, nat_tests) in
        rw (no', differ) (ap (λ (l : List ℕ). x ∷ l) (more i (omega arith) (λ lt. other (omega arith))))
    by false less zero e other more =
        let differ : x ≢ id = other (omega arith) in
        let yes : nat_lt id x ≡ true = grind (arith, nat_tests) in
        rw yes refl
    by false less (suc i) e other more = absurd (omega arith)

pub with_id-there : (id : ℕ) (ids : List ℕ) (at : ℕ) → at ≡ first_not_below id ids → at < length ids → get_or ids at 0 ≡ id
    → with_id id ids ≡ ids
with_id-there id [] at e lt there = absurd (omega arith)
with_id-there id (x ∷ xs) at e lt there = by (nat_lt x id) refl at e lt there (with_id-there id xs)
  where
    by : (b : Bool) → nat_lt x id ≡ b → (at : ℕ) → at ≡ cond b (1 + first_not_below id xs) 0 → at < length (x ∷ xs)
        → get_or (x ∷ xs) at 0 ≡ id
        → ((i : ℕ) → i ≡ first_not_below id xs → i < length xs → get_or xs i 0 ≡ id → with_id id xs ≡ xs)
        → with_id id (x ∷ xs) ≡ x ∷ xs
    by true less zero e lt there more = absurd (omega arith)
    by true less (suc i) e lt there more =
        let no' : nat_lt id x ≡ false = grind (arith, nat_tests) in
        let differ : (id == x) ≡ false = grind (arith, nat_tests) in
        rw (no', differ) (ap (λ (l : List ℕ). x ∷ l) (more i (omega arith) (omega arith) there))
    by false less zero e lt there more =
        let no' : nat_lt id x ≡ false = grind (arith, nat_tests) in
        let same : (id == x) ≡ true = grind (arith, nat_tests) in
        rw (no', same) refl
    by false less (suc i) e lt there more = absurd (omega arith)

-- ---- a key at its place

abbrev first_not_above : ℕ → List ℕ → ℕ
first_not_above key keys = prefix_len (λ other. nat_lt key other) keys

pub with_key-new : (key : ℕ) (keys : List ℕ) (at : ℕ) → at ≡ first_not_above key keys → (at < length keys → get_or keys at 0 ≢ key)
    → with_key key keys ≡ insert keys at key
with_key-new key [] zero e other = refl
with_key-new key [] (suc at) e other = absurd (omega arith)
with_key-new key (x ∷ xs) at e other = by (nat_lt key x) refl at e other (with_key-new key xs)
  where
    by : (b : Bool) → nat_lt key x ≡ b → (at : ℕ) → at ≡ cond b (1 + first_not_above key xs) 0
        → (at < length (x ∷ xs) → get_or (x ∷ xs) at 0 ≢ key)
        → ((i : ℕ) → i ≡ first_not_above key xs → (i < length xs → get_or xs i 0 ≢ key) → with_key key xs ≡ insert xs i key)
        → with_key key (x ∷ xs) ≡ insert (x ∷ xs) at key
    by true more_than zero e other more = absurd (omega arith)
    by true more_than (suc i) e other more =
        let no' : nat_lt x key ≡ false = grind (arith, nat_tests) in
        let differ : (key == x) ≡ false = grind (arith, nat_tests) in
        rw (no', differ) (ap (λ (l : List ℕ). x ∷ l) (more i (omega arith) (λ lt. other (omega arith))))
    by false more_than zero e other more =
        let differ : x ≢ key = other (omega arith) in
        let yes : nat_lt x key ≡ true = grind (arith, nat_tests) in
        rw yes refl
    by false more_than (suc i) e other more = absurd (omega arith)

pub with_key-there : (key : ℕ) (keys : List ℕ) (at : ℕ) → at ≡ first_not_above key keys → at < length keys → get_or keys at 0 ≡ key
    → with_key key keys ≡ keys
with_key-there key [] at e lt there = absurd (omega arith)
with_key-there key (x ∷ xs) at e lt there = by (nat_lt key x) refl at e lt there (with_key-there key xs)
  where
    by : (b : Bool) → nat_lt key x ≡ b → (at : ℕ) → at ≡ cond b (1 + first_not_above key xs) 0 → at < length (x ∷ xs)
        → get_or (x ∷ xs) at 0 ≡ key
        → ((i : ℕ) → i ≡ first_not_above key xs → i < length xs → get_or xs i 0 ≡ key → with_key key xs ≡ xs)
        → with_key key (x ∷ xs) ≡ x ∷ xs
    by true more_than zero e lt there more = absurd (omega arith)
    by true more_than (suc i) e lt there more =
        let no' : nat_lt x key ≡ false = grind (arith, nat_tests) in
        let differ : (key == x) ≡ false = grind (arith, nat_tests) in
        rw (no', differ) (ap (λ (l : List ℕ). x ∷ l) (more i (omega arith) (omega arith) there))
    by false more_than zero e lt there more =
        let no' : nat_lt x key ≡ false = grind (arith, nat_tests) in
        let same : (key == x) ≡ true = grind (arith, nat_tests) in
        rw (no', same) refl
    by false more_than (suc i) e lt there more = absurd (omega arith)

-- the keys of groups among others
pub with_keys-descending : (groups : List Group) (keys : List ℕ)
    → with_keys groups (descending keys) ≡ descending (map (λ group. group.key) groups ++ keys)
with_keys-descending [] keys = refl
with_keys-descending (group ∷ groups) keys = ap (with_key group.key) (with_keys-descending groups keys)

pub keys_in-first : (lists : List (List Group)) (list : List Group) (rest : List (List Group)) → IsFirstAndRest lists list rest
    → with_keys list (keys_in rest) ≡ keys_in lists
keys_in-first lists list rest first =
    with_keys-descending list (flat_map (λ list. map (λ group. group.key) list) rest) ∙ ap keys_in (sym first.0)

-- the keys of pairs among others
pub with_pair_keys-descending : (pairs : List Pair) (keys : List ℕ)
    → with_pair_keys pairs (descending keys) ≡ descending (map (λ pair. pair.key) pairs ++ keys)
with_pair_keys-descending [] keys = refl
with_pair_keys-descending (pair ∷ pairs) keys = ap (with_key pair.key) (with_pair_keys-descending pairs keys)

-- the keys of one more term of a query
pub keys-step : (l : Listing) (terms : List (List ℕ)) (term : List ℕ) (rest : List (List ℕ)) (found first second : List ℕ)
    → IsFirstAndRest terms term rest → found ≡ keys l rest → first ≡ with_pair_keys (held l term) found
    → second ≡ with_pair_keys (posted l term) first → second ≡ keys l terms
keys-step l terms term rest found first second one is_found is_first is_second =
    let others = flat_map (λ t. map (λ (pair : Pair). pair.key) (posted l t ++ held l t)) rest in
    let held_keys = map (λ (pair : Pair). pair.key) (held l term) in
    let posted_keys = map (λ (pair : Pair). pair.key) (posted l term) in
    let first_is : first ≡ descending (held_keys ++ others) =
    is_first ∙ ap (with_pair_keys (held l term)) is_found ∙ with_pair_keys-descending (held l term) others in
    is_second ∙ ap (with_pair_keys (posted l term)) first_is ∙ with_pair_keys-descending (posted l term) (held_keys ++ others)
    ∙ ap descending (sym (append_assoc posted_keys held_keys others)
    ∙ ap (λ (ks : List ℕ). ks ++ others) (sym (map-append (λ (pair : Pair). pair.key) (posted l term) (held l term))))
    ∙ ap (keys l) (sym one.0)

-- ---- groups

-- the group of one more key
pub groups_by-step : (documents : List Listed) (test : Listed → Bool) (keys : List ℕ) (i : ℕ) (old new : List Group) (ids : List ℕ)
    → i < length keys → new ≡ old ++ (record { key = get_or keys i 0; ids = ids } ∷ [])
    → ids ≡ matching_at documents test (get_or keys i 0) → old ≡ groups_by documents test (take i keys)
    → new ≡ groups_by documents test (take (i + 1) keys)
groups_by-step documents test keys i old new ids lt added these so_far =
    added
    ∙ ap₂ (λ (groups : List Group) (ids : List ℕ). groups ++ (record { key = get_or keys i 0; ids = ids } ∷ [])) so_far these
    ∙ sym (map-append (λ key. record { key = key; ids = matching_at documents test key }) (take i keys) (get_or keys i 0 ∷ []))
    ∙ sym (ap (groups_by documents test) (take_more keys i 0 lt))
