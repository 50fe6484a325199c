-- The ids in the groups of one term are those of the documents that stand under it.
use Rattle.std.proofs.Common.{◌≡◌, ℕ, ◌==◌, ◌&&◌, ◌||◌, Bool, true, false, List, [], ◌∷◌, map, refl, ap, ap₂, sym, ◌∙◌}
use Rattle.std.specs.List.{filter, list_any}
use Rattle.svr_postpage.specs.declared.page_ref.PageRef.{PageRef}
use Rattle.svr_postpage.specs.declared.pair.Pair.{Pair}
use Rattle.svr_listing.specs.Groups.{Group, ids_in}
use Rattle.svr_listing.specs.Joined.{is_in, term_groups}
use Rattle.svr_listing.specs.Listing.{Listed, Listing, descending, groups_by, matching_at, stands_by}
use Rattle.svr_listing.specs.Merges.{ids_under}
use Rattle.svr_listing.proofs.Joining.{HaveKeys, keys_under, one_term, stands_key}
use Rattle.svr_listing.proofs.Truths.{any-filter, any-flat_map, any-map}

-- an element passes one of two tests
either_passes : {A : Type 0} (p q : A → Bool) (xs : List A) → list_any (λ x. p x || q x) xs ≡ (list_any p xs || list_any q xs)
either_passes p q [] = refl
either_passes p q (x ∷ xs) = ap (λ b. (p x || q x) || b) (either_passes p q xs) ∙ turn (p x) (q x) (list_any p xs) (list_any q xs)
  where
    turn : (a b c d : Bool) → ((a || b) || (c || d)) ≡ ((a || c) || (b || d))
    turn true b c d = refl
    turn false true true d = refl
    turn false true false d = refl
    turn false false c d = refl

and_once : {A : Type 0} (p : A → Bool) (b : Bool) (xs : List A) → list_any (λ x. p x && b) xs ≡ (list_any p xs && b)
and_once p b [] = refl
and_once p b (x ∷ xs) = ap (λ c. (p x && b) || c) (and_once p b xs) ∙ turn (p x) (list_any p xs) b
  where
    turn : (a c b : Bool) → ((a && b) || (c && b)) ≡ ((a || c) && b)
    turn true true true = refl
    turn true true false = refl
    turn true false true = refl
    turn true false false = refl
    turn false c b = refl

no_key : {A : Type 0} (xs : List A) → list_any (λ x. false) xs ≡ false
no_key [] = refl
no_key (x ∷ xs) = no_key xs

-- documents that pass, at one key after the other, are all that pass where each has its key among the keys
over_keys : (p q : Listed → Bool) (docs : List Listed) (ks : List ℕ) → HaveKeys docs p ks
    → list_any (λ key. list_any (λ d. ((d.entry.key == key) && p d) && q d) docs) ks ≡ list_any (λ d. p d && q d) docs
over_keys p q [] ks have = no_key ks
over_keys p q (d ∷ ds) ks have =
    either_passes (λ key. ((d.entry.key == key) && p d) && q d) (λ key. list_any (λ x. ((x.entry.key == key) && p x) && q x) ds) ks
    ∙ ap₂ (λ (b c : Bool). b || c)
    (and_once (λ key. (d.entry.key == key) && p d) (q d) ks
    ∙ ap (λ (b : Bool). b && q d) (and_once (λ key. d.entry.key == key) (p d) ks ∙ here (p d) (list_any (λ k. d.entry.key == k) ks) have.0))
    (over_keys p q ds ks have.1)
  where
    here : (b c : Bool) → (b ≡ true → c ≡ true) → (c && b) ≡ b
    here true c there = rw (there refl) refl
    here false true there = refl
    here false false there = refl

-- which ids the groups have
in_groups_by : (id : ℕ) (docs : List Listed) (p : Listed → Bool) (ks : List ℕ) → HaveKeys docs p ks
    → is_in id (ids_in (groups_by docs p ks)) ≡ is_in id (map (λ (d : Listed). d.document.id) (filter p docs))
in_groups_by id docs p ks have =
    any-flat_map (λ other. other == id) (λ (g : Group). g.ids) (groups_by docs p ks)
    ∙ any-map (λ (g : Group). is_in id g.ids) (λ key. record { key = key; ids = matching_at docs p key }) ks
    ∙ each ks
    ∙ over_keys p (λ d. d.document.id == id) docs ks have
    ∙ sym (any-map (λ other. other == id) (λ (d : Listed). d.document.id) (filter p docs)
    ∙ any-filter (λ (d : Listed). d.document.id == id) p docs)
  where
    each : (keys : List ℕ) → list_any (λ key. is_in id (matching_at docs p key)) keys
        ≡ list_any (λ key. list_any (λ d. ((d.entry.key == key) && p d) && (d.document.id == id)) docs) keys
    each [] = refl
    each (key ∷ keys) =
        ap₂ (λ (b c : Bool). b || c)
        (any-map (λ other. other == id) (λ (d : Listed). d.document.id) (filter (λ d. (d.entry.key == key) && p d) docs)
        ∙ any-filter (λ (d : Listed). d.document.id == id) (λ d. (d.entry.key == key) && p d) docs)
        (each keys)

-- an id is in the groups of a term where its document stands under it
pub in_term_groups : (read : PageRef → List Pair) (l : Listing) (term : List ℕ) (id : ℕ)
    → is_in id (ids_in (term_groups read l term)) ≡ is_in id (ids_under (stands_by read l term) l)
in_term_groups read l term id =
    ap (λ (ks : List ℕ). is_in id (ids_in (groups_by l.documents (stands_by read l term) ks))) (one_term read l term)
    ∙ in_groups_by id l.documents (stands_by read l term) (descending (keys_under read l term)) (stands_key read l term)
