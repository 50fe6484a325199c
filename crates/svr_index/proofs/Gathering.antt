-- The ids of all groups of a list: each once, and those of the documents that stand under its term.
use Rattle.std.proofs.Common.{◌≡◌, ℕ, ◌<◌, ◌^◌, ◌==◌, Bool, true, false, cond, List, [], ◌∷◌, ◌++◌, map, Option, Some, None, IsSome, drop}
use Rattle.std.proofs.Common.{length, take, unwrap_or, refl, ap, sym, subst, ◌∙◌, arith}
use Rattle.std.proofs.Math.Seq.{take-append_seam}
use Rattle.std.specs.List.{AllByRecursion, IsDistinct, filter}
use Rattle.std.specs.List.Sorted.{IsNonDecreasing, IsPermutation, IsStrictlyIncreasing}
use Rattle.std.proofs.lemmas.List.{append_assoc}
use Rattle.std.proofs.lemmas.Map.Keys.{IsDistinct-IsPermutation, IsDistinct-cons, IsDistinct-head, IsDistinct-tail, IsStrictlyIncreasing-from_distinct}
use Rattle.std.proofs.lemmas.Bool.Decides.{nat_tests}
use Rattle.svr_iter.specs.GroupLaws.{all-append, from_all}
use Rattle.svr_iter.specs.Merging.{Up, Up-from}
use Rattle.svr_iter.specs.Taking.{IsLess}
use Rattle.svr_iter.specs.Truths.{eq_from}
use Rattle.svr_iter.proofs.Membership.{same_ids}
use Rattle.svr_listing.specs.Groups.{IsGroup, ids_in}
use Rattle.svr_listing.specs.declared.group.Group.{Group}
use Rattle.svr_listing.specs.Joined.{is_in}
use Rattle.svr_listing.specs.Kept.{Ascends}
use Rattle.svr_listing.specs.declared.document.Listed.{Listed}
use Rattle.svr_listing.specs.Listing.{stands_by}
use Rattle.svr_listing.specs.Merges.{ids_under}
use Rattle.svr_listing.proofs.Finding.{weaker}
use Rattle.svr_listing.proofs.Joining.{higher}
use Rattle.svr_listing.proofs.Under.{in_term_groups}
use Rattle.svr_long.specs.Cursor.{page_pairs}
use Rattle.svr_index.specs.Docs.{StandUnder, refs_at}
use Rattle.svr_index.specs.Index.{Indexed}
use Rattle.svr_index.specs.Layout.{IsListOf, TermList, groups_of_list}
use Rattle.svr_index.proofs.Told.{IsSound, ids-told}

-- ---- ids that differ

distinct-append : (xs ys : List ℕ) → IsDistinct (λ a b. a == b) xs → IsDistinct (λ a b. a == b) ys
    → AllByRecursion (λ x. AllByRecursion (λ y. (x == y) ≡ false) ys) xs → IsDistinct (λ a b. a == b) (xs ++ ys)
distinct-append [] ys dx dy apart = dy
distinct-append (x ∷ xs) ys dx dy apart =
    IsDistinct-cons _ x (xs ++ ys) (all-append (λ y. (x == y) ≡ false) xs ys (IsDistinct-head _ x xs dx) apart.0)
    (distinct-append xs ys (IsDistinct-tail _ x xs dx) dy apart.1)

below-differs : (x y : ℕ) → x < y → (x == y) ≡ false
below-differs x y lt = grind (arith, nat_tests)

distinct-up : (xs : List ℕ) → Up xs → IsDistinct (λ a b. a == b) xs
unfolding IsDistinct
distinct-up [] up = tt
distinct-up (x ∷ xs) up = (weaker (λ y. x < y) (λ y. (x == y) ≡ false) xs (below-differs x) up.0, distinct-up xs up.1)

flips : (a b : ℕ) → (a == b) ≡ (b == a)
flips a b = grind (arith, nat_tests)

-- ---- ids gathered so far

-- each id comes at one key alone
abbrev pub HaveOneKey : (ℕ → ℕ → Bool) → Type 0
HaveOneKey may = (key other id : ℕ) → may key id ≡ true → may other id ≡ true → key ≡ other

-- an id came at a key above the next one
pub record CameAbove (may : ℕ → ℕ → Bool) (next : Option ℕ) (id : ℕ) : Type 0 where
  pub key : ℕ
  pub above : IsLess next (Some key)
  pub allowed : may key id ≡ true

-- ids that were gathered, where this is the next key
pub record AreGathered (may : ℕ → ℕ → Bool) (next : Option ℕ) (ids : List ℕ) : Type 0 where
  pub differ : IsDistinct (λ a b. a == b) ids
  pub fit : AllByRecursion (λ id. id < 2 ^ 63) ids
  pub came : AllByRecursion (CameAbove may next) ids

pub gathered-none : (may : ℕ → ℕ → Bool) (next : Option ℕ) → AreGathered may next []
gathered-none may next = record { differ = distinct-up [] tt; fit = tt; came = tt }

less-less : (next : Option ℕ) (key other : ℕ) → IsLess next (Some key) → key < other → IsLess next (Some other)
less-less None key other less lt = tt
less-less (Some later) key other less lt = omega arith

came-apart : (may : ℕ → ℕ → Bool) (key id other : ℕ) → HaveOneKey may → CameAbove may (Some key) id → may key other ≡ true
    → (id == other) ≡ false
came-apart may key id other one came allowed = by (id == other) refl
  where
    by : (b : Bool) → (id == other) ≡ b → b ≡ false
    by false e = refl
    by true e =
        let there = subst (λ (n : ℕ). may came.key n ≡ true) (eq_from id other e) came.allowed in
        let same : came.key ≡ key = one came.key key other there allowed in
        absurd (omega (arith, came.above))

-- the ids of the next group come to them
pub gathered-more : (may : ℕ → ℕ → Bool) (next new : Option ℕ) (all ids : List ℕ) → HaveOneKey may → AreGathered may next all
    → IsSome next → IsGroup may (record { key = unwrap_or next 0; ids = ids }) → IsLess new next → AreGathered may new (all ++ ids)
gathered-more may None new all ids one are some group less = absurd (cc)
gathered-more may (Some key) new all ids one are some group less =
    let allowed = from_all (λ id. may key id ≡ true) ids group.allowed in
    record {
      differ = distinct-append all ids are.differ (distinct-up ids (Up-from ids group.ordered.ascending))
          (weaker (CameAbove may (Some key)) _ all
          (λ id came. weaker (λ other. may key other ≡ true) _ ids (λ other there. came-apart may key id other one came there) allowed)
          are.came);
      fit = all-append (λ id. id < 2 ^ 63) all ids are.fit (from_all (λ id. id < 2 ^ 63) ids group.ordered.ids_fit);
      came = all-append (CameAbove may new) all ids
          (weaker (CameAbove may (Some key)) (CameAbove may new) all
          (λ id came. record { key = came.key; above = less-less new key came.key less came.above; allowed = came.allowed }) are.came)
          (weaker (λ id. may key id ≡ true) (CameAbove may new) ids
          (λ id there. record { key = key; above = less; allowed = there }) allowed);
    }

-- the ids so far with those of the groups left are those of all groups
pub front-more : (all ids : List ℕ) (key : ℕ) (start old new : List Group) → all ++ ids_in old ≡ ids_in start
    → old ≡ record { key = key; ids = ids } ∷ new → (all ++ ids) ++ ids_in new ≡ ids_in start
front-more all ids key start old new front is =
    append_assoc all ids (ids_in new) ∙ ap (λ (gs : List Group). all ++ ids_in gs) (sym is) ∙ front

-- ---- the ids of a list of one term

up-under : (p : Listed → Bool) (docs : List Listed) → Ascends (map (λ d. d.document) docs)
    → Up (map (λ (d : Listed). d.document.id) (filter p docs))
up-under p [] up = tt
up-under p (d ∷ ds) up = by (p d) (up-under p ds up.1)
  where
    by : (b : Bool) → Up (map (λ (e : Listed). e.document.id) (filter p ds))
        → Up (map (λ (e : Listed). e.document.id) (cond b (d ∷ filter p ds) (filter p ds)))
    by true rest = (higher d.document.id p ds up.0, rest)
    by false rest = rest

-- the ids of all groups of a list, in their order, are those of the documents that stand under its term, where no page is damaged
pub stand-under : (index : Indexed) (term : List ℕ) (list : TermList) (bytes gathered ids : List ℕ) → IsListOf index term list
    → AllByRecursion (IsSound bytes) (refs_at index term) → gathered ≡ ids_in (groups_of_list list bytes) → ((id : ℕ) → is_in id ids ≡ is_in id gathered) → IsStrictlyIncreasing ids
    → StandUnder index term bytes ids
stand-under index term list bytes gathered ids is sound all same up = λ l ascends stood.
    same_ids ids (ids_under (stands_by (page_pairs bytes) l term) l) (Up-from ids up)
    (up-under (stands_by (page_pairs bytes) l term) l.documents ascends)
    (λ id. same id ∙ ap (is_in id) (all ∙ ap ids_in (is.groups_are l bytes ascends stood)) ∙ in_term_groups (page_pairs bytes) l term id)
    ∙ ids-told bytes l term (subst (AllByRecursion (IsSound bytes)) (stood.pages term) sound)

-- ---- sorted ids

pub sorted-up : (xs ys : List ℕ) → IsPermutation xs ys → IsNonDecreasing ys → IsDistinct (λ a b. a == b) xs → IsStrictlyIncreasing ys
sorted-up xs ys moved up differ = IsStrictlyIncreasing-from_distinct ys up (IsDistinct-IsPermutation _ flips xs ys moved differ)

-- what is written back into a vector of as many ids
pub written_back : (n : ℕ) (xs ys : List ℕ) → n ≡ length xs → take n (xs ++ drop (length xs) ys) ≡ xs
written_back n xs ys e = ap (λ (k : ℕ). take k (xs ++ drop (length xs) ys)) e ∙ take-append_seam xs (drop (length xs) ys)
