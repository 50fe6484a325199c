-- Two changes in a row are one.
use Rattle.std.proofs.Common.{◌≡◌, ℕ, ◌≤◌, ◌==◌, ◌&&◌, ◌⊎◌, inl, inr, Bool, true, false, cond, List, [], ◌∷◌, map, Option, Some, None, option_map}
use Rattle.std.proofs.Common.{refl, ap, ap₂, sym, subst, ◌∙◌, filter, arith}
use Rattle.std.specs.List.{AllByRecursion}
use Rattle.std.specs.Str.{bytes_eq}
use Rattle.std.proofs.lemmas.Bool.{and_parts}
use Rattle.std.proofs.lemmas.Bool.Decides.{nat_tests}
use Rattle.std.proofs.lemmas.Slice.Eq.{bytes_eq-Decides}
use Rattle.svr_num.specs.declared.list_key.ListKey.{ListKey}
use Rattle.svr_postpage.specs.declared.pair.Pair.{Pair}
use Rattle.svr_tokens.specs.Tokens.{tokens_of}
use Rattle.svr_listing.specs.declared.document.Document.{Document}
use Rattle.svr_listing.specs.declared.document.Listed.{Listed}
use Rattle.svr_listing.specs.Changes.{changed, entry_now, listed_now}
use Rattle.svr_listing.specs.Kept.{AreDocuments, IsListing}
use Rattle.svr_listing.specs.Listing.{Listing, document_at, documents_of, entry_of}
use Rattle.svr_listing.specs.Merges.{Merge, is_same, touched}
use Rattle.svr_listing.specs.Methods.{AreLawful, Rules, greatest}
use Rattle.svr_listing.specs.Served.{IsServed, Served, after, change}
use Rattle.svr_listing.proofs.Changing.{documents-changed, stays_now}
use Rattle.svr_listing.proofs.Finding.{at_itself, both, some_of}
use Rattle.svr_listing.proofs.Serving.{after-keeps, entry-changed}
use Rattle.svr_listing.proofs.Terms.{same_term}
use Rattle.svr_index.specs.Index.{DiffersAt}
use Rattle.svr_index.proofs.Following.{at-kept}
use Rattle.svr_lists.specs.Lists.{FollowsDocument, ListsValue, StandsForServed}

-- a document has the score already that it has in the end, and is already another than before where it is another in the end
pub record IsHalfway (before mid now : Option Document) : Type 0 where
  pub score_is : option_map (λ (d : Document). d.score) mid ≡ option_map (λ (d : Document). d.score) now
  pub differs : is_same before mid ≡ is_same before now

-- each document is as before, or on its way to what it is in the end
abbrev pub AreOnTheWay : List Document → List Document → List Document → Type 0
AreOnTheWay before mid now =
    (id : ℕ) → (document_at mid id ≡ document_at before id) ⊎ IsHalfway (document_at before id) (document_at mid id) (document_at now id)

-- ---- entries

-- an entry that was made for a score stays for this score
entry_twice : (rules : Rules) → AreLawful rules → (score : ℕ) → score ≤ greatest → (o : Option ListKey)
    → entry_now rules score (Some (entry_now rules score o)) ≡ entry_now rules score o
entry_twice rules law score low o = rw (stays_now rules law score low o) refl

entry_between : (tokens : List ℕ → List (List ℕ)) (l : Listing) (mid now : List Document) → AreLawful l.rules → IsListing tokens l
    → AreOnTheWay (documents_of l) mid now → (d : Document) → document_at now d.id ≡ Some d → d.score ≤ greatest
    → entry_now l.rules d.score (entry_of (changed l mid).documents d.id) ≡ entry_now l.rules d.score (entry_of l.documents d.id)
entry_between tokens l mid now law is way d at low = by (way d.id)
  where
    by : (document_at mid d.id ≡ document_at (documents_of l) d.id)
        ⊎ IsHalfway (document_at (documents_of l) d.id) (document_at mid d.id) (document_at now d.id)
        → entry_now l.rules d.score (entry_of (changed l mid).documents d.id) ≡ entry_now l.rules d.score (entry_of l.documents d.id)
    by (inl same) =
        ap (λ (o : Option Listed). entry_now l.rules d.score (option_map (λ (x : Listed). x.entry) o)) (at-kept tokens l mid d.id is same)
    by (inr half) =
        let there = some_of (λ (x : Document). x.score) (document_at mid d.id) d.score
        (half.score_is ∙ ap (option_map (λ (x : Document). x.score)) at) in
        let entry : entry_of (changed l mid).documents d.id ≡ Some (entry_now l.rules d.score (entry_of l.documents d.id)) =
        entry-changed l mid d.id
        ∙ ap (option_map (λ (x : Document). entry_now l.rules x.score (entry_of l.documents d.id))) there.1
        ∙ ap (λ (n : ℕ). Some (entry_now l.rules n (entry_of l.documents d.id))) there.2 in
        ap (entry_now l.rules d.score) entry ∙ entry_twice l.rules law d.score low (entry_of l.documents d.id)

map_same : {A B : Type 0} (f g : A → B) (xs : List A) → AllByRecursion (λ x. f x ≡ g x) xs → map f xs ≡ map g xs
map_same f g [] all = refl
map_same {A} {B} f g (x ∷ xs) all = ap₂ (λ (y : B) (ys : List B). y ∷ ys) all.0 (map_same f g xs all.1)

each_between : (tokens : List ℕ → List (List ℕ)) (l : Listing) (mid now : List Document) → AreLawful l.rules → IsListing tokens l
    → AreOnTheWay (documents_of l) mid now → (ds : List Document)
    → AllByRecursion (λ d. (document_at now d.id ≡ Some d) × (d.score ≤ greatest)) ds
    → AllByRecursion (λ d. listed_now l.rules (changed l mid).documents d ≡ listed_now l.rules l.documents d) ds
each_between tokens l mid now law is way [] all = tt
each_between tokens l mid now law is way (d ∷ ds) all = (
  ap (λ (k : ListKey). record { document = d; entry = k }) (entry_between tokens l mid now law is way d all.0.0 all.0.1),
  each_between tokens l mid now law is way ds all.1,
)

changed-twice : (tokens : List ℕ → List (List ℕ)) (l : Listing) (mid now : List Document) → AreLawful l.rules → IsListing tokens l
    → AreDocuments tokens now → AreOnTheWay (documents_of l) mid now → changed (changed l mid) now ≡ changed l now
changed-twice tokens l mid now law is are way =
    ap (λ (ds : List Listed). record { rules = l.rules; documents = ds; lists = l.lists })
    (map_same (listed_now l.rules (changed l mid).documents) (listed_now l.rules l.documents) now
    (each_between tokens l mid now law is way now (both _ _ now (at_itself now are.ascend) are.scores)))

-- ---- new keys

text_itself : (text : List ℕ) → bytes_eq text text ≡ true
text_itself text = (bytes_eq-Decides text text).1 refl

score_itself : (n : ℕ) → (n == n) ≡ true
score_itself n = grind (arith, nat_tests)

-- a document is the same as itself
pub same-itself : (d : Document) → is_same (Some d) (Some d) ≡ true
same-itself d = rw (score_itself d.score) (text_itself d.text)

same_score : (a b c : ℕ) → (a == b) ≡ true → (a == c) ≡ true → (b == c) ≡ true
same_score a b c e f = grind (arith, nat_tests)

-- what is the same twice is the same, and what is another at once stays another
same-twice : (before mid now : Option Document) → (mid ≡ before) ⊎ IsHalfway before mid now
    → (is_same before mid && is_same mid now) ≡ is_same before now
same-twice None mid now way = refl
same-twice (Some a) mid now (inl same) =
    rw same (rw (same-itself a) refl)
same-twice (Some a) None now (inr half) = half.differs
same-twice (Some a) (Some b) None (inr half) = rw half.differs refl
same-twice (Some a) (Some b) (Some c) (inr half) =
    by (is_same (Some a) (Some b)) (is_same (Some a) (Some c)) refl refl half.differs
  where
    by : (first whole : Bool) → is_same (Some a) (Some b) ≡ first → is_same (Some a) (Some c) ≡ whole → first ≡ whole
        → (first && is_same (Some b) (Some c)) ≡ whole
    by false whole e f same = same
    by true false e f same = absurd (cc)
    by true true e f same =
        let ab : ((a.score == b.score) ≡ true) × (bytes_eq a.text b.text ≡ true) = and_parts _ _ e in
        let ac : ((a.score == c.score) ≡ true) × (bytes_eq a.text c.text ≡ true) = and_parts _ _ f in
        let text : b.text ≡ c.text = sym (same_term a.text b.text ab.1) ∙ same_term a.text c.text ac.1 in
        let score : (b.score == c.score) ≡ true = same_score a.score b.score c.score ab.0 ac.0 in
        rw score (rw text (text_itself c.text))

filter-twice : {A : Type 0} (first second whole : A → Bool) → ((x : A) → (first x && second x) ≡ whole x) → (xs : List A)
    → filter second (filter first xs) ≡ filter whole xs
filter-twice first second whole are [] = refl
filter-twice {A} first second whole are (x ∷ xs) =
    by (first x) (second x) refl (filter-twice first second whole are xs)
    ∙ ap (λ (b : Bool). cond b (x ∷ filter whole xs) (filter whole xs)) (are x)
  where
    by : (b c : Bool) → second x ≡ c → filter second (filter first xs) ≡ filter whole xs
        → filter second (cond b (x ∷ filter first xs) (filter first xs)) ≡ cond (b && c) (x ∷ filter whole xs) (filter whole xs)
    by false c e more = more
    by true false e more = rw e more
    by true true e more = rw e (ap (λ (ys : List A). x ∷ ys) more)

touched-twice : (m : Merge) (before mid now : List Document) → AreOnTheWay before mid now
    → touched (touched m before mid) mid now ≡ touched m before now
touched-twice m before mid now way =
    ap (λ (ks : List Pair). record { rules = m.rules; keys = ks; last = m.last; lists = m.lists })
    (filter-twice (λ (pair : Pair). is_same (document_at before pair.id) (document_at mid pair.id))
    (λ (pair : Pair). is_same (document_at mid pair.id) (document_at now pair.id))
    (λ (pair : Pair). is_same (document_at before pair.id) (document_at now pair.id))
    (λ pair. same-twice (document_at before pair.id) (document_at mid pair.id) (document_at now pair.id) (way pair.id)) m.keys)

-- ---- both

pub change-twice : (tokens : List ℕ → List (List ℕ)) (s : Served) (mid now : List Document) → IsServed tokens s → AreDocuments tokens now
    → AreOnTheWay (documents_of s.listing) mid now → after (after s (change mid)) (change now) ≡ after s (change now)
change-twice tokens s mid now is are way =
    ap₂ (λ (l : Listing) (m : Option Merge). record { listing = l; merge = m })
    (changed-twice tokens s.listing mid now is.lawful is.listing are way) (merge s.merge)
  where
    merge : (o : Option Merge)
        → option_map (λ m. touched m (documents_of (changed s.listing mid)) now) (option_map (λ m. touched m (documents_of s.listing) mid) o)
        ≡ option_map (λ m. touched m (documents_of s.listing) now) o
    merge None = refl
    merge (Some m) =
        ap (λ (ds : List Document). Some (touched (touched m (documents_of s.listing) mid) ds now))
        (documents-changed s.listing.rules s.listing.documents mid)
        ∙ ap (λ (x : Merge). Some x) (touched-twice m (documents_of s.listing) mid now way)

-- lists that stood for what they are after some of a change follow the change of one more document
pub follows-on : (old new : ListsValue) (id : ℕ) (Change : Option Document → Option Document → Type 0)
    → FollowsDocument old new id Change
    → (s : Served) (mid now : List Document) → IsServed tokens_of s → AreDocuments tokens_of mid → AreDocuments tokens_of now
    → AreOnTheWay (documents_of s.listing) mid now → StandsForServed old (after s (change mid)) → DiffersAt id mid now
    → Change (document_at mid id) (document_at now id) → StandsForServed new (after s (change now))
follows-on old new id Change follows s mid now is were are way stands differs changes =
    let same : documents_of (after s (change mid)).listing ≡ mid = documents-changed s.listing.rules s.listing.documents mid in
    subst (StandsForServed new) (change-twice tokens_of s mid now is are way)
    (follows (after s (change mid)) now (after-keeps tokens_of s (change mid) is were) are stands
    (subst (λ (ds : List Document). DiffersAt id ds now) (sym same) differs)
    (subst (λ (ds : List Document). Change (document_at ds id) (document_at now id)) (sym same) changes))
