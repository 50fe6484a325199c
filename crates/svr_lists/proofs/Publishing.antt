-- A merge is published.
use Rattle.std.proofs.Common.{◌≡◌, ◌==◌, ◌&&◌, ◌||◌, ◌+◌, ◌<◌, ◌≤◌, ℕ, Bool, true, false, not, cond, List, [], ◌∷◌, drop, find, get_or, length, map}
use Rattle.std.proofs.Common.{Option, Some, None, option_map}
use Rattle.std.proofs.Common.{refl, ap, ap₂, sym, subst, ◌∙◌, eqb-true}
use Rattle.std.specs.List.{AllByRecursion}
use Rattle.std.proofs.lemmas.List.{drop_more}
use Rattle.std.proofs.lemmas.List.Elements.{All-from_recursion, All-get_or}
use Rattle.svr_num.specs.declared.list_key.ListKey.{ListKey}
use Rattle.svr_chunks.specs.Chosen.{chosen_lawful, chosen_rules}
use Rattle.svr_chunks.specs.declared.chosen.Chosen.{Chosen}
use Rattle.svr_idmap.specs.Ids.{value_at}
use Rattle.svr_iter.specs.Effective.{mark_here}
use Rattle.svr_iter.specs.declared.marks.Mark.TheVariants as mark
use Rattle.svr_tokens.specs.Tokens.{tokens_of}
use Rattle.svr_listing.specs.declared.document.Document.{Document}
use Rattle.svr_listing.specs.declared.document.Listed.{Listed}
use Rattle.svr_listing.specs.Joined.{is_in}
use Rattle.svr_listing.specs.Kept.{AreDocuments, IsListing, IsMerge}
use Rattle.svr_listing.specs.Listing.{Listing, document_at, documents_of, entry_of, has_pair, has_term, posted}
use Rattle.svr_listing.specs.Merges.{Merge, entry_by, new_key, published, published_one, terms_left}
use Rattle.svr_listing.specs.Methods.{Rules, greatest}
use Rattle.svr_listing.specs.Served.{IsLawfulMerge, published_with}
use Rattle.std.specs.Option.{ForSome}
use Rattle.svr_listing.proofs.Finding.{at_itself, find-document, found}
use Rattle.svr_listing.proofs.Merging.{documents-published}
use Rattle.svr_listing.proofs.Serving.{entry-published, posted-published}
use Rattle.svr_index.specs.Index.{Indexed, Installs, IsFresh, KeepsEntries, Places, StandsBut, StandsFor, Takes, is_moved}
use Rattle.svr_index.specs.Index.{mark_by_listing}
use Rattle.svr_postpage.specs.declared.page_ref.PageRef.{PageRef}
use Rattle.svr_index.proofs.Following.{at}
use Rattle.svr_merge.specs.Runs.{Run, StandsForMerge}
use Rattle.svr_lists.specs.Layout.{AreEntriesBy, InstallsRun, PlacesAll, PlacesOne, PlacesThese, StandsAs, is_pending}
use Rattle.svr_lists.specs.Lists.{IsAtScore, IsAtScores, IsMergeOf, ListsValue, StandsForServed}
use Rattle.svr_lists.specs.Publish.{AreScoresIn, DocumentText, Publishes, Shows, row_of, shown_row}
use Rattle.svr_lists.proofs.Changing.{with-terms}

-- ---- documents that are shown

find-mapped : {A : Type 0} (f : A → ℕ × ℕ × List ℕ) (id : ℕ) (xs : List A)
    → option_map f (find (λ x. (f x).0 == id) xs) ≡ find (λ r. r.0 == id) (map f xs)
find-mapped f id [] = refl
find-mapped {A} f id (x ∷ xs) = by ((f x).0 == id) (find-mapped f id xs)
  where
    by : (b : Bool) → option_map f (find (λ x. (f x).0 == id) xs) ≡ find (λ r. r.0 == id) (map f xs)
        → option_map f (cond b (Some x) (find (λ x. (f x).0 == id) xs)) ≡ cond b (Some (f x)) (find (λ r. r.0 == id) (map f xs))
    by true more = refl
    by false more = more

shown-at : (shown : List DocumentText) (documents : List Document) → Shows shown documents → (id : ℕ)
    → option_map shown_row (find (λ d. d.id == id) shown) ≡ option_map row_of (document_at documents id)
shown-at shown documents shows id =
    find-mapped shown_row id shown ∙ ap (find (λ (r : ℕ × ℕ × List ℕ). r.0 == id)) shows ∙ sym (find-mapped row_of id documents)

-- what is told of the score of one is told of the score of the other
shown-score : {A : Type 0} (f : ℕ → A) (o : Option DocumentText) (p : Option Document) → option_map shown_row o ≡ option_map row_of p
    → option_map (λ (d : DocumentText). f d.score) o ≡ option_map (λ (d : Document). f d.score) p
shown-score f None None e = refl
shown-score f None (Some d) e = absurd (cc)
shown-score f (Some d) None e = absurd (cc)
shown-score f (Some a) (Some b) e = let row : shown_row a ≡ row_of b = cc in ap (λ (r : ℕ × ℕ × List ℕ). Some (f r.1)) row

shown-ids : (shown : List DocumentText) (documents : List Document) → Shows shown documents
    → map (λ (d : DocumentText). d.id) shown ≡ map (λ (d : Document). d.id) documents
shown-ids [] [] shows = refl
shown-ids [] (d ∷ ds) shows = absurd (cc)
shown-ids (t ∷ ts) [] shows = absurd (cc)
shown-ids (t ∷ ts) (d ∷ ds) shows =
    let row : shown_row t ≡ row_of d = cc in
    let rest : map shown_row ts ≡ map row_of ds = cc in
    ap₂ (λ (n : ℕ) (ns : List ℕ). n ∷ ns) (ap (λ (r : ℕ × ℕ × List ℕ). r.0) row) (shown-ids ts ds rest)

stand-shown : (all : List Document) (shown : List DocumentText) (documents : List Document) → Shows shown documents
    → AllByRecursion (λ d. document_at all d.id ≡ Some d) documents → AllByRecursion (StandsAs all) shown
stand-shown all [] documents shows there = tt
stand-shown all (t ∷ ts) [] shows there = absurd (cc)
stand-shown all (t ∷ ts) (d ∷ ds) shows there =
    let row : shown_row t ≡ row_of d = cc in
    let rest : map shown_row ts ≡ map row_of ds = cc in (
      record {
        it = d;
        is = ap (λ (r : ℕ × ℕ × List ℕ). document_at all r.0) row ∙ there.0;
        score_is = sym (ap (λ (r : ℕ × ℕ × List ℕ). r.1) row);
        text_is = sym (ap (λ (r : ℕ × ℕ × List ℕ). r.2) row);
      },
      stand-shown all ts ds rest there.1,
    )

-- ---- entries and pages

at-published : (l : Listing) (m : Merge) (id : ℕ) → at (published l m) id ≡ option_map (published_one m) (at l id)
at-published l m id = each l.documents
  where
    each : (ls : List Listed) → find (λ (d : Listed). d.document.id == id) (map (published_one m) ls)
        ≡ option_map (published_one m) (find (λ (d : Listed). d.document.id == id) ls)
    each [] = refl
    each (d ∷ ds) = by (d.document.id == id) (each ds)
      where
        by : (b : Bool) → find (λ (e : Listed). e.document.id == id) (map (published_one m) ds)
            ≡ option_map (published_one m) (find (λ (e : Listed). e.document.id == id) ds)
            → cond b (Some (published_one m d)) (find (λ (e : Listed). e.document.id == id) (map (published_one m) ds))
            ≡ option_map (published_one m) (cond b (Some d) (find (λ (e : Listed). e.document.id == id) ds))
        by true more = refl
        by false more = more

-- a document that is unmoved after a publish has no mark
unmarked : (l : Listing) (m : Merge) (term : List ℕ) (key : ℕ) (d : Listed)
    → ((new : ℕ) → new_key m d.document.id ≡ Some new
    → has_pair (record { key = new; id = d.document.id }) (posted (published l m) term) ≡ has_term d.document term)
    → (published_one m d).entry.moved ≡ false → mark_here (published l m) term key (Some (published_one m d)) ≡ None
unmarked l m term key d posts unmoved = by (new_key m d.document.id) posts unmoved
  where
    none : (b has there : Bool) → there ≡ has
        → cond b (cond (has && (false || not there)) (Some mark.Add) (cond (true && (there && not has)) (Some mark.Rem) None)) None ≡ None
    none false has there e = refl
    none true true true e = refl
    none true false false e = refl
    none true true false e = absurd (cc)
    none true false true e = absurd (cc)

    by : (o : Option ℕ)
        → ((new : ℕ) → o ≡ Some new → has_pair (record { key = new; id = d.document.id }) (posted (published l m) term) ≡ has_term d.document term)
        → (entry_by m.rules d.document.score o).moved ≡ false
        → mark_here (published l m) term key (Some (record { document = d.document; entry = entry_by m.rules d.document.score o })) ≡ None
    by None posts e = absurd (cc)
    by (Some new) posts e = none (new == key) (has_term d.document term) _ (posts new refl)

fresh : (l : Listing) (m : Merge) (run : Run) (entries : List (ℕ × ListKey)) (shown : List DocumentText) → IsListing tokens_of l
    → IsMerge (documents_of l) m → terms_left l m ≡ [] → StandsForMerge run m → Shows shown (documents_of l)
    → AreEntriesBy run shown entries → IsFresh run.method entries run.lists (published l m)
fresh l m run entries shown is merge none stands shows are = record {
  rules = stands.rules;
  entries_are = λ id.
      are id
      ∙ shown-score (λ n. entry_by (chosen_rules run.method) n (value_at run.keys id)) (find (λ d. d.id == id) shown)
      (document_at (documents_of l) id) (shown-at shown (documents_of l) shows id)
      ∙ ap₂ (λ (r : Rules) (o : Option ℕ). option_map (λ (d : Document). entry_by r d.score o) (document_at (documents_of l) id)) stands.rules
      (stands.keys id)
      ∙ sym (entry-published l m id);
  pages_are = stands.pages;
  unmarked = λ term key id unmoved.
      ap (mark_here (published l m) term key) (at-published l m id) ∙ one term key id unmoved;
}
  where
    one : (term : List ℕ) (key id : ℕ) → is_moved (entry_of (published l m).documents id) ≡ false
        → mark_here (published l m) term key (option_map (published_one m) (at l id)) ≡ None
    one term key id unmoved =
        by (at l id) refl (ap (λ (o : Option Listed). is_moved (option_map (λ (d : Listed). d.entry) o)) (sym (at-published l m id)) ∙ unmoved)
      where
        by : (o : Option Listed) → at l id ≡ o → is_moved (option_map (λ (d : Listed). d.entry) (option_map (published_one m) o)) ≡ false
            → mark_here (published l m) term key (option_map (published_one m) o) ≡ None
        by None e u = refl
        by (Some d) e u =
            unmarked l m term key d
            (λ new at_new. (found _ (λ (x : Listed). x.document.id == id) l.documents d
            (posted-published tokens_of l m is merge none) e).0 new at_new term) u

pub installs-run : (index : Indexed) (run : Run) (shown : List DocumentText) (method : Chosen) (entries : List (ℕ × ListKey))
    (lists : List (List ℕ × List PageRef)) → Installs index method entries lists → Takes index method entries lists → method ≡ run.method
    → lists ≡ run.lists → AreEntriesBy run shown entries → InstallsRun index run shown
installs-run index run shown method entries lists installs takes same_method same_lists are = record {
  method_is = takes.method_is ∙ same_method;
  entries_are = λ id. ap (λ (es : List (ℕ × ListKey)). value_at es id) takes.entries_are ∙ are id;
  installs = subst (λ (m : Chosen). Installs index m index.entries run.lists) same_method
      (subst (λ (ps : List (List ℕ × List PageRef)). Installs index method index.entries ps) same_lists
      (subst (λ (es : List (ℕ × ListKey)). Installs index method es lists) (sym takes.entries_are) installs));
}

-- ---- documents are placed

same-pending : (p q : ℕ → Bool) (index : Indexed) (l : Listing) → ((id : ℕ) → p id ≡ q id) → StandsBut p index l → StandsBut q index l
same-pending p q index l same stands = record {
  rules = stands.rules;
  entries = stands.entries;
  marks = λ term key id. stands.marks term key id ∙ ap (λ (b : Bool). cond b None (mark_by_listing l term key id)) (same id);
  pages = stands.pages;
}

-- a moved document is placed
pub places-moved : (old new : Indexed) (d : DocumentText) → Places old new d.id (tokens_of d.text.now) → PlacesOne old new d
places-moved old new d places l placed are shown stands =
    same-pending _ (is_pending l (d.id ∷ placed)) new l (λ id. by (is_moved (entry_of l.documents id)) (d.id == id) (is_in id placed))
    (places (is_pending l placed) l d.score stands (with-terms (documents_of l) d.id d.score d.text.now are shown))
  where
    by : (moved here before : Bool) → (not here && (moved && not before)) ≡ (moved && not (here || before))
    by true true before = refl
    by true false before = refl
    by false true before = refl
    by false false before = refl

-- an unmoved one has nothing to be placed
pub places-unmoved : (index : Indexed) (d : DocumentText) → is_moved (value_at index.entries d.id) ≡ false → PlacesOne index index d
places-unmoved index d unmoved l placed are shown stands =
    same-pending (is_pending l placed) (is_pending l (d.id ∷ placed)) index l (λ id. by id (d.id == id) refl) stands
  where
    by : (id : ℕ) (b : Bool) → (d.id == id) ≡ b
        → (is_moved (entry_of l.documents id) && not (is_in id placed)) ≡ (is_moved (entry_of l.documents id) && not (b || is_in id placed))
    by id true e =
        let here : is_moved (entry_of l.documents id) ≡ false =
        subst (λ (n : ℕ). is_moved (entry_of l.documents n) ≡ false) (eqb-true d.id id e)
        (ap is_moved (sym (stands.entries d.id)) ∙ unmoved) in
        rw here refl
    by id false e = refl

pub places-none : (index : Indexed) (shown placed : List DocumentText) → placed ≡ [] → PlacesThese index index shown placed
places-none index shown placed none l are shows stands =
    subst (λ (ds : List DocumentText). StandsBut (is_pending l (map (λ (d : DocumentText). d.id) ds)) index l) (sym none) stands

-- one more is placed, from the last on
pub places-more : (old index new : Indexed) (shown : List DocumentText) (n less : ℕ) (e : DocumentText) → n ≡ less + 1
    → less < length shown → PlacesThese old index shown (drop n shown) → PlacesOne index new (get_or shown less e)
    → PlacesThese old new shown (drop less shown)
places-more old index new shown n less e next lt these one l are shows stands =
    subst (λ (ds : List DocumentText). StandsBut (is_pending l (map (λ (x : DocumentText). x.id) ds)) new l) (sym (drop_more shown less e lt))
    (one l (map (λ (x : DocumentText). x.id) (drop (less + 1) shown)) are
    (All-get_or (StandsAs (documents_of l)) shown less e lt
    (All-from_recursion (StandsAs (documents_of l)) shown
    (stand-shown (documents_of l) shown (documents_of l) shows (at_itself (documents_of l) are.ascend))))
    (subst (λ (i : ℕ). StandsBut (is_pending l (map (λ (x : DocumentText). x.id) (drop i shown))) index l) next (these l are shows stands)))

-- once all are placed, none is pending
in_ids : (documents : List Document) (id : ℕ) (d : Document) → document_at documents id ≡ Some d
    → is_in id (map (λ (x : Document). x.id) documents) ≡ true
in_ids [] id d e = absurd (cc)
in_ids (x ∷ xs) id d e = by (x.id == id) e (in_ids xs id d)
  where
    by : (b : Bool) → cond b (Some x) (document_at xs id) ≡ Some d
        → (document_at xs id ≡ Some d → is_in id (map (λ (y : Document). y.id) xs) ≡ true)
        → (b || is_in id (map (λ (y : Document). y.id) xs)) ≡ true
    by true e more = refl
    by false e more = more e

none_pending : (l : Listing) (id : ℕ) → (is_moved (entry_of l.documents id) && not (is_in id (map (λ (d : Document). d.id) (documents_of l)))) ≡ false
none_pending l id = by (at l id) refl
  where
    no_more : (b : Bool) → (b && false) ≡ false
    no_more true = refl
    no_more false = refl

    by : (o : Option Listed) → at l id ≡ o
        → (is_moved (option_map (λ (d : Listed). d.entry) o) && not (is_in id (map (λ (d : Document). d.id) (documents_of l)))) ≡ false
    by None e = refl
    by (Some d) e =
        let here : is_in id (map (λ (x : Document). x.id) (documents_of l)) ≡ true =
        in_ids (documents_of l) id d.document (find-document l.documents id ∙ ap (option_map (λ (x : Listed). x.document)) e) in
        rw here (no_more d.entry.moved)

pub places-all : (old new : Indexed) (shown placed : List DocumentText) → placed ≡ shown → PlacesThese old new shown placed
    → PlacesAll old new shown
places-all old new shown placed all these l are shows stands =
    same-pending (is_pending l (map (λ (d : DocumentText). d.id) placed)) (λ _. false) new l
    (λ id. ap (λ (ids : List ℕ). is_moved (entry_of l.documents id) && not (is_in id ids))
    (ap (map (λ (d : DocumentText). d.id)) all ∙ shown-ids shown (documents_of l) shows) ∙ none_pending l id)
    (these l are shows stands)

-- ---- a publish

pub publishes : (old : ListsValue) (run : Run) (between new : Indexed) (shown : List DocumentText) → old.merge ≡ Some run
    → InstallsRun between run shown → PlacesAll between new shown
    → Publishes old (record { index = new; merge = None }) shown
publishes old run between new shown begun installs places s is stands none shows =
    by s.merge is.merge none (subst (λ (o : Option Run). IsMergeOf (documents_of s.listing) o s.merge) begun stands.merge)
  where
    published-stands : (m : Merge) → IsMerge (documents_of s.listing) m → terms_left s.listing m ≡ [] → StandsForMerge run m
        → StandsFor new (published s.listing m)
    published-stands m merge left run_stands =
        let same : documents_of s.listing ≡ documents_of (published s.listing m) = sym (documents-published m s.listing.documents) in
        places (published s.listing m) (subst (AreDocuments tokens_of) same is.listing.documents)
        (subst (Shows shown) same shows)
        (same-pending (λ id. is_moved (entry_of (published s.listing m).documents id)) (is_pending (published s.listing m) []) between
        (published s.listing m) (λ id. sym (no_one (is_moved (entry_of (published s.listing m).documents id))))
        (installs.installs (published s.listing m)
        (fresh s.listing m run between.entries shown is.listing merge left run_stands shows installs.entries_are)))
      where
        no_one : (b : Bool) → (b && true) ≡ b
        no_one true = refl
        no_one false = refl

    by : (o : Option Merge) → ForSome o (IsLawfulMerge (documents_of s.listing))
        → ((m : Merge) → o ≡ Some m → terms_left s.listing m ≡ []) → IsMergeOf (documents_of s.listing) (Some run) o
        → StandsForServed (record { index = new; merge = None }) (record { listing = published_with s.listing o; merge = None })
    by None lawful none merge = absurd merge
    by (Some m) lawful none merge = record {
      index = published-stands m (lawful m refl).merge (none m refl) merge.stands;
      merge = tt;
    }

-- where no merge is begun nothing happens
pub publishes-none : (v : ListsValue) (shown : List DocumentText) → v.merge ≡ None → Publishes v v shown
publishes-none v shown none s is stands left shows =
    by s.merge (subst (λ (o : Option Run). IsMergeOf (documents_of s.listing) o s.merge) none stands.merge)
  where
    by : (o : Option Merge) → IsMergeOf (documents_of s.listing) None o
        → StandsForServed v (record { listing = published_with s.listing o; merge = None })
    by None merge = record { index = stands.index; merge = subst (λ (o : Option Run). IsMergeOf (documents_of s.listing) o None) (sym none) tt }
    by (Some m) merge = absurd merge

-- ---- scores after it

at_entry : (m : Chosen) (score : ℕ) (o : Option ℕ) → score ≤ greatest → ((key : ℕ) → o ≡ Some key → (chosen_rules m).key score ≡ key)
    → IsAtScore (chosen_rules m) (Some score) (Some (entry_by (chosen_rules m) score o))
at_entry m score None low key_is = (low, (chosen_lawful m).stays_at_own score low)
at_entry m score (Some key) low key_is =
    (low, subst (λ (n : ℕ). (chosen_rules m).stays score n ≡ true) (key_is key refl) ((chosen_lawful m).stays_at_own score low))

pub at-published-scores : (old : ListsValue) (run : Run) (between new : Indexed) (shown : List DocumentText) (score : ℕ → Option ℕ)
    → old.merge ≡ Some run → AllByRecursion (λ d. d.score ≤ greatest) shown → InstallsRun between run shown → KeepsEntries between new
    → IsAtScores score old → AreScoresIn shown score → IsAtScores score (record { index = new; merge = None })
at-published-scores old run between new shown score begun low installs keeps at are = record {
  entries = λ id.
      subst (λ (m : Chosen). IsAtScore (chosen_rules m) (score id) (value_at new.entries id)) (sym (keeps.method ∙ installs.method_is))
      (subst (λ (es : List (ℕ × ListKey)). IsAtScore (chosen_rules run.method) (score id) (value_at es id)) (sym keeps.entries)
      (subst (λ (o : Option ListKey). IsAtScore (chosen_rules run.method) (score id) o) (sym (installs.entries_are id))
      (subst (λ (o : Option ℕ). IsAtScore (chosen_rules run.method) o
      (option_map (λ (d : DocumentText). entry_by (chosen_rules run.method) d.score (value_at run.keys id)) (find (λ d. d.id == id) shown)))
      (sym (are id)) (one id))));
  new_keys = λ r e. absurd (cc);
}
  where
    one : (id : ℕ) → IsAtScore (chosen_rules run.method) (option_map (λ (d : DocumentText). d.score) (find (λ d. d.id == id) shown))
        (option_map (λ (d : DocumentText). entry_by (chosen_rules run.method) d.score (value_at run.keys id)) (find (λ d. d.id == id) shown))
    one id = by (find (λ d. d.id == id) shown) refl
      where
        by : (o : Option DocumentText) → find (λ d. d.id == id) shown ≡ o
            → IsAtScore (chosen_rules run.method) (option_map (λ (d : DocumentText). d.score) o)
            (option_map (λ (d : DocumentText). entry_by (chosen_rules run.method) d.score (value_at run.keys id)) o)
        by None e = tt
        by (Some d) e =
            at_entry run.method d.score (value_at run.keys id)
            (found (λ (x : DocumentText). x.score ≤ greatest) (λ x. x.id == id) shown d low e).0
            (λ key at_key.
            let is_score : score id ≡ Some d.score = are id ∙ ap (option_map (λ (x : DocumentText). x.score)) e in
            let key_of : Some ((chosen_rules run.method).key d.score) ≡ Some key =
            ap (option_map (chosen_rules run.method).key) (sym is_score) ∙ at.new_keys run begun id key at_key in
            let same : (chosen_rules run.method).key d.score ≡ key = cc in same)
