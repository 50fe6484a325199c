-- What a change of one document does to the marks and entries of a listing.
use Rattle.std.proofs.Common.{◌≡◌, ℕ, ◌==◌, ◌&&◌, ◌||◌, Bool, true, false, not, cond, List, [], ◌∷◌, map, Option, Some, None, option_map}
use Rattle.std.proofs.Common.{refl, ap, sym, subst, ◌∙◌, eqb-true}
use Rattle.std.specs.List.{find, list_any}
use Rattle.std.specs.Str.{bytes_eq}
use Rattle.svr_num.specs.declared.list_key.ListKey.{ListKey}
use Rattle.svr_chunks.specs.Chosen.{chosen_rules}
use Rattle.svr_chunks.specs.declared.chosen.Chosen.{Chosen}
use Rattle.svr_idmap.specs.Ids.{SetsValue, value_at}
use Rattle.svr_iter.specs.Effective.{mark_here}
use Rattle.svr_iter.specs.declared.marks.Mark.{Mark}
use Rattle.svr_iter.specs.declared.marks.Mark.TheVariants as mark
use Rattle.svr_listing.specs.declared.document.Document.{Document}
use Rattle.svr_listing.specs.declared.document.Listed.{Listed}
use Rattle.svr_listing.specs.Changes.{changed, entry_now, listed_now, moved_to}
use Rattle.svr_listing.specs.Kept.{IsListing}
use Rattle.svr_listing.specs.Listing.{Listing, document_at, documents_of, entry_of, has_pair, posted}
use Rattle.svr_listing.proofs.Finding.{by_option, find-document, found, id_found, some_of}
use Rattle.svr_listing.specs.Methods.{Rules}
use Rattle.svr_index.specs.Index.{DiffersAt, Indexed, StandsFor, mark_by_listing, stays_listed}
use Rattle.svr_short.specs.Short.{HasMarks, KeepsOthers, adds_at, edited_at, mark_added, mark_in, mark_removed}
use Rattle.svr_tokens.specs.Tokens.{has_term}

abbrev pub at : Listing → ℕ → Option Listed
at l id = find (λ (d : Listed). d.document.id == id) l.documents

-- the document at an id after a change, with its entry
pub at-changed : (l : Listing) (now : List Document) (id : ℕ)
    → at (changed l now) id ≡ option_map (listed_now l.rules l.documents) (document_at now id)
at-changed l [] id = refl
at-changed l (d ∷ ds) id =
    by (d.id == id) (find (λ (e : Listed). e.document.id == id) (map (listed_now l.rules l.documents) ds)) (document_at ds id) (at-changed l ds id)
  where
    by : (b : Bool) (x : Option Listed) (y : Option Document) → x ≡ option_map (listed_now l.rules l.documents) y
        → cond b (Some (listed_now l.rules l.documents d)) x ≡ option_map (listed_now l.rules l.documents) (cond b (Some d) y)
    by true x y e = refl
    by false x y e = e

-- a document that stays as it was, stays listed as it was
pub at-kept : (tokens : List ℕ → List (List ℕ)) (l : Listing) (now : List Document) (id : ℕ) → IsListing tokens l
    → document_at now id ≡ document_at (documents_of l) id → at (changed l now) id ≡ at l id
at-kept tokens l now id is same =
    at-changed l now id ∙ ap (option_map (listed_now l.rules l.documents)) (same ∙ find-document l.documents id)
    ∙ by_option (λ (o : Option Listed). at l id ≡ o → option_map (listed_now l.rules l.documents) (option_map (λ (d : Listed). d.document) o) ≡ o)
    (at l id) (λ _ _. refl) (λ x e _. stays x e) refl
  where
    stays : (x : Listed) → at l id ≡ Some x → Some (listed_now l.rules l.documents x.document) ≡ Some x
    stays x e =
        let is_found = found (λ (d : Listed). l.rules.stays d.document.score d.entry.key ≡ true) (λ (d : Listed). d.document.id == id)
        l.documents x is.stay e in
        let here : x.document.id ≡ id = eqb-true x.document.id id is_found.1 in
        let entry : entry_of l.documents x.document.id ≡ Some x.entry =
        ap (entry_of l.documents) here ∙ ap (option_map (λ (d : Listed). d.entry)) e in
        let now : entry_now l.rules x.document.score (entry_of l.documents x.document.id) ≡ x.entry =
        rw (entry) (rw (is_found.0) refl) in
        ap (λ (k : ListKey). Some (record { document = x.document; entry = k })) now

-- the lists stay, so the marks of a document go by its entry and terms alone
same_lists : (l : Listing) (now : List Document) (term : List ℕ) (key : ℕ) (o : Option Listed)
    → mark_here l term key o ≡ mark_here (changed l now) term key o
same_lists l now term key None = refl
same_lists l now term key (Some d) = refl

-- an index that has the new entry and marks of one document, and those of all others as before, stands for the changed listing
pub stands-after : (tokens : List ℕ → List (List ℕ)) (old new : Indexed) (l : Listing) (now : List Document) (id : ℕ)
    → IsListing tokens l → StandsFor old l → DiffersAt id (documents_of l) now
    → new.method ≡ old.method → new.pages ≡ old.pages
    → SetsValue old.entries new.entries id (option_map (λ (d : Listed). d.entry) (at (changed l now) id))
    → KeepsOthers old.marks new.marks id → HasMarks new.marks id (λ term key. mark_here l term key (at (changed l now) id))
    → StandsFor new (changed l now)
stands-after tokens old new l now id is stood differs method pages entries others marks = record {
  rules = ap chosen_rules method ∙ stood.rules;
  entries = λ other. entries other ∙ by_entry other (id == other) refl;
  marks = λ term key other. by_mark term key other (id == other) refl;
  pages = λ term. rw (pages) (stood.pages term);
}
  where
    by_entry : (other : ℕ) (b : Bool) → (id == other) ≡ b
        → cond b (option_map (λ (d : Listed). d.entry) (at (changed l now) id)) (value_at old.entries other)
        ≡ entry_of (changed l now).documents other
    by_entry other true e = ap (λ (n : ℕ). option_map (λ (d : Listed). d.entry) (at (changed l now) n)) (eqb-true id other e)
    by_entry other false e =
        stood.entries other ∙ ap (option_map (λ (d : Listed). d.entry)) (sym (at-kept tokens l now other is (differs other e)))

    by_mark : (term : List ℕ) (key other : ℕ) (b : Bool) → (id == other) ≡ b
        → mark_in new.marks term key other ≡ mark_by_listing (changed l now) term key other
    by_mark term key other true e =
        subst (λ (n : ℕ). mark_in new.marks term key n ≡ mark_by_listing (changed l now) term key n) (eqb-true id other e)
        (marks term key ∙ same_lists l now term key (at (changed l now) id))
    by_mark term key other false e =
        others term key other e ∙ stood.marks term key other
        ∙ same_lists l now term key (at l other)
        ∙ ap (mark_here (changed l now) term key) (sym (at-kept tokens l now other is (differs other e)))

-- ---- the entry and marks of one document after its change

-- a document that is listed anew has an Add under each of its terms, and no other mark
pub moved-marks : (l : Listing) (d : Document) (at_key : ℕ) (term : List ℕ) (key : ℕ)
    → mark_here l term key (Some (record { document = d; entry = record { key = at_key; moved = true } })) ≡ adds_at at_key (has_term d.terms) term key
moved-marks l d at_key term key = by (at_key == key) (list_any (bytes_eq term) d.terms)
  where
    by : (b has : Bool) → cond b (cond (has && true) (Some mark.Add) None) None ≡ cond (b && has) (Some mark.Add) None
    by true true = refl
    by true false = refl
    by false has = refl

-- the document that comes or stays, at its id
abbrev pub here : Listing → List Document → ℕ → Document → Option ListKey → Type 0
here l now id d entry = at (changed l now) id ≡ Some (record { document = d; entry = entry_now l.rules d.score entry })

pub at-here : (l : Listing) (now : List Document) (id : ℕ) (d : Document) (entry : Option ListKey) → document_at now id ≡ Some d
    → entry_of l.documents id ≡ entry → here l now id d entry
at-here l now id d entry e was =
    at-changed l now id ∙ ap (option_map (listed_now l.rules l.documents)) e
    ∙ ap (λ (o : Option ListKey). Some (record { document = d; entry = entry_now l.rules d.score o }))
    (ap (entry_of l.documents) (id_found now id d e) ∙ was)

-- a document is listed anew
pub follows-moved : (tokens : List ℕ → List (List ℕ)) (old new : Indexed) (l : Listing) (now : List Document) (id at_key score : ℕ)
    (terms : List (List ℕ)) (d : Document) (entry : Option ListKey) → IsListing tokens l → StandsFor old l → DiffersAt id (documents_of l) now
    → document_at now id ≡ Some d → d.score ≡ score → d.terms ≡ terms → entry_of l.documents id ≡ entry
    → entry_now l.rules score entry ≡ record { key = at_key; moved = true }
    → new.method ≡ old.method → new.pages ≡ old.pages
    → SetsValue old.entries new.entries id (Some (record { key = at_key; moved = true }))
    → KeepsOthers old.marks new.marks id → HasMarks new.marks id (adds_at at_key (has_term terms))
    → StandsFor new (changed l now)
follows-moved tokens old new l now id at_key score terms d entry is stood differs e same_score same_terms was moved method pages entries others marks =
    let place : at (changed l now) id ≡ Some (record { document = d; entry = record { key = at_key; moved = true } }) =
    at-here l now id d entry e was
    ∙ ap (λ (k : ListKey). Some (record { document = d; entry = k }))
    (ap (λ (n : ℕ). entry_now l.rules n entry) same_score ∙ moved) in
    stands-after tokens old new l now id is stood differs method pages
    (λ other. entries other ∙ ap (λ (o : Option Listed). cond (id == other) (option_map (λ (d : Listed). d.entry) o) (value_at old.entries other)) (sym place))
    others
    (λ term key. marks term key ∙ ap (λ (ts : List (List ℕ)). adds_at at_key (has_term ts) term key) (sym same_terms)
    ∙ sym (moved-marks l d at_key term key)
    ∙ ap (mark_here l term key) (sym place))

-- a document goes
pub follows-gone : (tokens : List ℕ → List (List ℕ)) (old new : Indexed) (l : Listing) (now : List Document) (id : ℕ)
    → IsListing tokens l → StandsFor old l → DiffersAt id (documents_of l) now
    → document_at now id ≡ None → new.method ≡ old.method → new.pages ≡ old.pages
    → SetsValue old.entries new.entries id None → KeepsOthers old.marks new.marks id → HasMarks new.marks id (λ _ _. None)
    → StandsFor new (changed l now)
follows-gone tokens old new l now id is stood differs e method pages entries others marks =
    let place : at (changed l now) id ≡ None = at-changed l now id ∙ ap (option_map (listed_now l.rules l.documents)) e in
    stands-after tokens old new l now id is stood differs method pages
    (λ other. entries other ∙ ap (λ (o : Option Listed). cond (id == other) (option_map (λ (d : Listed). d.entry) o) (value_at old.entries other)) (sym place))
    others
    (λ term key. marks term key ∙ ap (mark_here l term key) (sym place))

-- ---- a document stays at its key

-- the entry of one that stays is the one that it had
abbrev pub kept_entry : Listing → List Document → ℕ → Document → ListKey → Type 0
kept_entry l now id d entry = at (changed l now) id ≡ Some (record { document = d; entry = entry })

pub at-stays : (l : Listing) (now : List Document) (id : ℕ) (d : Document) (entry : ListKey) → document_at now id ≡ Some d
    → entry_of l.documents id ≡ Some entry → l.rules.stays d.score entry.key ≡ true → kept_entry l now id d entry
at-stays l now id d entry e was stays =
    at-here l now id d (Some entry) e was
    ∙ ap (λ (b : Bool). Some (record { document = d; entry = cond b entry (moved_to l.rules d.score) })) stays

-- the document that was there, with its entry
pub at-before : (l : Listing) (id : ℕ) (b : Document) (entry : ListKey) → document_at (documents_of l) id ≡ Some b
    → entry_of l.documents id ≡ Some entry → at l id ≡ Some (record { document = b; entry = entry })
at-before l id b entry e was =
    let x = some_of (λ (d : Listed). d.document) (at l id) b (sym (find-document l.documents id) ∙ e) in
    let same : Some x.0.entry ≡ Some entry = ap (option_map (λ (d : Listed). d.entry)) (sym x.1) ∙ was in
    x.1 ∙ ap (λ (d : Document). Some (record { document = d; entry = x.0.entry })) x.2
    ∙ ap (λ (o : Option ListKey). option_map (λ (k : ListKey). record { document = b; entry = k }) o) same

-- the mark of a document at its key, by what it has and what is posted there
abbrev pub mark_for : (has moved there : Bool) → Option Mark
mark_for has moved there = cond (has && (moved || not there)) (Some mark.Add) (cond (not moved && (there && not has)) (Some mark.Rem) None)

abbrev pub is_there : Listing → List ℕ → ListKey → ℕ → Bool
is_there l term entry id = has_pair (record { key = entry.key; id = id }) (posted l term)

pub mark-is : (l : Listing) (term : List ℕ) (key id : ℕ) (d : Document) (entry : ListKey) → d.id ≡ id
    → mark_here l term key (Some (record { document = d; entry = entry }))
    ≡ cond (entry.key == key) (mark_for (list_any (bytes_eq term) d.terms) entry.moved (is_there l term entry id)) None
mark-is l term key id d entry e =
    ap (λ (n : ℕ). cond (entry.key == key) (mark_for (list_any (bytes_eq term) d.terms) entry.moved (is_there l term entry n)) None) e

-- whether a term comes or goes decides what becomes of the mark
pub mark-edited : (had has moved there b : Bool) (old : Option Mark) → old ≡ cond b (mark_for had moved there) None
    → cond b (mark_for has moved there) None
    ≡ cond b (cond (has && not had) (mark_added old) (cond (had && not has) (mark_removed old) old)) old
mark-edited true true moved there true old e = sym e
mark-edited false false moved there true old e = sym e
mark-edited true false true there true old e = rw e refl
mark-edited true false false true true old e = rw e refl
mark-edited true false false false true old e = rw e refl
mark-edited false true true there true old e = rw e refl
mark-edited false true false true true old e = rw e refl
mark-edited false true false false true old e = rw e refl
mark-edited had has moved there false old e = sym e

-- an id that has a value may be said to be given it
pub set-again : (entries : List (ℕ × ListKey)) (id : ℕ) (entry : ListKey) → value_at entries id ≡ Some entry → SetsValue entries entries id (Some entry)
set-again entries id entry e other = by (id == other) refl
  where
    by : (b : Bool) → (id == other) ≡ b → value_at entries other ≡ cond b (Some entry) (value_at entries other)
    by true same = subst (λ (n : ℕ). value_at entries n ≡ Some entry) (eqb-true id other same) e
    by false away = refl

-- a document stays at its key, with the terms that it has now
pub follows-stays : (tokens : List ℕ → List (List ℕ)) (old new : Indexed) (l : Listing) (now : List Document) (id : ℕ)
    (had terms : List (List ℕ)) (b d : Document) (entry : ListKey) → IsListing tokens l → StandsFor old l → DiffersAt id (documents_of l) now
    → document_at (documents_of l) id ≡ Some b → document_at now id ≡ Some d → b.terms ≡ had → d.terms ≡ terms
    → entry_of l.documents id ≡ Some entry → l.rules.stays d.score entry.key ≡ true
    → new.method ≡ old.method → new.pages ≡ old.pages → new.entries ≡ old.entries
    → KeepsOthers old.marks new.marks id
    → HasMarks new.marks id (edited_at entry.key (λ term. has_term terms term && not (has_term had term))
    (λ term. has_term had term && not (has_term terms term)) (λ term key. mark_in old.marks term key id))
    → StandsFor new (changed l now)
follows-stays tokens old new l now id had terms b d entry is stood differs e_b e_d had_is terms_are was stays method pages entries others marks =
    let place : at (changed l now) id ≡ Some (record { document = d; entry = entry }) = at-stays l now id d entry e_d was stays in
    let place_before : at l id ≡ Some (record { document = b; entry = entry }) = at-before l id b entry e_b was in
    stands-after tokens old new l now id is stood differs method pages
    (λ other. ap (λ (es : List (ℕ × ListKey)). value_at es other) entries
    ∙ set-again old.entries id entry (stood.entries id ∙ was) other
    ∙ ap (λ (o : Option Listed). cond (id == other) (option_map (λ (d : Listed). d.entry) o) (value_at old.entries other)) (sym place))
    others
    (λ term key. marks term key ∙ sym (mark-edited (list_any (bytes_eq term) had) (list_any (bytes_eq term) terms) entry.moved
    (is_there l term entry id) (entry.key == key) (mark_in old.marks term key id)
    (stood.marks term key id ∙ ap (mark_here l term key) place_before ∙ mark-is l term key id b entry (id_found (documents_of l) id b e_b)
    ∙ ap (λ (ts : List (List ℕ)). cond (entry.key == key) (mark_for (list_any (bytes_eq term) ts) entry.moved (is_there l term entry id)) None) had_is))
    ∙ ap (λ (ts : List (List ℕ)). cond (entry.key == key) (mark_for (list_any (bytes_eq term) ts) entry.moved (is_there l term entry id)) None) (sym terms_are)
    ∙ sym (mark-is l term key id d entry (id_found now id d e_d))
    ∙ ap (mark_here l term key) (sym place))

-- a key that a method gives is the key of the listing's rules
pub rules-key : (old : Indexed) (l : Listing) (method : Chosen) (score k : ℕ) → StandsFor old l → method ≡ old.method
    → k ≡ (chosen_rules method).key score
    → ◌≡◌ {A = ListKey} (record { key = l.rules.key score; moved = true }) (record { key = k; moved = true })
rules-key old l method score k stood same e =
    ap (λ (n : ℕ). record { key = n; moved = true })
    (sym (e ∙ ap (λ (m : Chosen). (chosen_rules m).key score) same ∙ ap (λ (r : Rules). r.key score) stood.rules))

-- whether a score stays is said by the listing's rules
pub rules-stay : (old : Indexed) (l : Listing) (method : Chosen) (score key : ℕ) (b : Bool) → StandsFor old l → method ≡ old.method
    → b ≡ (chosen_rules method).stays score key → l.rules.stays score key ≡ b
rules-stay old l method score key b stood same e =
    sym (e ∙ ap (λ (m : Chosen). (chosen_rules m).stays score key) same ∙ ap (λ (r : Rules). r.stays score key) stood.rules)

-- a document that doesn't stay at its key is moved, and so is one that isn't listed
pub entry_now-moved : (rules : Rules) (score : ℕ) (entry : Option ListKey) → stays_listed rules score entry ≡ false
    → entry_now rules score entry ≡ moved_to rules score
entry_now-moved rules score None e = refl
entry_now-moved rules score (Some entry) e = ap (λ (b : Bool). cond b entry (moved_to rules score)) e

-- one that stays has its entry still
pub entry_now-stays : (rules : Rules) (score : ℕ) (entry : Option ListKey) → stays_listed rules score entry ≡ true
    → entry ≡ Some (entry_now rules score entry)
entry_now-stays rules score None e = absurd (cc)
entry_now-stays rules score (Some entry) e = sym (ap (λ (b : Bool). Some (cond b entry (moved_to rules score))) e)

-- the entry of a listed document is that of the listing
pub was_listed : (old : Indexed) (l : Listing) (entries : List (ℕ × ListKey)) (id : ℕ) (entry : ListKey) → StandsFor old l
    → entries ≡ old.entries → Some entry ≡ value_at entries id → entry_of l.documents id ≡ Some entry
was_listed old l entries id entry stood same e =
    sym (e ∙ ap (λ (es : List (ℕ × ListKey)). value_at es id) same ∙ stood.entries id)

-- no term comes or goes
pub unedited : (had terms : List (List ℕ)) (at_key : ℕ) (marks : List ℕ → ℕ → Option Mark) → had ≡ terms → (term : List ℕ) (key : ℕ)
    → marks term key ≡ edited_at at_key (λ t. has_term terms t && not (has_term had t)) (λ t. has_term had t && not (has_term terms t)) marks term key
unedited had terms at_key marks same term key =
    by (at_key == key) (has_term terms term) (has_term had term) (ap (λ (ts : List (List ℕ)). has_term ts term) same)
  where
    by : (b has was : Bool) → was ≡ has → marks term key ≡ cond b (cond (has && not was) (mark_added (marks term key))
        (cond (was && not has) (mark_removed (marks term key)) (marks term key))) (marks term key)
    by false has was e = refl
    by true true true e = refl
    by true false false e = refl
    by true true false e = absurd (cc)
    by true false true e = absurd (cc)

-- a listed document's score stays at its key
pub stays-there : (tokens : List ℕ → List (List ℕ)) (l : Listing) (id : ℕ) (b : Document) (entry : ListKey) → IsListing tokens l
    → document_at (documents_of l) id ≡ Some b → entry_of l.documents id ≡ Some entry → l.rules.stays b.score entry.key ≡ true
stays-there tokens l id b entry is e was =
    (found (λ (d : Listed). l.rules.stays d.document.score d.entry.key ≡ true) (λ (d : Listed). d.document.id == id) l.documents
    (record { document = b; entry = entry }) is.stay (at-before l id b entry e was)).0
