-- A change of one document, in an index and in the merge beside it.
use Rattle.std.proofs.Common.{◌≡◌, ℕ, ◌==◌, Bool, true, false, List, [], ◌∷◌, Option, Some, None, option_map, refl, ap, sym, subst, ◌∙◌}
use Rattle.std.proofs.Common.{ap₂, eqb-true}
use Rattle.std.specs.Str.{bytes_eq}
use Rattle.svr_tokens.specs.Tokens.{tokens_of}
use Rattle.svr_iter.specs.Effective.{mark_here}
use Rattle.svr_listing.specs.declared.document.Document.{Document}
use Rattle.svr_listing.specs.declared.document.Listed.{Listed}
use Rattle.svr_listing.specs.Changes.{changed}
use Rattle.svr_listing.specs.Joined.{is_in}
use Rattle.svr_listing.specs.Kept.{AreDocuments, IsListing}
use Rattle.svr_listing.specs.Listing.{Listing, document_at, documents_of}
use Rattle.svr_listing.specs.Merges.{Merge, is_same, touched}
use Rattle.svr_listing.specs.Served.{IsServed, Served, after, change}
use Rattle.svr_listing.proofs.Changing.{documents-changed}
use Rattle.svr_listing.proofs.Finding.{found, id_found}
use Rattle.svr_listing.proofs.Truths.{false-and}
use Rattle.svr_index.specs.Index.{DiffersAt, Follows, Indexed, IsEdited, IsScored, IsWith, StandsFor}
use Rattle.svr_index.proofs.Following.{at, at-kept}
use Rattle.svr_merge.specs.Runs.{Run}
use Rattle.svr_merge.proofs.Touching.{are-touched, documents-touched, stands-touched, touches-more, touches-none}
use Rattle.svr_lists.specs.Layout.{IsTouched, TouchesRun}
use Rattle.svr_lists.specs.Lists.{ComesWithText, FollowsDocument, GoesAway, IsMergeOf, IsRescored, IsRewritten, IsRunOf, IsWithText, ListsValue}
use Rattle.svr_lists.specs.Lists.{StandsForServed}
use Rattle.svr_lists.proofs.Twice.{same-itself}

-- a document with a text has the terms of the text
terms_of_text : (documents : List Document) (id score : ℕ) (text : List ℕ) → AreDocuments tokens_of documents
    → (with : IsWithText score text (document_at documents id)) → with.it.terms ≡ tokens_of text
terms_of_text documents id score text are with =
    (found (λ (d : Document). d.terms ≡ tokens_of d.text) (λ d. d.id == id) documents with.it are.terms with.is).0 ∙ ap tokens_of with.text_is

pub with-terms : (documents : List Document) (id score : ℕ) (text : List ℕ) → AreDocuments tokens_of documents
    → IsWithText score text (document_at documents id) → IsWith score (tokens_of text) (document_at documents id)
with-terms documents id score text are with = record {
  it = with.it;
  is = with.is;
  score_is = with.score_is;
  terms_are = terms_of_text documents id score text are with;
}

-- ---- the merge

is_in-one : (id other : ℕ) (b : Bool) → (id == other) ≡ b → is_in other (id ∷ []) ≡ b
is_in-one id other true e = rw e refl
is_in-one id other false e = rw e refl

run-touched : (before now : List Document) (id : ℕ) (old new : Run) (m : Merge) → IsRunOf before old m → DiffersAt id before now
    → is_same (document_at before id) (document_at now id) ≡ false → TouchesRun old new id → IsRunOf now new (touched m before now)
run-touched before now id old new m is differs changed touches = record {
  stands = stands-touched before now old new m is.stands touches.kept
      (are-touched before now m old.keys new.keys (id ∷ []) is.have is.stands.keys
      (touches-more old.keys old.keys new.keys id [] (touches-none old.keys) touches.keys)
      (λ other e. by_in other (id == other) refl e) (λ other d at e. by_out other d at (id == other) refl e));
  have = documents-touched m before now;
}
  where
    by_in : (other : ℕ) (b : Bool) → (id == other) ≡ b → is_in other (id ∷ []) ≡ true
        → is_same (document_at before other) (document_at now other) ≡ false
    by_in other true e i =
        subst (λ (n : ℕ). is_same (document_at before n) (document_at now n) ≡ false) (eqb-true id other e) changed
    by_in other false e i = absurd (let no : is_in other (id ∷ []) ≡ false = is_in-one id other false e in cc)

    by_out : (other : ℕ) (d : Document) → document_at before other ≡ Some d → (b : Bool) → (id == other) ≡ b
        → is_in other (id ∷ []) ≡ false → is_same (Some d) (document_at now other) ≡ true
    by_out other d at true e i = absurd (let yes : is_in other (id ∷ []) ≡ true = is_in-one id other true e in cc)
    by_out other d at false e i = ap (is_same (Some d)) (differs other e ∙ at) ∙ same-itself d

merge-touched : (before now : List Document) (id : ℕ) (old new : Option Run) (o : Option Merge) → IsMergeOf before old o
    → DiffersAt id before now → is_same (document_at before id) (document_at now id) ≡ false → IsTouched old new id
    → IsMergeOf now new (option_map (λ m. touched m before now) o)
merge-touched before now id None None None is differs changed touches = tt
merge-touched before now id None None (Some m) is differs changed touches = is
merge-touched before now id None (Some b) o is differs changed touches = absurd touches
merge-touched before now id (Some a) None o is differs changed touches = absurd touches
merge-touched before now id (Some a) (Some b) None is differs changed touches = is
merge-touched before now id (Some a) (Some b) (Some m) is differs changed touches = run-touched before now id a b m is differs changed touches

-- lists follow where the index does, and the document is touched
pub follows-by : (old new : ListsValue) (id : ℕ) (Change Terms : Option Document → Option Document → Type 0)
    → Follows old.index new.index id Terms
    → ((before now : List Document) → AreDocuments tokens_of before → AreDocuments tokens_of now
    → Change (document_at before id) (document_at now id) → Terms (document_at before id) (document_at now id))
    → ((before now : Option Document) → Change before now → is_same before now ≡ false)
    → IsTouched old.merge new.merge id → FollowsDocument old new id Change
follows-by old new id Change Terms follows terms differs touches s now is are stands at changes = record {
  index = follows tokens_of s.listing now is.listing stands.index at
      (terms (documents_of s.listing) now is.listing.documents are changes);
  merge = subst (λ (ds : List Document). IsMergeOf ds new.merge (option_map (λ m. touched m (documents_of s.listing) now) s.merge))
      (sym (documents-changed s.listing.rules s.listing.documents now))
      (merge-touched (documents_of s.listing) now id old.merge new.merge s.merge stands.merge at (differs _ _ changes) touches);
}

-- ---- nothing changes

run-kept : (before now : List Document) (old : Run) (m : Merge) → IsRunOf before old m
    → ((id : ℕ) → document_at now id ≡ document_at before id) → IsRunOf now old (touched m before now)
run-kept before now old m is same = record {
  stands = stands-touched before now old old m is.stands refl
      (are-touched before now m old.keys old.keys [] is.have is.stands.keys (touches-none old.keys)
      (λ other e. absurd (cc)) (λ other d at e. ap (is_same (Some d)) (same other ∙ at) ∙ same-itself d));
  have = documents-touched m before now;
}

merge-kept : (before now : List Document) (old : Option Run) (o : Option Merge) → IsMergeOf before old o
    → ((id : ℕ) → document_at now id ≡ document_at before id) → IsMergeOf now old (option_map (λ m. touched m before now) o)
merge-kept before now None None is same = tt
merge-kept before now None (Some m) is same = is
merge-kept before now (Some a) None is same = is
merge-kept before now (Some a) (Some m) is same = run-kept before now a m is same

index-kept : (tokens : List ℕ → List (List ℕ)) (index : Indexed) (l : Listing) (now : List Document) → IsListing tokens l → StandsFor index l
    → ((id : ℕ) → document_at now id ≡ document_at (documents_of l) id) → StandsFor index (changed l now)
index-kept tokens index l now is stood same = record {
  rules = stood.rules;
  entries = λ id. stood.entries id ∙ ap (option_map (λ (d : Listed). d.entry)) (sym (at-kept tokens l now id is (same id)));
  marks = λ term key id.
      stood.marks term key id ∙ same_lists term key (at l id)
      ∙ ap (mark_here (changed l now) term key) (sym (at-kept tokens l now id is (same id)));
  pages = stood.pages;
}
  where
    same_lists : (term : List ℕ) (key : ℕ) (o : Option Listed) → mark_here l term key o ≡ mark_here (changed l now) term key o
    same_lists term key None = refl
    same_lists term key (Some d) = refl

-- lists that stay stand for what they are after a change that changes nothing
pub stands-kept : (v : ListsValue) (s : Served) (now : List Document) → IsServed tokens_of s → StandsForServed v s
    → ((id : ℕ) → document_at now id ≡ document_at (documents_of s.listing) id) → StandsForServed v (after s (change now))
stands-kept v s now is stands same = record {
  index = index-kept tokens_of v.index s.listing now is.listing stands.index same;
  merge = subst (λ (ds : List Document). IsMergeOf ds v.merge (option_map (λ m. touched m (documents_of s.listing) now) s.merge))
      (sym (documents-changed s.listing.rules s.listing.documents now))
      (merge-kept (documents_of s.listing) now v.merge s.merge stands.merge same);
}

-- ---- each kind of change

nothing_same : (o : Option Document) → is_same o None ≡ false
nothing_same None = refl
nothing_same (Some d) = refl

pub goes-differs : (before now : Option Document) → GoesAway before now → is_same before now ≡ false
goes-differs before now goes = rw goes (nothing_same before)

pub comes-differs : (score : ℕ) (text : List ℕ) (before now : Option Document) → ComesWithText score text before now
    → is_same before now ≡ false
comes-differs score text before now comes = rw comes.new refl

pub scored-differs : (score : ℕ) (text : List ℕ) (before now : Option Document) → IsRescored score text before now
    → is_same before now ≡ false
scored-differs score text before now scored =
    rw scored.was.is (rw scored.is.is (rw scored.was.score_is (rw scored.is.score_is (rw scored.differs refl))))

pub scored-terms : (before now : List Document) (id score : ℕ) (text : List ℕ) → AreDocuments tokens_of before → AreDocuments tokens_of now
    → IsRescored score text (document_at before id) (document_at now id)
    → IsScored score (tokens_of text) (document_at before id) (document_at now id)
scored-terms before now id score text were are scored = record {
  old_score = scored.old_score;
  was = with-terms before id scored.old_score text were scored.was;
  is = with-terms now id score text are scored.is;
}

pub rewritten-terms : (before now : List Document) (id : ℕ) (old new : List ℕ) → AreDocuments tokens_of before → AreDocuments tokens_of now
    → IsRewritten old new (document_at before id) (document_at now id)
    → IsEdited (tokens_of old) (tokens_of new) (document_at before id) (document_at now id)
rewritten-terms before now id old new were are edited = record {
  score = edited.score;
  was = with-terms before id edited.score old were edited.was;
  is = with-terms now id edited.score new are edited.is;
}

pub rewritten-differs : (old new : List ℕ) → bytes_eq old new ≡ false → (before now : Option Document) → IsRewritten old new before now
    → is_same before now ≡ false
rewritten-differs old new e before now edited =
    rw edited.was.is
    (rw edited.is.is
    (rw edited.was.score_is
    (rw edited.is.score_is (rw edited.was.text_is (rw edited.is.text_is (rw e (false-and (edited.score == edited.score))))))))

same_document : (a b : Document) → a.id ≡ b.id → a.score ≡ b.score → a.text ≡ b.text → a.terms ≡ b.terms → a ≡ b
same_document a b ids scores texts terms =
    ap₂ (λ (i s : ℕ). record { id = i; score = s; text = a.text; terms = a.terms }) ids scores
    ∙ ap₂ (λ (t : List ℕ) (ts : List (List ℕ)). record { id = b.id; score = b.score; text = t; terms = ts }) texts terms

-- a document that is rewritten to its text stays what it is
same-rewritten : (before now : List Document) (id : ℕ) (text : List ℕ) → AreDocuments tokens_of before → AreDocuments tokens_of now
    → IsRewritten text text (document_at before id) (document_at now id) → document_at now id ≡ document_at before id
same-rewritten before now id text were are edited =
    edited.is.is
    ∙ ap (λ (d : Document). Some d)
    (same_document edited.is.it edited.was.it
    (id_found now id edited.is.it edited.is.is ∙ sym (id_found before id edited.was.it edited.was.is))
    (edited.is.score_is ∙ sym edited.was.score_is) (edited.is.text_is ∙ sym edited.was.text_is)
    (terms_of_text now id edited.score text are edited.is ∙ sym (terms_of_text before id edited.score text were edited.was)))
    ∙ sym edited.was.is

-- so lists stay
pub follows-same : (v : ListsValue) (id : ℕ) (old new : List ℕ) → old ≡ new → FollowsDocument v v id (IsRewritten old new)
follows-same v id old new same s now is are stands differs edited =
    stands-kept v s now is stands (λ other. by other (id == other) refl)
  where
    kept : document_at now id ≡ document_at (documents_of s.listing) id
    kept =
        same-rewritten (documents_of s.listing) now id new is.listing.documents are
        (subst (λ (t : List ℕ). IsRewritten t new (document_at (documents_of s.listing) id) (document_at now id)) same edited)

    by : (other : ℕ) (b : Bool) → (id == other) ≡ b → document_at now other ≡ document_at (documents_of s.listing) other
    by other true e = subst (λ (n : ℕ). document_at now n ≡ document_at (documents_of s.listing) n) (eqb-true id other e) kept
    by other false e = differs other e
