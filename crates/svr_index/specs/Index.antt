-- What an index keeps, and which listing it stands for.
use Rattle.std.specs.Prelude.{◌≡◌, ℕ, ◌==◌, ◌&&◌, Bool, false, not, List, [], map, find, Option, Some, None, IfSome, IsSome, unwrap_or, if◌then◌else◌}
use Rattle.svr_num.specs.declared.list_key.ListKey.{ListKey}
use Rattle.svr_postpage.specs.declared.page_ref.PageRef.{PageRef}
use Rattle.svr_chunks.specs.Chosen.{chosen_rules}
use Rattle.svr_chunks.specs.declared.chosen.Chosen.{Chosen}
use Rattle.svr_idmap.specs.Ids.{SetsValue, value_at}
use Rattle.svr_iter.specs.Effective.{mark_here}
use Rattle.svr_iter.specs.declared.marks.Mark.{Mark}
use Rattle.svr_listing.specs.declared.document.Document.{Document}
use Rattle.svr_listing.specs.Changes.{changed}
use Rattle.svr_listing.specs.Kept.{IsListing}
use Rattle.svr_listing.specs.Listing.{Listing, document_at, documents_of, entry_of, pages_of}
use Rattle.svr_listing.specs.Methods.{Rules}
use Rattle.svr_long.specs.Lists.{pages_at}
use Rattle.svr_short.specs.Short.{Lists, mark_in}

-- its method, the entries of listed documents, their marks, and the posted pages of terms
pub record Indexed : Type 0 where
  pub method : Chosen
  pub entries : List (ℕ × ListKey)
  pub marks : Lists
  pub pages : List (List ℕ × List PageRef)

-- the mark that a document has in a listing, under a term at a key
abbrev pub mark_by_listing : Listing → List ℕ → ℕ → ℕ → Option Mark
mark_by_listing l term key id = mark_here l term key (find (λ d. d.document.id == id) l.documents)

-- a document has marks at the key of its entry alone
abbrev pub AreAtEntries : List (ℕ × ListKey) → Lists → Type 0
AreAtEntries entries marks = (term : List ℕ) (key id : ℕ) → IsSome (mark_in marks term key id) → IfSome (value_at entries id) (λ entry. entry.key ≡ key)

-- an index keeps what a listing says, but for the marks of documents that are still to be placed: those have none yet
pub record StandsBut (pending : ℕ → Bool) (index : Indexed) (l : Listing) : Type 0 where
  pub rules : chosen_rules index.method ≡ l.rules
  pub entries : (id : ℕ) → value_at index.entries id ≡ entry_of l.documents id
  pub marks : (term : List ℕ) (key id : ℕ)
      → mark_in index.marks term key id ≡ (if pending id then None else mark_by_listing l term key id)
  pub pages : (term : List ℕ) → unwrap_or (pages_at index.pages term) [] ≡ map (λ page. page.head) (pages_of l.lists term)

-- an index keeps what a listing says
abbrev pub StandsFor : Indexed → Listing → Type 0
StandsFor index l = StandsBut (λ _. false) index l

-- ---- changes

-- all documents but one are as before
abbrev pub DiffersAt : ℕ → List Document → List Document → Type 0
DiffersAt id before now = (other : ℕ) → (id == other) ≡ false → document_at now other ≡ document_at before other

-- an index follows each change of one document that is such a one: it stood for a listing, and stands for the changed one
abbrev pub Follows : Indexed → Indexed → ℕ → (Option Document → Option Document → Type 0) → Type 0
Follows old new id Change =
    (tokens : List ℕ → List (List ℕ)) (l : Listing) (now : List Document) → IsListing tokens l → StandsFor old l
    → DiffersAt id (documents_of l) now → Change (document_at (documents_of l) id) (document_at now id)
    → StandsFor new (changed l now)

-- method and posted pages are as before, and one document has this entry now, or none; every other has its own
pub record SetsEntry (old new : Indexed) (id : ℕ) (entry : Option ListKey) : Type 0 where
  pub method : new.method ≡ old.method
  pub pages : new.pages ≡ old.pages
  pub entries : SetsValue old.entries new.entries id entry

-- method, posted pages and entries are as before
pub record KeepsEntries (old new : Indexed) : Type 0 where
  pub method : new.method ≡ old.method
  pub pages : new.pages ≡ old.pages
  pub entries : new.entries ≡ old.entries

-- whether a document with this entry, if it is listed, stays there with a score
abbrev pub stays_listed : Rules → ℕ → Option ListKey → Bool
stays_listed rules score None = false
stays_listed rules score (Some entry) = rules.stays score entry.key

-- a document stands that has this score and these terms
pub record IsWith (score : ℕ) (terms : List (List ℕ)) (document : Option Document) : Type 0 where
  pub it : Document
  pub is : document ≡ Some it
  pub score_is : it.score ≡ score
  pub terms_are : it.terms ≡ terms

-- a document comes, with this score and these terms
abbrev pub Comes : ℕ → List (List ℕ) → Option Document → Option Document → Type 0
Comes score terms before now = IsWith score terms now

-- it goes
abbrev pub Goes : Option Document → Option Document → Type 0
Goes before now = now ≡ None

-- it has these terms before and after, and this score now
pub record IsScored (score : ℕ) (terms : List (List ℕ)) (before now : Option Document) : Type 0 where
  pub old_score : ℕ
  pub was : IsWith old_score terms before
  pub is : IsWith score terms now

-- it has those terms now in place of these, at the same score
pub record IsEdited (old new : List (List ℕ)) (before now : Option Document) : Type 0 where
  pub score : ℕ
  pub was : IsWith score old before
  pub is : IsWith score new now

-- ---- after a merge

-- a document is moved, if it is listed
abbrev pub is_moved : Option ListKey → Bool
is_moved None = false
is_moved (Some entry) = entry.moved

-- rules, entries and pages are those of a listing, in which no unmoved document has a mark
pub record IsFresh (method : Chosen) (entries : List (ℕ × ListKey)) (pages : List (List ℕ × List PageRef)) (l : Listing) : Type 0 where
  pub rules : chosen_rules method ≡ l.rules
  pub entries_are : (id : ℕ) → value_at entries id ≡ entry_of l.documents id
  pub pages_are : (term : List ℕ) → unwrap_or (pages_at pages term) [] ≡ map (λ page. page.head) (pages_of l.lists term)
  pub unmarked : (term : List ℕ) (key id : ℕ) → is_moved (entry_of l.documents id) ≡ false → mark_by_listing l term key id ≡ None

-- an index has this method, these entries and these posted pages
pub record Takes (index : Indexed) (method : Chosen) (entries : List (ℕ × ListKey)) (pages : List (List ℕ × List PageRef)) : Type 0 where
  pub method_is : index.method ≡ method
  pub entries_are : index.entries ≡ entries
  pub pages_are : index.pages ≡ pages

-- an index stands for such a listing, but for its moved documents, which are still to be placed
abbrev pub Installs : Indexed → Chosen → List (ℕ × ListKey) → List (List ℕ × List PageRef) → Type 0
Installs index method entries pages =
    (l : Listing) → IsFresh method entries pages l → StandsBut (λ id. is_moved (entry_of l.documents id)) index l

-- a document with these terms is placed, and all others are as they were
abbrev pub Places : Indexed → Indexed → ℕ → List (List ℕ) → Type 0
Places old new id terms =
    (pending : ℕ → Bool) (l : Listing) (score : ℕ) → StandsBut pending old l → IsWith score terms (document_at (documents_of l) id)
    → StandsBut (λ other. not (id == other) && pending other) new l
