-- Lists of documents by their terms: an index, and the merge that is begun beside it, if one is.
use Rattle.std.specs.Prelude.{◌≡◌, ◌≤◌, ℕ, ◌==◌, true, false, ⊤, List, Option, None, Some, option_map, if◌then◌else◌}
use Rattle.std.specs.Option.{ForSome}
use Rattle.svr_num.specs.declared.list_key.ListKey.{ListKey}
use Rattle.svr_chunks.specs.Chosen.{chosen_rules}
use Rattle.svr_idmap.specs.Ids.{value_at}
use Rattle.svr_tokens.specs.Tokens.{tokens_of}
use Rattle.svr_listing.specs.declared.document.Document.{Document}
use Rattle.svr_listing.specs.Kept.{AreDocuments}
use Rattle.svr_listing.specs.Listing.{document_at, documents_of}
use Rattle.svr_listing.specs.Merges.{Merge}
use Rattle.svr_listing.specs.Methods.{Rules, greatest}
use Rattle.svr_listing.specs.Served.{IsServed, Served, after, change}
use Rattle.svr_index.specs.Index.{DiffersAt, Indexed, StandsFor}
use Rattle.svr_merge.specs.Runs.{HaveDocuments, Run, StandsForMerge}

-- what an index keeps, and what a merge keeps, if one is begun
pub record ListsValue : Type 0 where
  pub index : Indexed
  pub merge : Option Run

-- a run stands for a merge in which no id without a document has a new key
pub record IsRunOf (documents : List Document) (run : Run) (m : Merge) : Type 0 where
  pub stands : StandsForMerge run m
  pub have : HaveDocuments documents m

-- a merge is begun in both, or in neither
abbrev pub IsMergeOf : List Document → Option Run → Option Merge → Type 0
IsMergeOf documents None None = ⊤
IsMergeOf documents (Some run) (Some m) = IsRunOf documents run m
IsMergeOf documents None (Some m) = ⊥
IsMergeOf documents (Some run) None = ⊥

-- lists keep what a listing and its merge say
pub record StandsForServed (v : ListsValue) (s : Served) : Type 0 where
  pub index : StandsFor v.index s.listing
  pub merge : IsMergeOf (documents_of s.listing) v.merge s.merge

-- the last sliced term of the merge that is begun, if one is
abbrev pub last_in : ListsValue → Option (Option (List ℕ))
last_in v = option_map (λ run. run.last) v.merge

-- ---- changes

-- a document stands that has this score and this text
pub record IsWithText (score : ℕ) (text : List ℕ) (document : Option Document) : Type 0 where
  pub it : Document
  pub is : document ≡ Some it
  pub score_is : it.score ≡ score
  pub text_is : it.text ≡ text

-- a document comes where none was, with this score and this text
pub record ComesWithText (score : ℕ) (text : List ℕ) (before now : Option Document) : Type 0 where
  pub new : before ≡ None
  pub is : IsWithText score text now

-- a document goes
abbrev pub GoesAway : Option Document → Option Document → Type 0
GoesAway before now = now ≡ None

-- it has this text before and after, and this score now in place of another
pub record IsRescored (score : ℕ) (text : List ℕ) (before now : Option Document) : Type 0 where
  pub old_score : ℕ
  pub was : IsWithText old_score text before
  pub is : IsWithText score text now
  pub differs : (old_score == score) ≡ false

-- it has that text now in place of this one, at the same score
pub record IsRewritten (old new : List ℕ) (before now : Option Document) : Type 0 where
  pub score : ℕ
  pub was : IsWithText score old before
  pub is : IsWithText score new now

-- lists follow each change of one document that is such a one: they stood for a listing with its merge, and stand for what they are
-- after the change
abbrev pub FollowsDocument : ListsValue → ListsValue → ℕ → (Option Document → Option Document → Type 0) → Type 0
FollowsDocument old new id Change =
    (s : Served) (now : List Document) → IsServed tokens_of s → AreDocuments tokens_of now → StandsForServed old s
    → DiffersAt id (documents_of s.listing) now → Change (document_at (documents_of s.listing) id) (document_at now id)
    → StandsForServed new (after s (change now))

-- ---- scores

-- a document is listed where it has a score, and the score stays at the key of its entry
abbrev pub IsAtScore : Rules → Option ℕ → Option ListKey → Type 0
IsAtScore rules None None = ⊤
IsAtScore rules (Some score) (Some entry) = (score ≤ greatest) × (rules.stays score entry.key ≡ true)
IsAtScore rules None (Some entry) = ⊥
IsAtScore rules (Some score) None = ⊥

-- each id with a new key has a score, and the key is that of the score
abbrev pub HasKeysOfScores : (ℕ → Option ℕ) → Run → Type 0
HasKeysOfScores score run = (id key : ℕ) → value_at run.keys id ≡ Some key → option_map (chosen_rules run.method).key (score id) ≡ Some key

-- documents are listed by these scores
pub record IsAtScores (score : ℕ → Option ℕ) (v : ListsValue) : Type 0 where
  pub entries : (id : ℕ) → IsAtScore (chosen_rules v.index.method) (score id) (value_at v.index.entries id)
  pub new_keys : ForSome v.merge (HasKeysOfScores score)

-- an id has this score now, or none, and every other its own
abbrev pub SetsScore : (ℕ → Option ℕ) → (ℕ → Option ℕ) → ℕ → Option ℕ → Type 0
SetsScore old new id score = (other : ℕ) → new other ≡ (if id == other then score else old other)
