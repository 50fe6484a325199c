-- Words of private clauses: the lists of single terms that a search goes over.
use Rattle.std.specs.Prelude.{◌≡◌, ℕ, zero, suc, Bool, true, List, [], ◌∷◌, ◌++◌, ⊤, Option, drop}
use Rattle.svr_idmap.specs.Ids.{value_at}
use Rattle.svr_iter.specs.Marks.{is_listed, live_groups}
use Rattle.svr_iter.specs.MemPairs.{grouped}
use Rattle.svr_iter.specs.declared.live.Live.{Live}
use Rattle.svr_listing.specs.Joined.{term_groups}
use Rattle.svr_listing.specs.Kept.{Ascends}
use Rattle.svr_listing.specs.Listing.{Listing, documents_of, groups_by_bytes}
use Rattle.svr_listing.specs.Visits.{IsAnswer}
use Rattle.svr_listing.specs.declared.group.Group.{Group}
use Rattle.svr_listkey.specs.declared.list_keys.ListKeys.{ListKeys}
use Rattle.svr_long.specs.Cursor.{page_pairs, pages_of_key, pairs_left}
use Rattle.svr_long.specs.declared.cursor.LongCursor.{LongCursor}
use Rattle.svr_long.specs.Heads.{are_heads}
use Rattle.svr_num.specs.declared.hit.Hit.{Hit}
use Rattle.svr_num.specs.declared.mode.Mode.{Mode}
use Rattle.svr_postpage.specs.declared.page_ref.PageRef.{PageRef}
use Rattle.svr_short.specs.Short.{marks_of}
use Rattle.svr_short.specs.declared.short_lists.ShortLists.{ShortLists}
use Rattle.svr_index.specs.Docs.{refs_at}
use Rattle.svr_index.specs.Index.{Indexed, StandsFor}

-- the pages of all keys below a number, by descending keys
unfoldable pub pages_below : (ℕ → List PageRef) → ℕ → List PageRef
pages_below pages zero = []
pages_below pages (suc n) = pages n ++ pages_below pages n

-- a list of one term: its posted pages, its marks, and the entries of documents
abbrev pub TermList : Type 0
TermList = Live LongCursor ShortLists ListKeys

abbrev pub groups_of_list : TermList → List ℕ → List Group
groups_of_list list bytes =
    live_groups (value_at list.keys.now) (marks_of list.short.now list.term.now) list.below
    (grouped (pairs_left bytes list.long.buffer (drop list.long.at list.long.pages.now)))

abbrev pub may_of_list : TermList → ℕ → ℕ → Bool
may_of_list list = is_listed (value_at list.keys.now)

abbrev pub pages_of_list : TermList → ℕ → List PageRef
pages_of_list list key = pages_of_key key (drop list.long.at list.long.pages.now)

-- a list has the groups of one term, where it stands by the entries of documents, from the pages of this term
pub record IsListOf (index : Indexed) (term : List ℕ) (list : TermList) : Type 0 where
  pub groups_are : (l : Listing) (bytes : List ℕ) → Ascends (documents_of l) → StandsFor index l
      → groups_of_list list bytes ≡ term_groups (page_pairs bytes) l term
  pub may_is : may_of_list list ≡ is_listed (value_at index.entries)
  pub pages_are : (key : ℕ) → pages_of_list list key ≡ pages_of_key key (refs_at index term)
  pub heads : are_heads (refs_at index term) ≡ true

-- one list for each of the terms
abbrev pub AreListsOf : Indexed → List (List ℕ) → List TermList → Type 0
AreListsOf index [] [] = ⊤
AreListsOf index [] (list ∷ lists) = ⊥
AreListsOf index (term ∷ terms) [] = ⊥
AreListsOf index (term ∷ terms) (list ∷ lists) = IsListOf index term list × AreListsOf index terms lists

-- the answer to a query by bytes told, where a page that is damaged counts for its first pair alone
abbrev pub AnswersByHeads : Indexed → List (List ℕ) → Mode → ℕ → (ℕ → Option ℕ) → List ℕ → List Hit → ℕ → Type 0
AnswersByHeads index terms m k score bytes hits visits =
    (l : Listing) → Ascends (documents_of l) → StandsFor index l
    → IsAnswer k l.rules.bound score (groups_by_bytes (page_pairs bytes) l terms m) hits visits
