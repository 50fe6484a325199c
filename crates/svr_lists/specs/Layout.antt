-- Words of private clauses.
use Rattle.std.specs.Prelude.{◌≡◌, ℕ, ◌+◌, ◌-◌, ◌*◌, ◌^◌, ◌==◌, ◌&&◌, min, ⊤, Bool, true, not, List, [], ◌∷◌, ◌++◌, filter, find, length, map, take}
use Rattle.std.specs.Prelude.{Option, None, Some, option_map, if◌then◌else◌}
use Rattle.std.specs.List.{AllByRecursion, flat_map, list_all}
use Rattle.std.specs.Option.{ForSome, option_and_then}
use Rattle.std.specs.Prelude.{◌≤◌, nat_le, IsSome, IfOk, Result}
use Rattle.svr_num.specs.declared.list_key.ListKey.{ListKey}
use Rattle.svr_chunks.specs.Chosen.{chosen_rules}
use Rattle.svr_idmap.specs.Ids.{SetsValue, value_at}
use Rattle.svr_index.specs.Index.{Indexed, Installs, StandsBut, StandsFor, is_moved}
use Rattle.svr_listing.specs.declared.document.Document.{Document}
use Rattle.svr_listing.specs.declared.pages.Page.{Page}
use Rattle.svr_listing.specs.declared.pages.TermPages as listing
use Rattle.svr_listing.specs.Joined.{is_in}
use Rattle.svr_listing.specs.Kept.{AreDocuments, Ascends, IsListing}
use Rattle.svr_listing.specs.Listing.{Listing, document_at, documents_of, entry_of, stands_by}
use Rattle.svr_listing.specs.Merges.{Merge, entry_by, is_after, live_terms, new_pairs, terms_left}
use Rattle.svr_merge.specs.Images.{MayFillPages, page_parts, pages_bytes}
use Rattle.svr_merge.specs.Runs.{HaveKeys, Run, StandsForMerge}
use Rattle.svr_postpage.specs.Pairs.{is_before, ref_of, first_pair}
use Rattle.svr_postpage.specs.Wanted.{pairs_told}
use Rattle.svr_postpage.specs.declared.page_ref.PageRef.{PageRef}
use Rattle.svr_postpage.specs.declared.pair.Pair.{Pair}
use Rattle.svr_index.specs.Docs.{refs_at}
use Rattle.svr_iter.specs.Asked.{Asks}
use Rattle.svr_iter.specs.declared.fault.ScanFault.{ScanFault}
use Rattle.svr_postpage.specs.declared.page_ref.PageFault.{PageFault}
use Rattle.svr_record.specs.Limits.{TermFits, page_count}
use Rattle.svr_tokens.specs.Tokens.{tokens_of}
use Rattle.svr_lists.specs.Lists.{IsWithText}
use Rattle.svr_lists.specs.Publish.{DocumentText, Shows}
use Rattle.svr_lists.specs.Slices.{AreFirst, Slice, TermPages, pairs_under, slice_of, sliced_term, taken_from}
use Rattle.svr_lists.specs.Taken.{last_of, pages_in, taken_of, terms_in, with_taken}

-- one document has no new key any more, and all else stays
pub record TouchesRun (old new : Run) (id : ℕ) : Type 0 where
  pub keys : SetsValue old.keys new.keys id None
  pub kept : new ≡ record old { keys = new.keys }

-- a document is touched in a merge, if one is begun
abbrev pub IsTouched : Option Run → Option Run → ℕ → Type 0
IsTouched None None id = ⊤
IsTouched (Some old) (Some new) id = TouchesRun old new id
IsTouched None (Some new) id = ⊥
IsTouched (Some old) None id = ⊥

-- how many live terms are behind one, or there are at all, of which a count tells 2^64 - 1 at most
abbrev pub CountsBehind : Indexed → Option (List ℕ) → ℕ → Type 0
CountsBehind index after count =
    (tokens : List ℕ → List (List ℕ)) (l : Listing) → IsListing tokens l → StandsFor index l
    → count ≡ min (length (filter (is_after after) (live_terms l))) (2 ^ 64 - 1)

-- so many live terms behind one were counted, and the others are behind another
abbrev pub CountsOn : Indexed → Option (List ℕ) → Option (List ℕ) → ℕ → Type 0
CountsOn index first after count =
    (tokens : List ℕ → List (List ℕ)) (l : Listing) → IsListing tokens l → StandsFor index l
    → length (filter (is_after first) (live_terms l)) ≡ count + length (filter (is_after after) (live_terms l))

-- ---- slices

-- a term with the pages of these pairs was put behind others
pub record PutsBehind (term : List ℕ) (pairs : List Pair) (old new : List TermPages) (before after : List ℕ) : Type 0 where
  pub terms_are : new ≡ old ++ (sliced_term term pairs ∷ [])
  pub pages_are : after ≡ before ++ pages_bytes pairs
  pub whole : length (pages_bytes pairs) ≡ 4096 * length (page_parts pairs)

-- the pairs are those that the merge makes by bytes told
abbrev pub PutsTerm : Indexed → Run → List ℕ → List ℕ → List TermPages → List TermPages → List ℕ → List ℕ → Type 0
PutsTerm index run term bytes old new before after =
    (l : Listing) (m : Merge) → Ascends (documents_of l) → StandsFor index l → StandsForMerge run m
    → PutsBehind term (new_pairs (stands_by (pairs_told bytes) l term) l m) old new before after

-- a part of a slice was made, and terms are left for the rest of it
pub record IsFrontOf (pairs : List ℕ → List Pair) (all : Slice) (terms : List TermPages) (pages : List ℕ) (left : List (List ℕ)) : Type 0 where
  pub count : ℕ
  pub whole : length pages ≡ 4096 * count
  pub terms_are : all.terms ≡ terms ++ map (λ term. sliced_term term (pairs term)) (taken_from pairs count left)
  pub pages_are : all.pages ≡ pages ++ flat_map (λ term. pages_bytes (pairs term)) (taken_from pairs count left)

-- so many terms at most are still to be taken, behind one
abbrev pub SlicesOn : Indexed → Run → ℕ → ℕ → List ℕ → Option (List ℕ) → List TermPages → List ℕ → Type 0
SlicesOn index run most still bytes after terms pages =
    (tokens : List ℕ → List (List ℕ)) (l : Listing) (m : Merge) → IsListing tokens l → StandsFor index l → StandsForMerge run m
    → IsFrontOf (pairs_under (stands_by (pairs_told bytes) l) l m) (slice_of (stands_by (pairs_told bytes) l) l m most) terms pages
    (take still (filter (is_after after) (live_terms l)))

-- a slice was made of so many terms at most
abbrev pub Slices : Indexed → Run → ℕ → List ℕ → Slice → Type 0
Slices index run most bytes slice =
    (tokens : List ℕ → List (List ℕ)) (l : Listing) (m : Merge) → IsListing tokens l → StandsFor index l → StandsForMerge run m
    → slice ≡ slice_of (stands_by (pairs_told bytes) l) l m most

-- a term has 1 to 255 bytes
abbrev pub has_term_length : List ℕ → Bool
has_term_length term = nat_le 1 (length term) && nat_le (length term) 255

-- a term that comes after the last one was put behind others, with pages of some pairs
pub record AddsTerm (last : Option (List ℕ)) (term : List ℕ) (old new : List TermPages) (before behind : List ℕ) : Type 0 where
  pub pairs : List Pair
  pub may : MayFillPages pairs
  pub comes : is_after last term ≡ true
  pub fits : has_term_length term ≡ true
  pub puts : PutsBehind term pairs old new before behind

-- a slice of so many terms at most, within the limits of a record, which may come behind the last term
pub record IsMade (last : Option (List ℕ)) (most : ℕ) (slice : Slice) : Type 0 where
  pub few : length slice.terms ≤ most
  pub fit : AllByRecursion TermFits slice.terms
  pub whole : length slice.pages ≡ 4096 * page_count slice.terms
  pub may_come : (at : ℕ) → IsSome (taken_of last slice at)

-- these are the first ones of the terms of a slice, by bytes told
abbrev pub AreFirstOf : Indexed → Run → ℕ → List ℕ → List (List ℕ) → Type 0
AreFirstOf index run most bytes terms =
    (tokens : List ℕ → List (List ℕ)) (l : Listing) (m : Merge) → IsListing tokens l → StandsFor index l → StandsForMerge run m
    → AreFirst terms (taken_from (pairs_under (stands_by (pairs_told bytes) l) l m) 0 (take most (terms_left l m)))

-- the pages of terms were asked for in turn, of an index and a run
pub record AsksOn {R : Type 0} (told : Option (List ℕ)) (gives : R → PageRef → R → Type 0) (fails : R → PageRef → PageFault → R → Type 0)
    (index : Indexed) (run : Run) (most : ℕ) (old new : R) (result : Result Slice ScanFault) : Type 0 where
  pub terms : List (List ℕ)
  pub asks : Asks gives fails (flat_map (refs_at index) terms) old new result
  pub of_slice : IfOk result (λ slice. terms ≡ map (λ t. t.term) slice.terms)
  pub first : ForSome told (λ bytes. AreFirstOf index run most bytes terms)

-- ---- slices that are taken

-- the first pair of pages, if there is one
abbrev pub first_of : List Page → Option Pair
first_of [] = None
first_of (page ∷ pages) = Some (first_pair page.head)

-- what pages are known by
abbrev pub heads_of : List Page → List PageRef
heads_of pages = map (λ page. page.head) pages

-- each of these pairs stands before the next one, if there is one
abbrev pub all_before : List Pair → Option Pair → Bool
all_before pairs None = true
all_before pairs (Some next) = list_all (λ pair. is_before pair next) pairs

-- what a page of these pairs is known by, if there are some and they stand before the next one
abbrev pub ref_before : ℕ → Option Pair → Option (List Pair) → Option PageRef
ref_before at next None = None
ref_before at next (Some pairs) = if all_before pairs next then Some (ref_of at pairs) else None

-- a run has these terms with their pages more, and all else stays
pub record TakesPages (old new : Run) (terms : List listing.TermPages) : Type 0 where
  pub stands : (m : Merge) → StandsForMerge old m → StandsForMerge new (with_taken m terms)
  pub last : new.last ≡ last_of old.last terms
  pub kept : new ≡ record old { last = new.last; lists = new.lists }

-- a run has a term more, with the pages in bytes
pub record TakesTerm (old new : Run) (t : TermPages) (bytes : List ℕ) (at : ℕ) : Type 0 where
  pub pages : List Page
  pub gives : pages_in at t.pages bytes ≡ Some pages
  pub takes : TakesPages old new (record { term = t.term; pages = pages } ∷ [])

-- a run has terms more, with the pages in bytes
pub record TakesTerms (old new : Run) (terms : List TermPages) (bytes : List ℕ) (at : ℕ) : Type 0 where
  pub taken : List listing.TermPages
  pub gives : terms_in at terms bytes ≡ Some taken
  pub takes : TakesPages old new taken

-- a run has a slice more, and its new keys are within their ranges
pub record TakesRun (old new : Run) (slice : Slice) (at : ℕ) : Type 0 where
  pub taken : List listing.TermPages
  pub gives : taken_of old.last slice at ≡ Some taken
  pub takes : TakesPages old new taken
  pub within : HaveKeys old.keys

-- the merge that is begun has a slice more
abbrev pub TakesInto : Option Run → Option Run → Slice → ℕ → Type 0
TakesInto (Some old) (Some new) slice at = TakesRun old new slice at
TakesInto None new slice at = ⊥
TakesInto (Some old) None slice at = ⊥

-- the terms of a slice with their pages, if a merge is begun in which it may come next
abbrev pub taken_into : Option Run → Slice → ℕ → Option (List listing.TermPages)
taken_into merge slice at = option_and_then (λ run. taken_of run.last slice at) merge

-- ---- publish

-- each document that is shown has the entry of its new key, and no other has one
abbrev pub AreEntriesBy : Run → List DocumentText → List (ℕ × ListKey) → Type 0
AreEntriesBy run shown entries =
    (id : ℕ) → value_at entries id
    ≡ option_map (λ d. entry_by (chosen_rules run.method) d.score (value_at run.keys id)) (find (λ d. d.id == id) shown)

-- an index has the method and pages of a run and such entries, and no marks
pub record InstallsRun (index : Indexed) (run : Run) (shown : List DocumentText) : Type 0 where
  pub method_is : index.method ≡ run.method
  pub entries_are : AreEntriesBy run shown index.entries
  pub installs : Installs index run.method index.entries run.lists

-- a document is still to be placed where it is moved, and isn't one of those that were
abbrev pub is_pending : Listing → List ℕ → ℕ → Bool
is_pending l placed id = is_moved (entry_of l.documents id) && not (is_in id placed)

-- a document stands as it is shown
abbrev pub StandsAs : List Document → DocumentText → Type 0
StandsAs documents d = IsWithText d.score d.text.now (document_at documents d.id)

-- one document more is placed
abbrev pub PlacesOne : Indexed → Indexed → DocumentText → Type 0
PlacesOne old new d =
    (l : Listing) (placed : List ℕ) → AreDocuments tokens_of (documents_of l) → StandsAs (documents_of l) d
    → StandsBut (is_pending l placed) old l → StandsBut (is_pending l (d.id ∷ placed)) new l

-- these documents are placed
abbrev pub PlacesThese : Indexed → Indexed → List DocumentText → List DocumentText → Type 0
PlacesThese old new shown placed =
    (l : Listing) → AreDocuments tokens_of (documents_of l) → Shows shown (documents_of l)
    → StandsBut (is_pending l []) old l → StandsBut (is_pending l (map (λ d. d.id) placed)) new l

-- all documents are placed
abbrev pub PlacesAll : Indexed → Indexed → List DocumentText → Type 0
PlacesAll old new shown =
    (l : Listing) → AreDocuments tokens_of (documents_of l) → Shows shown (documents_of l)
    → StandsBut (is_pending l []) old l → StandsFor new l
