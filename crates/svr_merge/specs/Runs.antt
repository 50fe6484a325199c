-- A merge that was begun, and the merge of a listing that it stands for.
use Rattle.std.specs.Prelude.{◌≡◌, ◌<◌, ◌^◌, ℕ, List, [], ◌∷◌, map, Option, None, Some, IfSome, unwrap_or, if◌then◌else◌}
use Rattle.std.specs.Str.{bytes_eq}
use Rattle.svr_chunks.specs.declared.chosen.Chosen.{Chosen}
use Rattle.svr_chunks.specs.Chosen.{chosen_rules}
use Rattle.svr_idmap.specs.Ids.{value_at}
use Rattle.svr_listing.specs.declared.document.Document.{Document}
use Rattle.svr_listing.specs.Listing.{document_at, pages_of}
use Rattle.svr_listing.specs.Merges.{Merge, new_key}
use Rattle.svr_long.specs.Lists.{pages_at}
use Rattle.svr_postpage.specs.declared.page_ref.PageRef.{PageRef}

-- the method, the new keys by id, the last sliced term, and the pages of sliced terms
pub record Run : Type 0 where
  pub method : Chosen
  pub keys : List (ℕ × ℕ)
  pub last : Option (List ℕ)
  pub lists : List (List ℕ × List PageRef)

-- a key and an id within their ranges
pub record IsKeyOf (id key : ℕ) : Type 0 where
  pub key_fits : key < 2 ^ 48
  pub id_fits : id < 2 ^ 63

-- each key and its id are within their ranges
abbrev pub HaveKeys : List (ℕ × ℕ) → Type 0
HaveKeys keys = (id : ℕ) → IfSome (value_at keys id) (IsKeyOf id)

-- the pages of a term; none where it has none
abbrev pub pages_under : List (List ℕ × List PageRef) → List ℕ → List PageRef
pages_under lists term = unwrap_or (pages_at lists term) []

-- pages that there are
abbrev pub if_any : List PageRef → Option (List PageRef)
if_any [] = None
if_any (page ∷ pages) = Some (page ∷ pages)

-- a term has these pages now, or is not there where there is none, and every other has its own
abbrev pub PutsPages : List (List ℕ × List PageRef) → List (List ℕ × List PageRef) → List ℕ → List PageRef → Type 0
PutsPages old new term pages = (t : List ℕ) → pages_at new t ≡ (if bytes_eq term t then if_any pages else pages_at old t)

-- it has the rules, the new keys, the last term and the pages of a merge
pub record StandsForMerge (run : Run) (m : Merge) : Type 0 where
  pub rules : chosen_rules run.method ≡ m.rules
  pub keys : (id : ℕ) → value_at run.keys id ≡ new_key m id
  pub last : run.last ≡ m.last
  pub pages : (term : List ℕ) → pages_under run.lists term ≡ map (λ page. page.head) (pages_of m.lists term)

-- no id without a document has a new key
abbrev pub HaveDocuments : List Document → Merge → Type 0
HaveDocuments documents m = (id : ℕ) → document_at documents id ≡ None → new_key m id ≡ None
