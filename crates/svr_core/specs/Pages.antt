-- The pages of a listing and of its merge, as they stand in the records of a journal.
use Rattle.std.specs.Prelude.{◌≡◌, ◌≤◌, ◌+◌, ⊤, ℕ, List, [], ◌∷◌, ◌++◌, flat_map, map, Some}
use Rattle.std.specs.List.{AllByRecursion}
use Rattle.svr_journal.specs.File.{magic, open_record}
use Rattle.svr_listing.specs.Kept.{StandsIn}
use Rattle.svr_listing.specs.Merges.{Merge}
use Rattle.svr_listing.specs.Served as listing
use Rattle.svr_record.specs.Bodies.{body_of}
use Rattle.svr_record.specs.Limits.{IsRecord}
use Rattle.svr_record.specs.declared.record.Record.{Record}
use Rattle.svr_listing.specs.declared.pages.TermPages.{TermPages}

-- the bytes of a journal in front of its closed gate
abbrev pub file_of : List (List ℕ) → List ℕ
file_of bodies = magic ++ flat_map open_record bodies

-- the addresses of the pages of terms
abbrev pub places_in : List TermPages → List ℕ
places_in lists = flat_map (λ list. map (λ page. page.head.at) list.pages) lists

-- pages of 4,096 bytes lie at these addresses one behind the other, from a place on
abbrev pub LieInTurn : ℕ → List ℕ → Type 0
LieInTurn from [] = ⊤
LieInTurn from (at ∷ places) = (from ≤ at) × LieInTurn (at + 4096) places

-- each page of these terms stands in bytes at its address
abbrev pub TermsStand : List ℕ → List TermPages → Type 0
TermsStand told lists = AllByRecursion (λ list. AllByRecursion (StandsIn told) list.pages) lists

-- the pages of terms stand in the records, each at its address, one behind the other
pub record PagesStand (bodies : List (List ℕ)) (lists : List TermPages) : Type 0 where
  pub each : TermsStand (file_of bodies) lists
  pub in_turn : LieInTurn 0 (places_in lists)

-- a body is spelled as the records of its kind are
pub record IsSpelled (body : List ℕ) : Type 0 where
  pub kept : Record
  pub is_record : IsRecord kept
  pub spelled : body ≡ body_of kept

-- the posted pages stand in the records, and those of the merge
pub record HavePages (bodies : List (List ℕ)) (l : listing.Served) : Type 0 where
  pub posted : PagesStand bodies l.listing.lists
  pub merged : (m : Merge) → l.merge ≡ Some m → PagesStand bodies m.lists
