-- What is served after the records of a journal, one after the other.
use Rattle.std.specs.Prelude.{◌≡◌, ◌⊎◌, ◌+◌, ◌-◌, ◌==◌, ◌&&◌, ◌||◌, ℕ, Bool, false, not, List, [], ◌∷◌, ◌++◌, length, drop, Option, Some, None, option_map, ⊤}
use Rattle.std.specs.Prelude.{if◌then◌else◌}
use Rattle.std.specs.Option.{is_some, option_and_then}
use Rattle.svr_edge.specs.Disk.{DiskView, Reads}
use Rattle.svr_journal.specs.File.{end_of}
use Rattle.svr_journal.specs.Gates.{Gate, shut, broken, record_of, gate_of}
use Rattle.svr_listing.specs.Listing.{Listing}
use Rattle.svr_listing.specs.Merges.{Merge, terms_left}
use Rattle.svr_record.specs.declared.record.Record.{Record}
use Rattle.svr_record.specs.declared.record.Record.TheVariants as entry
use Rattle.svr_record.specs.declared.record.TermPages.{TermPages}
use Rattle.svr_record.specs.Bodies.{body_of}
use Rattle.svr_record.specs.Grammar.{record_in}
use Rattle.svr_core.specs.declared.plan.Edit.TheVariants as edit
use Rattle.svr_core.specs.Edits.{served_with, slice_with, taken_into}
use Rattle.svr_core.specs.Kept.{CoreValue, ServesAs}
use Rattle.svr_core.specs.Outcomes.{Outcome, edits, entry_outcome, merges, merges_whole, refused, searches}
use Rattle.svr_core.specs.Pages.{HavePages}
use Rattle.svr_core.specs.State.{Served, empty, settled}

-- what is served after what comes of a record, if it is accepted
abbrev pub served_after : Served → Outcome → Option Served
served_after s (refused why) = None
served_after s (searches terms m k) = None
served_after s (edits e kept) = Some (served_with s e)
served_after s (merges part) = None
served_after s merges_whole = None

-- ---- merges

-- a merge is begun
abbrev pub is_merging : Served → Bool
is_merging s = is_some s.listed.merge

-- where the pages of a slice lie, in its record behind others
abbrev pub pages_place : List (List ℕ) → List TermPages → List ℕ → ℕ
pages_place before terms pages = end_of before + 5 + length (body_of (entry.Slice terms pages)) - length pages

-- no term is left
abbrev pub is_built : Listing → Option Merge → Bool
is_built l None = false
is_built l (Some m) = length (terms_left l m) == 0

-- a merge is begun that has no term left; how many it has is said where each slice was the next one
abbrev pub may_publish : Served → Bool
may_publish s = is_merging s && (not s.lawful || is_built s.listed.listing s.listed.merge)

-- the begin of a merge is accepted where a schema is set, also while one is begun
abbrev pub after_begin : Served → Option Served
after_begin s = option_map (λ _. served_with s edit.Begin) s.catalog

-- a slice where it may come next in the merge that is begun
abbrev pub after_slice : List (List ℕ) → Served → List TermPages → List ℕ → Option Served
after_slice before s terms pages =
    option_map (λ _. served_with s (edit.Slice terms pages (pages_place before terms pages)))
    (taken_into s.listed (slice_with terms pages) (pages_place before terms pages))

abbrev pub after_publish : Served → Option Served
after_publish s = if may_publish s then Some (served_with s edit.Publish) else None

-- ---- all records

-- what is served after a record more behind these bodies, if it is accepted
abbrev pub after_record : List (List ℕ) → Served → Record → Option Served
after_record before s entry.Begin = after_begin s
after_record before s (entry.Slice terms pages) = after_slice before s terms pages
after_record before s entry.Publish = after_publish s
after_record before s (entry.Schema text) = served_after s (entry_outcome s.catalog (entry.Schema text))
after_record before s (entry.Change change) = served_after s (entry_outcome s.catalog (entry.Change change))
after_record before s (entry.Load table header block) = served_after s (entry_outcome s.catalog (entry.Load table header block))

-- the same of a body, if it says a record
abbrev pub after_body : List (List ℕ) → Served → List ℕ → Option Served
after_body before s body = option_and_then (after_record before s) (record_in body)

-- what is served after these bodies behind others, if each says a record that is accepted in its place
unfoldable pub replayed : List (List ℕ) → Served → List (List ℕ) → Option Served
replayed before s [] = Some s
replayed before s (body ∷ bodies) = option_and_then (λ next. replayed (before ++ body ∷ []) next bodies) (after_body before s body)

-- what is served where a journal with these bodies is opened, if each is accepted in its place: a merge that wasn't published is forgotten
abbrev pub recovered : List (List ℕ) → Option Served
recovered bodies = option_map settled (replayed [] empty bodies)

-- gate by gate from the first on, these bodies stand behind open gates, and behind them this place is the next
abbrev pub HasGates : List ℕ → ℕ → List (List ℕ) → ℕ → Type 0
HasGates bytes place [] end = place ≡ end
HasGates bytes place (body ∷ bodies) end = (gate_of (drop place bytes) ≡ record_of body) × HasGates bytes (place + 5 + length body) bodies end

-- the records that were read up to the closed gate at that place are accepted, and give what is served by the core
pub record Replays (disk : DiskView) (end : ℕ) (core : CoreValue) : Type 0 where
  pub bodies : List (List ℕ)
  pub served : Served
  pub gives : replayed [] empty bodies ≡ Some served
  pub serves : ServesAs core served
  -- the pages of what is served stand in these records
  pub pages : HavePages bodies served.listed
  pub at_end : end ≡ end_of bodies
  -- where the disk tells its bytes, these are the records there
  pub gates : (bytes : List ℕ) → Reads disk bytes → HasGates bytes 8 bodies end
  pub closed : (bytes : List ℕ) → Reads disk bytes → gate_of (drop end bytes) ≡ shut

-- a publish behind a slice that wasn't the next one, of which it isn't said whether a term is left
pub record IsUnsure (s : Served) (body : List ℕ) : Type 0 where
  pub unlawful : s.lawful ≡ false
  pub publishes : record_in body ≡ Some entry.Publish

-- the gate has no whole record behind it, or one that says no record that is accepted
abbrev pub IsRefusedAt : List (List ℕ) → Served → Gate → Type 0
IsRefusedAt before s shut = ⊥
IsRefusedAt before s broken = ⊤
IsRefusedAt before s (record_of body) = (after_body before s body ≡ None) ⊎ IsUnsure s body

-- behind records that are accepted the gate at that place is at fault
pub record IsAtFault (bytes : List ℕ) (at : ℕ) : Type 0 where
  pub bodies : List (List ℕ)
  pub served : Served
  pub gates : HasGates bytes 8 bodies at
  pub gives : replayed [] empty bodies ≡ Some served
  pub refused : IsRefusedAt bodies served (gate_of (drop at bytes))
