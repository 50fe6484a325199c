-- When entries, marks and posted groups tell of a listing.
use Rattle.std.specs.Prelude.{◌≡◌, ℕ, ◌==◌, List, map, find, Option, Some, None, if◌then◌else◌}
use Rattle.svr_num.specs.declared.list_key.ListKey.{ListKey}
use Rattle.svr_postpage.specs.declared.page_ref.PageRef.{PageRef}
use Rattle.svr_listing.specs.declared.group.Group.{Group}
use Rattle.svr_postpage.specs.declared.pair.Pair.{Pair}
use Rattle.svr_listing.specs.Joined.{ids_at, is_in}
use Rattle.svr_listing.specs.Kept.{Ascends}
use Rattle.svr_listing.specs.declared.document.Listed.{Listed}
use Rattle.svr_listing.specs.Listing.{Listing, descending, documents_of, entry_of, has_pair, is_held, is_removed, pages_of, pairs_by}
use Rattle.svr_iter.specs.Marks.{MarksAt, mark_of, marks_at}
use Rattle.svr_iter.specs.declared.marks.Mark.{Mark}
use Rattle.svr_iter.specs.declared.marks.Mark.TheVariants as mark

-- the mark of a document: an Add where it is held, a Rem where it is removed
abbrev pub mark_by : Listing → List ℕ → Listed → Option Mark
mark_by l term d = if is_held l term d then Some mark.Add else (if is_removed l term d then Some mark.Rem else None)

-- a document has its mark at the key of its entry, and nowhere else
abbrev pub mark_here : Listing → List ℕ → ℕ → Option Listed → Option Mark
mark_here l term key None = None
mark_here l term key (Some d) = if d.entry.key == key then mark_by l term d else None

-- entries, marks and posted groups are those of the listing, where the pages hold what `read` gives
pub record Tells (l : Listing) (term : List ℕ) (read : PageRef → List Pair) (entry : ℕ → Option ListKey) (all : List MarksAt)
    (groups : List Group) : Type 0 where
  pub ascend : Ascends (documents_of l)
  pub entries : (id : ℕ) → entry id ≡ entry_of l.documents id
  pub marks : (key id : ℕ) → mark_of id (marks_at key all) ≡ mark_here l term key (find (λ d. d.document.id == id) l.documents)
  pub keys : map (λ group. group.key) groups ≡ descending (map (λ pair. pair.key) (pairs_by read (pages_of l.lists term)))
  pub ids : (key id : ℕ) → is_in id (ids_at key groups) ≡ has_pair (record { key = key; id = id }) (pairs_by read (pages_of l.lists term))
