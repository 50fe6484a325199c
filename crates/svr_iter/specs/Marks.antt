-- Marks of a term, and the documents that stand under it.
use Rattle.std.specs.Prelude.{◌<◌, ◌^◌, ℕ, ◌==◌, ◌&&◌, Bool, true, false, not, List, [], ◌∷◌, map, filter, nat_lt, Option, Some, None, if◌then◌else◌}
use Rattle.std.specs.List.{AllByRecursion, list_any}
use Rattle.std.specs.Option.{option_map_or}
use Rattle.svr_num.specs.declared.list_key.ListKey.{ListKey}
use Rattle.svr_listing.specs.declared.group.Group.{Group}
use Rattle.svr_listing.specs.Joined.{either, ids_at, keys_in}
use Rattle.svr_iter.specs.KeyLaws.{AreDescending}
use Rattle.svr_iter.specs.Merging.{Up}
use Rattle.svr_iter.specs.declared.marks.Mark.{Mark}
use Rattle.svr_iter.specs.declared.marks.Mark.TheVariants as mark
use Rattle.svr_iter.specs.declared.marks.Marked.{Marked}

-- an id may come at every key
abbrev pub every : ℕ → ℕ → Bool
every key id = true

-- the marks at one key
pub record MarksAt : Type 0 where
  pub key : ℕ
  pub marks : List Marked

abbrev pub ids_of : List Marked → List ℕ
ids_of marks = map (λ marked. marked.id) marks

-- a key with marks by id ascending, each id once
pub record IsMarksAt (marks_at : MarksAt) : Type 0 where
  pub key_fits : marks_at.key < 2 ^ 48
  pub ascending : Up (ids_of marks_at.marks)
  pub ids_fit : AllByRecursion (λ id. id < 2 ^ 63) (ids_of marks_at.marks)

-- the marks of a term, by descending keys
pub record AreMarks (all : List MarksAt) : Type 0 where
  pub descend : AreDescending (map (λ marks_at. marks_at.key) all)
  pub each : AllByRecursion IsMarksAt all

abbrev pub is_add : Mark → Bool
is_add mark.Add = true
is_add mark.Rem = false

abbrev pub has_add : List Marked → Bool
has_add marks = list_any (λ marked. is_add marked.mark) marks

abbrev pub is_below : ℕ → Option ℕ → Bool
is_below key None = true
is_below key (Some bound) = nat_lt key bound

-- the marks at a key
abbrev pub marks_at : ℕ → List MarksAt → List Marked
marks_at key [] = []
marks_at key (one ∷ all) = if one.key == key then one.marks else marks_at key all

-- the groups of the marks at each key that has an Add, below a key if one is given
abbrev pub added_below : Option ℕ → List MarksAt → List Group
added_below below [] = []
added_below below (one ∷ all) =
    if is_below one.key below && has_add one.marks then record {
      key = one.key;
      ids =
          ids_of one.marks;
    } ∷ added_below below all else added_below below all

-- the first key of these
abbrev pub next_add : Option ℕ → List MarksAt → Option ℕ
next_add below [] = None
next_add below (one ∷ all) = if is_below one.key below && has_add one.marks then Some one.key else next_add below all

-- ---- which documents stand at a key

-- the mark of an id
abbrev pub mark_of : ℕ → List Marked → Option Mark
mark_of id [] = None
mark_of id (marked ∷ marks) = if marked.id == id then Some marked.mark else mark_of id marks

-- by an Add, or unmoved and without a mark
abbrev pub by_mark : Bool → Option Mark → Bool
by_mark moved None = not moved
by_mark moved (Some mark) = is_add mark

-- a document stands at the key where its entry is
abbrev pub stands : Option ListKey → ℕ → Option Mark → Bool
stands None key mark = false
stands (Some entry) key mark = (entry.key == key) && by_mark entry.moved mark

-- of the ids that are posted or have a mark, those that stand
abbrev pub live_ids : (ℕ → Option ListKey) → ℕ → List Marked → List ℕ → List ℕ
live_ids entry key marks posted = filter (λ id. stands (entry id) key (mark_of id marks)) (either (ids_of marks) posted)

-- the keys of posted pairs and those at which there is an Add, each with the ids that stand there
abbrev pub live_groups : (ℕ → Option ListKey) → List MarksAt → Option ℕ → List Group → List Group
live_groups entry all below posted =
    map (λ key. record { key = key; ids = live_ids entry key (marks_at key all) (ids_at key posted) })
    (keys_in (posted ∷ added_below below all ∷ []))

-- an id may come at a key where it is listed
abbrev pub is_listed : (ℕ → Option ListKey) → ℕ → ℕ → Bool
is_listed entry key id = option_map_or (λ at. at.key == key) (entry id) false

-- an id is among the marks where it has one
abbrev pub has_mark : Option Mark → Bool
has_mark None = false
has_mark (Some mark) = true
