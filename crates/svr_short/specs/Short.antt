-- Marks of documents under terms, by look-ups.
use Rattle.std.specs.Prelude.{◌≡◌, ⊤, IfSome, IsSome, ◌^◌, ℕ, ◌==◌, ◌&&◌, Bool, false, List, [], ◌∷◌, map, filter, nat_lt, not, Option}
use Rattle.std.specs.Prelude.{Some, None, if◌then◌else◌}
use Rattle.std.specs.BTreeMap.{is_at}
use Rattle.std.specs.Cmp.Lexicographic.{slice_cmp}
use Rattle.std.specs.Map.{lookup}
use Rattle.std.specs.Ordering.{nat_cmp, ordering_then}
use Rattle.std.specs.declared.cmp.Ordering.{Ordering}
use Rattle.std.specs.declared.cmp.Ordering.TheVariants.{Less}
use Rattle.svr_listing.specs.Listing.{descending}
use Rattle.svr_iter.specs.Marks.{MarksAt}
use Rattle.svr_iter.specs.declared.marks.Mark.{Mark}
use Rattle.svr_iter.specs.declared.marks.Mark.TheVariants as mark
use Rattle.svr_iter.specs.declared.marks.Marked.{Marked}
use Rattle.svr_short.specs.declared.place.Place.{Place}
use Rattle.svr_tokens.specs.Tokens.{has_term}

-- the numbers of terms, and the marks under these numbers
pub record Lists : Type 0 where
  pub numbers : List (List ℕ × ℕ)
  pub marks : List (Place × Mark)

-- places go by term, then by key, then by id
abbrev pub place_cmp : Place → Place → Ordering
place_cmp p q = ordering_then (nat_cmp p.term q.term) (ordering_then (nat_cmp p.key q.key) (nat_cmp p.id q.id))

-- the number of a term, if it has one
abbrev pub number_of : List (List ℕ × ℕ) → List ℕ → Option ℕ
number_of numbers term = lookup (is_at (slice_cmp nat_cmp term)) numbers

-- the mark at a place, if there is one
abbrev pub mark_at : List (Place × Mark) → Place → Option Mark
mark_at marks place = lookup (is_at (place_cmp place)) marks

-- keys are below 2^48, and ids below 2^63
abbrev pub fits : ℕ → ℕ → Bool
fits key id = nat_lt key (2 ^ 48) && nat_lt id (2 ^ 63)

abbrev pub mark_by : List (Place × Mark) → Option ℕ → ℕ → ℕ → Option Mark
mark_by marks None key id = None
mark_by marks (Some n) key id = if fits key id then mark_at marks (record { term = n; key = key; id = id }) else None

-- the mark of a document under a term at a key, if it has one there
abbrev pub mark_in : Lists → List ℕ → ℕ → ℕ → Option Mark
mark_in lists term key id = mark_by lists.marks (number_of lists.numbers term) key id

-- ---- the marks of a term as a search takes them

-- one more mark at its place by id; it takes the place of one of the same id
abbrev pub with_mark : Marked → List Marked → List Marked
with_mark marked [] = marked ∷ []
with_mark marked (m ∷ ms) =
    if nat_lt marked.id m.id then marked ∷ m ∷ ms else (if marked.id == m.id then marked ∷ ms else m ∷ with_mark marked ms)

abbrev pub is_under : ℕ → ℕ → Place → Bool
is_under term key place = (place.term == term) && ((place.key == key) && nat_lt place.id (2 ^ 63))

-- the marks under a number at a key, by id ascending
abbrev pub marks_under : ℕ → ℕ → List (Place × Mark) → List Marked
marks_under term key [] = []
marks_under term key (e ∷ es) =
    if is_under term key e.0 then with_mark (record { id = e.0.id; mark = e.1 }) (marks_under term key es) else marks_under term key es

-- the keys under a number, descending
abbrev pub keys_under : ℕ → List (Place × Mark) → List ℕ
keys_under term es = descending (map (λ e. e.0.key) (filter (λ e. (e.0.term == term) && nat_lt e.0.key (2 ^ 48)) es))

abbrev pub under_number : List (Place × Mark) → Option ℕ → List MarksAt
under_number marks None = []
under_number marks (Some n) = map (λ key. record { key = key; marks = marks_under n key marks }) (keys_under n marks)

-- the marks of a term, by descending keys
abbrev pub marks_of : Lists → List ℕ → List MarksAt
marks_of lists term = under_number lists.marks (number_of lists.numbers term)

-- ---- changes

-- every document but one has its marks as before
abbrev pub KeepsOthers : Lists → Lists → ℕ → Type 0
KeepsOthers old new id = (term : List ℕ) (key other : ℕ) → (id == other) ≡ false → mark_in new term key other ≡ mark_in old term key other

-- a document has these marks and no others
abbrev pub HasMarks : Lists → ℕ → (List ℕ → ℕ → Option Mark) → Type 0
HasMarks lists id marks = (term : List ℕ) (key : ℕ) → mark_in lists term key id ≡ marks term key

-- an Add under each of the terms, at one key
abbrev pub adds_at : ℕ → (List ℕ → Bool) → List ℕ → ℕ → Option Mark
adds_at at has term key = if (at == key) && has term then Some mark.Add else None

-- after a term has come, a Rem goes away, or else an Add comes
abbrev pub mark_added : Option Mark → Option Mark
mark_added None = Some mark.Add
mark_added (Some mark.Add) = Some mark.Add
mark_added (Some mark.Rem) = None

-- after a term has gone, an Add goes away, or else a Rem comes
abbrev pub mark_removed : Option Mark → Option Mark
mark_removed None = Some mark.Rem
mark_removed (Some mark.Add) = None
mark_removed (Some mark.Rem) = Some mark.Rem

-- one of the terms that others lack
abbrev pub lacks : List (List ℕ) → List (List ℕ) → List ℕ → Bool
lacks others terms term = has_term terms term && not (has_term others term)

-- the marks of a document at its key after terms have come and others have gone
abbrev pub edited_at : ℕ → (List ℕ → Bool) → (List ℕ → Bool) → (List ℕ → ℕ → Option Mark) → List ℕ → ℕ → Option Mark
edited_at at added removed old term key =
    if at == key then (if added term then mark_added (old term key) else (if removed term then mark_removed (old term key) else old term key))
    else old term key

-- a document has marks at this key alone
abbrev pub StandsAt : Lists → ℕ → ℕ → Type 0
StandsAt lists id key = (term : List ℕ) (at : ℕ) → IsSome (mark_in lists term at id) → at ≡ key

-- ---- terms in their order

-- a term under which there is an Add
pub record HasAdd (lists : Lists) (term : List ℕ) : Type 0 where
  pub key : ℕ
  pub id : ℕ
  pub there : mark_in lists term key id ≡ Some mark.Add

abbrev pub IsAfter : Option (List ℕ) → List ℕ → Type 0
IsAfter None term = ⊤
IsAfter (Some before) term = slice_cmp nat_cmp before term ≡ Less

-- the first term after another, or of all, that has an Add; none where no such term has one
pub record IsNextTerm (lists : Lists) (after : Option (List ℕ)) (result : Option (List ℕ)) : Type 0 where
  pub here : IfSome result (λ term. IsAfter after term × HasAdd lists term)
  pub some : (term : List ℕ) → IsAfter after term → HasAdd lists term → IsSome result
  pub first : (term : List ℕ) → IsAfter after term → HasAdd lists term
      → IfSome result (λ found. slice_cmp nat_cmp term found ≡ Less → ⊥)
