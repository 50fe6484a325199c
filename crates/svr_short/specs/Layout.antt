-- Words of private clauses: how marks are kept.
use Rattle.std.specs.Prelude.{◌≡◌, ◌<◌, ◌^◌, ℕ, ◌==◌, ◌&&◌, Bool, false, true, List, Option, Some, None, if◌then◌else◌}
use Rattle.std.specs.BTreeMap.{is_at}
use Rattle.std.specs.List.{list_any}
use Rattle.std.specs.Option.{IsSome}
use Rattle.std.specs.Str.{bytes_eq}
use Rattle.std.specs.Ordering.{nat_cmp, ordering_then}
use Rattle.std.specs.declared.cmp.Ordering.{Ordering}
use Rattle.svr_iter.specs.declared.marks.Mark.{Mark}
use Rattle.svr_iter.specs.declared.marks.Mark.TheVariants as mark
use Rattle.svr_short.specs.Short.{HasMarks, KeepsOthers, Lists, mark_added, mark_at, mark_in, mark_removed, place_cmp}
use Rattle.svr_short.specs.declared.place.Holding.{Holding}
use Rattle.svr_short.specs.declared.place.Place.{Place}

-- holdings go by document, then by term
abbrev pub holding_cmp : Holding → Holding → Ordering
holding_cmp p q = ordering_then (nat_cmp p.id q.id) (nat_cmp p.term q.term)

-- whether a mark is an Add
abbrev pub has_add : Option Mark → Bool
has_add None = false
has_add (Some mark.Add) = true
has_add (Some mark.Rem) = false

-- whether there is an Add under a number
abbrev pub any_add : List (Place × Mark) → ℕ → Bool
any_add marks n = list_any (λ e. (e.0.term == n) && has_add (mark_at marks e.0)) marks

-- the key, where there is a mark
abbrev pub key_of : Option Mark → ℕ → Option ℕ
key_of None key = None
key_of (Some mark) key = Some key

-- that the document of a place has a mark under its term
abbrev pub holding_of : Place → Holding
holding_of p = record { id = p.id; term = p.term }

-- two terms have two numbers, and each number is below their count
pub record AreNumbers (count : ℕ) (number : List ℕ → Option ℕ) : Type 0 where
  pub below : (term : List ℕ) (n : ℕ) → number term ≡ Some n → n < count
  pub apart : (s t : List ℕ) (n : ℕ) → number s ≡ Some n → number t ≡ Some n → s ≡ t

-- what stands beside the marks: the places of Adds, and the key of each document under each of its terms
pub record AreMarked (count : ℕ) (marks : Place → Option Mark) (adds : Place → Bool) (held : Holding → Option ℕ) : Type 0 where
  pub term_below : (p : Place) → IsSome (marks p) → p.term < count
  pub key_fits : (p : Place) → IsSome (marks p) → p.key < 2 ^ 48
  pub id_fits : (p : Place) → IsSome (marks p) → p.id < 2 ^ 63
  pub is_added : (p : Place) → adds p ≡ has_add (marks p)
  pub is_held : (p : Place) → IsSome (marks p) → held (holding_of p) ≡ Some p.key
  pub is_marked : (h : Holding) (key : ℕ) → held h ≡ Some key → IsSome (marks (record { term = h.term; key = key; id = h.id }))

-- a document has no mark under a term but at this place
abbrev pub IsAlone : (Place → Option Mark) → Place → Type 0
IsAlone marks p = (q : Place) → IsSome (marks q) → holding_of q ≡ holding_of p → q.key ≡ p.key

-- a place has this mark now, or none, and every other its own
abbrev pub SetsMark : (old new : Place → Option Mark) → Place → Option Mark → Type 0
SetsMark old new p mark = (q : Place) → new q ≡ (if is_at (place_cmp p) q then mark else old q)

-- the same of the places of Adds
abbrev pub SetsAdd : (old new : Place → Bool) → Place → Option Mark → Type 0
SetsAdd old new p mark = (q : Place) → new q ≡ (if is_at (place_cmp p) q then has_add mark else old q)

-- the same of what documents hold, by its key
abbrev pub SetsHolding : (old new : Holding → Option ℕ) → Place → Option Mark → Type 0
SetsHolding old new p mark = (h : Holding) → new h ≡ (if is_at (holding_cmp (holding_of p)) h then key_of mark p.key else old h)

-- the mark of a document under a term after it has been given one, or the other one there has gone away
abbrev pub mark_turned : Mark → Option Mark → Option Mark
mark_turned mark.Add old = mark_added old
mark_turned mark.Rem old = mark_removed old

-- the marks of a document after it has been given a mark under one term, or the other one there has gone away
abbrev pub turned_at : ℕ → List ℕ → Mark → (List ℕ → ℕ → Option Mark) → List ℕ → ℕ → Option Mark
turned_at at of mark old term key = if (at == key) && bytes_eq of term then mark_turned mark (old term key) else old term key

-- the marks of a document after it has been given a mark under each of some terms, or the other one there has gone away
abbrev pub all_turned_at : ℕ → (List ℕ → Bool) → Mark → (List ℕ → ℕ → Option Mark) → List ℕ → ℕ → Option Mark
all_turned_at at some mark old term key = if (at == key) && some term then mark_turned mark (old term key) else old term key

pub record IsTurned (first now : Lists) (id key : ℕ) (mark : Mark) (some : List ℕ → Bool) : Type 0 where
  pub others : KeepsOthers first now id
  pub marks : HasMarks now id (all_turned_at key some mark (λ t at. mark_in first t at id))
