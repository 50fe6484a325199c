-- What an edit makes of what is served.
use Rattle.std.specs.Prelude.{◌≡◌, ◌+◌, ◌*◌, ◌<◌, ◌^◌, ◌&&◌, ◌==◌, ℕ, Bool, true, false, List, [], ◌∷◌, length, Option, Some, None}
use Rattle.std.specs.Option.{IsSome, option_and_then}
use Rattle.std.specs.Str.{bytes_eq}
use Rattle.svr_catalog.specs.Catalog.{Catalog, catalog_with, catalog_with_rows, new_catalog}
use Rattle.svr_catalog.specs.Listed.{listed_after, listed_with_rows}
use Rattle.svr_catalog.specs.Merging.{rules_of}
use Rattle.svr_listing.specs.Listing.{Listing, is_effective}
use Rattle.svr_listing.specs.Merges.{Merge}
use Rattle.svr_listing.specs.Served as listing
use Rattle.svr_listing.specs.declared.pages.TermPages.{TermPages}
use Rattle.svr_lists.specs.Slices.{slice_of}
use Rattle.svr_lists.specs.Taken.{taken_of, with_terms}
use Rattle.svr_lists.specs.declared.slice.Slice.{Slice}
use Rattle.svr_merge.specs.Rules.{rules_for}
use Rattle.svr_record.specs.Limits.{page_count}
use Rattle.svr_record.specs.declared.record.TermPages as kept
use Rattle.svr_rows.specs.Changes.{load_refusal, refusal_of}
use Rattle.svr_schema.specs.Lawful.{IsSchema}
use Rattle.svr_core.specs.declared.plan.Edit.{Edit}
use Rattle.svr_core.specs.declared.plan.Edit.TheVariants as edit
use Rattle.svr_core.specs.State.{Served}

-- the bytes of a slice are as many whole pages as its terms say, and lie at addresses
pub record IsPlaced (terms : List kept.TermPages) (pages : List ℕ) (at : ℕ) : Type 0 where
  pub whole : length pages ≡ 4096 * page_count terms
  pub room : at + length pages < 2 ^ 64

-- an edit of what is set may be made: its schema is lawful, no row is refused, and the pages of a slice are whole
abbrev pub Accepts : Option Catalog → Edit → Type 0
Accepts set (edit.Schema s) = IsSchema s
Accepts None (edit.Change change) = ⊥
Accepts (Some c) (edit.Change change) = refusal_of c.tables change ≡ None
Accepts None (edit.Load at rows) = ⊥
Accepts (Some c) (edit.Load at rows) = load_refusal c.tables at rows ≡ None
Accepts set edit.Begin = IsSome set
Accepts set (edit.Slice terms pages at) = IsSome set × IsPlaced terms pages at
Accepts set edit.Publish = IsSome set

-- the catalog after it; rows are changed where a schema is set
abbrev pub edited : Option Catalog → Edit → Option Catalog
edited set (edit.Schema s) = Some (new_catalog s)
edited None (edit.Change change) = None
edited (Some c) (edit.Change change) = Some (catalog_with c change)
edited None (edit.Load at rows) = None
edited (Some c) (edit.Load at rows) = Some (catalog_with_rows c at rows)
edited set edit.Begin = set
edited set (edit.Slice terms pages at) = set
edited set edit.Publish = set

-- ---- slices

-- a slice of terms and bytes
abbrev pub slice_with : List kept.TermPages → List ℕ → Slice
slice_with terms pages = record { terms = terms; pages = pages }

-- the terms of a slice with their pages, if a merge is begun in which it may come next
abbrev pub taken_into : listing.Served → Slice → ℕ → Option (List TermPages)
taken_into l slice at = option_and_then (λ m. taken_of m.last slice at) l.merge

-- where documents are listed, with these terms taken into the merge, if they may be
abbrev pub with_taken_terms : listing.Served → Option (List TermPages) → listing.Served
with_taken_terms l None = l
with_taken_terms l (Some terms) = with_terms l terms

-- the same terms with as many pages
abbrev pub same_terms : List kept.TermPages → List kept.TermPages → Bool
same_terms [] [] = true
same_terms (t ∷ ts) (u ∷ us) = (bytes_eq t.term u.term && (t.pages == u.pages)) && same_terms ts us
same_terms [] (u ∷ us) = false
same_terms (t ∷ ts) [] = false

-- the same slice
abbrev pub same_slice : Slice → Slice → Bool
same_slice a b = same_terms a.terms b.terms && bytes_eq a.pages b.pages

-- the slice is the next one of the merge, for as many terms as it has
abbrev pub is_next_of : Listing → Option Merge → Slice → Bool
is_next_of l None slice = false
is_next_of l (Some m) slice = same_slice slice (slice_of (is_effective l) l m (length slice.terms))

abbrev pub is_next : listing.Served → Slice → Bool
is_next l slice = is_next_of l.listing l.merge slice

-- ---- all edits

-- where documents are listed after it
abbrev pub relisted : Option Catalog → listing.Served → Edit → listing.Served
relisted set l (edit.Schema s) = listing.nothing_listed (rules_for s.method [])
relisted None l (edit.Change change) = l
relisted (Some c) l (edit.Change change) = listed_after (catalog_with c change) l
relisted None l (edit.Load at rows) = l
relisted (Some c) l (edit.Load at rows) = listed_with_rows c l at rows
relisted None l edit.Begin = l
relisted (Some c) l edit.Begin = listing.after l (listing.merge_begin (rules_of c))
relisted set l (edit.Slice terms pages at) = with_taken_terms l (taken_into l (slice_with terms pages) at)
relisted set l edit.Publish = listing.after l listing.merge_publish

-- how many changes it counts as: the begin of a merge and its slices are none
abbrev pub counted : Edit → ℕ
counted edit.Begin = 0
counted (edit.Slice terms pages at) = 0
counted (edit.Schema s) = 1
counted (edit.Change change) = 1
counted (edit.Load at rows) = 1
counted edit.Publish = 1

-- no slice was another than the next one
abbrev pub still_lawful : Served → Edit → Bool
still_lawful s (edit.Slice terms pages at) = s.lawful && is_next s.listed (slice_with terms pages)
still_lawful s (edit.Schema _) = s.lawful
still_lawful s (edit.Change change) = s.lawful
still_lawful s (edit.Load at rows) = s.lawful
still_lawful s edit.Begin = s.lawful
still_lawful s edit.Publish = s.lawful

-- what is served after it
abbrev pub served_with : Served → Edit → Served
served_with s e = record {
  catalog = edited s.catalog e;
  listed = relisted s.catalog s.listed e;
  changes = s.changes + counted e;
  lawful = still_lawful s e;
}
