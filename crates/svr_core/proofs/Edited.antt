-- What an edit makes of a catalog and of where its documents are listed.
use Rattle.std.proofs.Common.{◌≡◌, ◌+◌, ◌*◌, ◌&&◌, ◌==◌, Bool, true, false, List, [], ◌∷◌, ℕ, length, Option, Some, None, Result, Ok, Err, IfOk}
use Rattle.std.proofs.Common.{refl, sym, ap, ap₂, subst, ◌∙◌, eqb-true}
use Rattle.std.specs.Option.{option_and_then, option_map}
use Rattle.std.specs.Str.{bytes_eq}
use Rattle.std.proofs.lemmas.Slice.Eq.{bytes_eq-Decides}
use Rattle.svr_catalog.specs.Catalog.{Catalog, catalog_with, catalog_with_rows}
use Rattle.svr_catalog.specs.Listed.{listed_after, listed_with_rows}
use Rattle.svr_catalog.specs.Merging.{Begins, Publishes, TakesNext}
use Rattle.svr_catalog.specs.Stands.{CatalogValue, Stands}
use Rattle.svr_listing.specs.Listing.{documents_of, is_effective}
use Rattle.svr_listing.specs.Merges.{Merge, touched}
use Rattle.svr_listing.specs.Served as listing
use Rattle.svr_listing.specs.declared.document.Document.{Document}
use Rattle.svr_listing.specs.declared.pages.TermPages.{TermPages}
use Rattle.svr_lists.specs.Lists.{last_in}
use Rattle.svr_lists.specs.Slices.{slice_of}
use Rattle.svr_lists.specs.Taken.{TakesSlice, last_of, taken_of, with_taken, with_terms}
use Rattle.svr_lists.specs.declared.slice.Slice.{Slice}
use Rattle.svr_lists.specs.declared.taken.SliceFault.{SliceFault}
use Rattle.svr_record.specs.declared.record.TermPages as kept
use Rattle.svr_rows.specs.declared.change.Change.{Change}
use Rattle.svr_rows.specs.declared.change.Change.TheVariants.{Insert}
use Rattle.svr_rows.specs.declared.row.Row.{Row}
use Rattle.svr_core.specs.declared.plan.Edit.{Edit}
use Rattle.svr_core.specs.declared.plan.Edit.TheVariants as edit
use Rattle.svr_core.specs.Edits.{edited, is_next, is_next_of, relisted, same_slice, same_terms, slice_with, still_lawful, taken_into, with_taken_terms}
use Rattle.svr_core.specs.State.{Served}
use Rattle.svr_core.specs.Steps.{FollowsEdit, FollowsServed, IsServedBy}

abbrev pub last_listed : listing.Served → Option (Option (List ℕ))
last_listed l = option_map (λ m. m.last) l.merge

-- ---- how far a merge is

touched_last : (o : Option Merge) (before now : List Document)
    → option_map (λ m. m.last) (option_map (λ m. touched m before now) o) ≡ option_map (λ m. m.last) o
touched_last None before now = refl
touched_last (Some m) before now = refl

pub changed_last : (l : listing.Served) (now : List Document) → last_listed (listing.after l (listing.change now)) ≡ last_listed l
changed_last l now = touched_last l.merge (documents_of l.listing) now

pub rows_last : (c : Catalog) (l : listing.Served) (at : ℕ) (rows : List Row) → last_listed (listed_with_rows c l at rows) ≡ last_listed l
unfolding listed_with_rows
rows_last c l at [] = refl
rows_last c l at (row ∷ rows) =
    rows_last (catalog_with c (Insert at row)) (listed_after (catalog_with c (Insert at row)) l) at rows
    ∙ touched_last l.merge (documents_of l.listing) _

-- ---- slices

and-left : (a b : Bool) → (a && b) ≡ true → a ≡ true
and-left true b h = refl
and-left false b h = h

and-right : (a b : Bool) → (a && b) ≡ true → b ≡ true
and-right true b h = h
and-right false b h = absurd (let e : false ≡ true = h in cc)

same_term : (t u : kept.TermPages) → (bytes_eq t.term u.term && (t.pages == u.pages)) ≡ true → t ≡ u
same_term t u h = ap₂ (λ (term : List ℕ) (pages : ℕ). record { term = term; pages = pages })
    ((bytes_eq-Decides t.term u.term).0 (and-left (bytes_eq t.term u.term) (t.pages == u.pages) h))
    (eqb-true t.pages u.pages (and-right (bytes_eq t.term u.term) (t.pages == u.pages) h))

same_terms-true : (ts us : List kept.TermPages) → same_terms ts us ≡ true → ts ≡ us
same_terms-true [] [] h = refl
same_terms-true [] (u ∷ us) h = absurd (let e : false ≡ true = h in cc)
same_terms-true (t ∷ ts) [] h = absurd (let e : false ≡ true = h in cc)
same_terms-true (t ∷ ts) (u ∷ us) h =
    let first = bytes_eq t.term u.term && (t.pages == u.pages) in
    ap₂ (λ (x : kept.TermPages) (xs : List kept.TermPages). x ∷ xs) (same_term t u (and-left first (same_terms ts us) h))
    (same_terms-true ts us (and-right first (same_terms ts us) h))

pub same_slice-true : (a b : Slice) → same_slice a b ≡ true → a ≡ b
same_slice-true a b h =
    ap₂ (λ (terms : List kept.TermPages) (pages : List ℕ). slice_with terms pages)
    (same_terms-true a.terms b.terms (and-left (same_terms a.terms b.terms) (bytes_eq a.pages b.pages) h))
    ((bytes_eq-Decides a.pages b.pages).0 (and-right (same_terms a.terms b.terms) (bytes_eq a.pages b.pages) h))

-- the same by how far the merge is
pub taken_by_last : (l : listing.Served) (slice : Slice) (at : ℕ)
    → option_and_then (λ last. taken_of last slice at) (last_listed l) ≡ taken_into l slice at
taken_by_last l slice at = by l.merge
  where
    by : (o : Option Merge) → option_and_then (λ last. taken_of last slice at) (option_map (λ m. m.last) o)
        ≡ option_and_then (λ m. taken_of m.last slice at) o
    by None = refl
    by (Some m) = refl

terms_last : (o : Option Merge) (terms : List TermPages)
    → option_map (λ m. m.last) (option_map (λ m. with_taken m terms) o) ≡ option_map (λ last. last_of last terms) (option_map (λ m. m.last) o)
terms_last None terms = refl
terms_last (Some m) terms = refl

next_is : (l : listing.Served) (slice : Slice) → is_next l slice ≡ true
    → (m : Merge) × (l.merge ≡ Some m) × (slice ≡ slice_of (is_effective l.listing) l.listing m (length slice.terms))
next_is l slice h = by l.merge refl h
  where
    by : (o : Option Merge) → l.merge ≡ o → is_next_of l.listing o slice ≡ true
        → (m : Merge) × (l.merge ≡ Some m) × (slice ≡ slice_of (is_effective l.listing) l.listing m (length slice.terms))
    by None e h = absurd (let k : false ≡ true = h in cc)
    by (Some m) e h = (m, e, same_slice-true slice (slice_of (is_effective l.listing) l.listing m (length slice.terms)) h)

-- ---- all edits

module _ (v : CatalogValue) where
  -- by the catalog that is set
  abbrev Follows : Edit → CatalogValue → Served → Option Catalog → Type 0
  Follows e after s o = (edited o e ≡ Some after.catalog) × (last_in after.lists ≡ last_listed (relisted o s.listed e))
      × ((still_lawful s e) ≡ true → Stands after (relisted o s.listed e))

  follows_by : (e : Edit) (after : CatalogValue) (s : Served) → IsServedBy (Some v) s → Follows e after s (Some v.catalog)
      → FollowsServed (Some v) e after s
  follows_by e after s by there =
      let here : Follows e after s s.catalog = subst (Follows e after s) by.catalog there in
      record { catalog = here.0; last = here.1; lists = here.2 }

  pub change_follows : (change : Change) (result : Result CatalogValue SliceFault)
      → IfOk result (λ after. after.catalog ≡ catalog_with v.catalog change)
      → IfOk result (λ after. (l : listing.Served) → Stands v l → Stands after (listed_after after.catalog l))
      → IfOk result (λ after. last_in after.lists ≡ last_in v.lists)
      → FollowsEdit (Some v) (edit.Change change) result
  change_follows change (Err why) is stands last = tt
  change_follows change (Ok after) is stands last = λ s by ready. follows_by (edit.Change change) after s by (
    ap (λ (c : Catalog). Some c) (sym is),
    last ∙ by.last ∙ sym (touched_last s.listed.merge (documents_of s.listed.listing) _),
    λ lawful. subst (λ (c : Catalog). Stands after (listed_after c s.listed)) is (stands s.listed (by.lists lawful v refl)),
  )

  pub load_follows : (at : ℕ) (rows : List Row) (result : Result CatalogValue SliceFault)
      → IfOk result (λ after. after.catalog ≡ catalog_with_rows v.catalog at rows)
      → IfOk result (λ after. (l : listing.Served) → Stands v l → Stands after (listed_with_rows v.catalog l at rows))
      → IfOk result (λ after. last_in after.lists ≡ last_in v.lists)
      → FollowsEdit (Some v) (edit.Load at rows) result
  load_follows at rows (Err why) is stands last = tt
  load_follows at rows (Ok after) is stands last = λ s by ready. follows_by (edit.Load at rows) after s by (
    ap (λ (c : Catalog). Some c) (sym is),
    last ∙ by.last ∙ sym (rows_last v.catalog s.listed at rows),
    λ lawful. stands s.listed (by.lists lawful v refl),
  )

  pub begin_follows : (result : Result CatalogValue SliceFault) → IfOk result (λ after. after.catalog ≡ v.catalog) → IfOk result (Begins v)
      → IfOk result (λ after. last_in after.lists ≡ Some None) → FollowsEdit (Some v) edit.Begin result
  begin_follows (Err why) is begins last = tt
  begin_follows (Ok after) is begins last = λ s by ready. follows_by edit.Begin after s by (
    ap (λ (c : Catalog). Some c) (sym is),
    last,
    λ lawful. begins s.listed (by.lists lawful v refl),
  )

  pub publish_follows : (result : Result CatalogValue SliceFault) → IfOk result (λ after. after.catalog ≡ v.catalog) → IfOk result (Publishes v)
      → IfOk result (λ after. last_in after.lists ≡ None) → FollowsEdit (Some v) edit.Publish result
  publish_follows (Err why) is publishes last = tt
  publish_follows (Ok after) is publishes last = λ s by ready. follows_by edit.Publish after s by (
    ap (λ (c : Catalog). Some c) (sym is),
    last,
    λ lawful. publishes s.listed (by.lists lawful v refl) (ready lawful),
  )

  module _ (terms : List kept.TermPages) (pages : List ℕ) (at : ℕ) where
    abbrev slice : Slice
    slice = slice_with terms pages

    slice_lists : (after : CatalogValue) (s : Served) → IsServedBy (Some v) s → (t : TakesSlice v.lists after.lists slice at)
        → TakesNext v after slice at → taken_into s.listed slice at ≡ Some t.terms
        → (still_lawful s (edit.Slice terms pages at)) ≡ true → Stands after (with_taken_terms s.listed (taken_into s.listed slice at))
    slice_lists after s by t next taken lawful =
        let known = and-left s.lawful (is_next s.listed slice) lawful in
        let is = next_is s.listed slice (and-right s.lawful (is_next s.listed slice) lawful) in
        let stands = by.lists known v refl in
        let same : with_terms s.listed t.terms ≡ listing.after s.listed (listing.merge_slice (λ n. at + 4096 * n) (length terms)) =
        t.next s.listed is.0 (length terms) stands.served stands.lists is.1 is.2 in
        subst (λ (o : Option (List TermPages)). Stands after (with_taken_terms s.listed o)) (sym taken)
        (subst (λ (x : listing.Served). Stands after x) (sym same) (next s.listed is.0 (length terms) stands is.1 is.2))

    pub slice_follows : (result : Result CatalogValue SliceFault) → IfOk result (λ after. after.catalog ≡ v.catalog)
        → IfOk result (λ after. TakesSlice v.lists after.lists slice at) → IfOk result (λ after. TakesNext v after slice at)
        → FollowsEdit (Some v) (edit.Slice terms pages at) result
    slice_follows (Err why) is takes next = tt
    slice_follows (Ok after) is takes next = λ s by ready.
        let taken : taken_into s.listed slice at ≡ Some takes.terms =
        sym (taken_by_last s.listed slice at) ∙ ap (option_and_then (λ last. taken_of last slice at)) (sym by.last) ∙ takes.gives in
        follows_by (edit.Slice terms pages at) after s by (
          ap (λ (c : Catalog). Some c) (sym is),
          takes.last ∙ ap (option_map (λ last. last_of last takes.terms)) by.last ∙ sym (terms_last s.listed.merge takes.terms)
              ∙ ap (λ (o : Option (List TermPages)). last_listed (with_taken_terms s.listed o)) (sym taken),
          slice_lists after s by takes next taken,
        )
