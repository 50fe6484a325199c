-- What the steps of a merge do to a catalog.
use Rattle.std.specs.Prelude.{◌≡◌, ℕ, ◌+◌, ◌*◌, List, [], map, Some}
use Rattle.svr_listing.specs.Kept.{HoldsPosted}
use Rattle.svr_listing.specs.Listing.{hit_of, is_effective}
use Rattle.svr_listing.specs.Merges.{Merge, terms_left}
use Rattle.svr_listing.specs.Methods.{Rules}
use Rattle.svr_listing.specs.Served.{Served, after, merge_begin, merge_forgotten, merge_publish, merge_slice}
use Rattle.svr_lists.specs.declared.slice.Slice.{Slice}
use Rattle.svr_lists.specs.Slices.{slice_of}
use Rattle.svr_merge.specs.Rules.{rules_now}
use Rattle.svr_postpage.specs.Wanted.{pairs_told}
use Rattle.svr_catalog.specs.Catalog.{Catalog, documents_in}
use Rattle.svr_catalog.specs.Stands.{CatalogValue, Stands}

-- the rules that a merge brings: those of the schema's method for the documents as they are
abbrev pub rules_of : Catalog → Rules
rules_of c = rules_now c.schema.method (map hit_of (documents_in c))

-- where it stood for a listing, it stands for that with a merge that begins
abbrev pub Begins : CatalogValue → CatalogValue → Type 0
Begins old new = (s : Served) → Stands old s → Stands new (after s (merge_begin (rules_of old.catalog)))

-- the same without the merge
abbrev pub Forgets : CatalogValue → CatalogValue → Type 0
Forgets old new = (s : Served) → Stands old s → Stands new (after s merge_forgotten)

-- a slice is the next one of the merge, where bytes told hold the posted pairs
abbrev pub IsSliceExactly : CatalogValue → ℕ → List ℕ → Slice → Type 0
IsSliceExactly v most bytes slice =
    (s : Served) (m : Merge) → Stands v s → s.merge ≡ Some m → HoldsPosted (pairs_told bytes) s.listing
    → slice ≡ slice_of (is_effective s.listing) s.listing m most

-- it stands for what there is after a slice whose first page lies at an address, if it was the next one of the merge
abbrev pub TakesNext : CatalogValue → CatalogValue → Slice → ℕ → Type 0
TakesNext old new slice at =
    (s : Served) (m : Merge) (most : ℕ) → Stands old s → s.merge ≡ Some m → slice ≡ slice_of (is_effective s.listing) s.listing m most
    → Stands new (after s (merge_slice (λ n. at + 4096 * n) most))

-- it stands for the listing after a publish, if no term was left
abbrev pub Publishes : CatalogValue → CatalogValue → Type 0
Publishes old new =
    (s : Served) → Stands old s → ((m : Merge) → s.merge ≡ Some m → terms_left s.listing m ≡ []) → Stands new (after s merge_publish)
