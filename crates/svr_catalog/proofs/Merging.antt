-- What the steps of a merge do to a catalog.
use Rattle.std.proofs.Common.{◌≡◌, ℕ, ◌+◌, ◌*◌, Bool, List, map, Option, None, Some, option_map, refl, ap, sym, subst, ◌∙◌}
use Rattle.std.proofs.Math.Path.{fun_ext}
use Rattle.svr_chunks.specs.Chosen.{chosen_lawful}
use Rattle.svr_listing.specs.declared.document.Document.{Document}
use Rattle.svr_listing.specs.declared.document.Listed.{Listed}
use Rattle.svr_listing.specs.Listing.{documents_of, hit_of}
use Rattle.svr_listing.specs.Merges.{Merge}
use Rattle.svr_listing.specs.Methods.{AreLawful, Rules}
use Rattle.svr_listing.specs.Served.{after, merge_begin, merge_publish, merge_slice, nothing_listed}
use Rattle.svr_listing.proofs.ByBytes.{effective-is, stands_by-is}
use Rattle.svr_listing.proofs.Serving.{after-keeps, documents-after}
use Rattle.svr_lists.specs.declared.publish.DocumentText.{DocumentText}
use Rattle.svr_lists.specs.declared.slice.Slice.{Slice}
use Rattle.svr_lists.specs.Lists.{IsMergeOf, ListsValue, StandsForServed, last_in}
use Rattle.svr_lists.specs.Merges.{BeginsMerge}
use Rattle.svr_lists.specs.Publish.{Publishes as PublishesLists, Shows}
use Rattle.svr_lists.specs.Slices.{IsSliceBy, slice_of}
use Rattle.svr_lists.specs.Taken.{TakesSlice}
use Rattle.svr_merge.specs.Rules.{rules_now}
use Rattle.svr_merge.specs.Runs.{Run}
use Rattle.svr_num.specs.declared.hit.Hit.{Hit}
use Rattle.svr_postpage.specs.Wanted.{pairs_told}
use Rattle.svr_tokens.specs.Tokens.{tokens_of}
use Rattle.svr_catalog.specs.Catalog.{Catalog, documents_in}
use Rattle.svr_catalog.specs.Merging.{Begins, IsSliceExactly, Publishes, TakesNext, rules_of}
use Rattle.svr_catalog.specs.Stands.{CatalogValue}

-- lists that stand for nothing listed have no merge
pub last-none : (v : ListsValue) (rules : Rules) → StandsForServed v (nothing_listed rules) → last_in v ≡ None
last-none v rules stands = by v.merge stands.merge
  where
    by : (o : Option Run) → IsMergeOf (documents_of (nothing_listed rules).listing) o None → option_map (λ (run : Run). run.last) o ≡ None
    by None is = refl
    by (Some run) is = absurd is

-- the rules of a merge that a run stands for are lawful
lawful-run : (documents : List Document) (o : Option Run) (m : Merge) → IsMergeOf documents o (Some m) → AreLawful m.rules
lawful-run documents None m is = absurd is
lawful-run documents (Some run) m is = subst AreLawful is.stands.rules (chosen_lawful run.method)

-- where bytes told hold the posted pairs, what stands by them is what has the term
pub slice-exactly : (v : CatalogValue) (most : ℕ) (bytes : List ℕ) (slice : Slice) → IsSliceBy v.lists most bytes slice
    → IsSliceExactly v most bytes slice
slice-exactly v most bytes slice by s m stood begun holds =
    by s m stood.served stood.lists begun
    ∙ ap (λ (stands : List ℕ → Listed → Bool). slice_of stands s.listing m most)
    (fun_ext (λ term. fun_ext (λ d.
    stands_by-is (pairs_told bytes) s.listing holds stood.served.listing.in_order term d ∙ sym (effective-is s.listing term d))))

module _ (c : Catalog) (old new : ListsValue) where
  abbrev before : CatalogValue
  before = record { catalog = c; lists = old }

  abbrev now : CatalogValue
  now = record { catalog = c; lists = new }

  -- a slice is taken
  pub takes-next : (slice : Slice) (at : ℕ) → TakesSlice old new slice at → TakesNext before now slice at
  takes-next slice at takes s m most stood begun is = record {
    served = after-keeps tokens_of s (merge_slice (λ n. at + 4096 * n) most) stood.served tt;
    documents = stood.documents;
    lists = subst (StandsForServed new) (takes.next s m most stood.served stood.lists begun is) (takes.stands s stood.lists);
  }

  -- a merge begins
  pub begins : (hits : List Hit) → hits ≡ map hit_of (documents_in c) → BeginsMerge old new hits (rules_now c.schema.method hits)
      → Begins before now
  begins hits are begin s stood =
      let lists : StandsForServed new (after s (merge_begin (rules_of c))) =
      subst (λ (hs : List Hit). BeginsMerge old new hs (rules_now c.schema.method hs)) are begin s stood.lists
      (ap (map hit_of) stood.documents) in
      record {
        served = after-keeps tokens_of s (merge_begin (rules_of c)) stood.served (lawful-run (documents_of s.listing) new.merge _ lists.merge);
        documents = stood.documents;
        lists = lists;
      }

  -- a merge is published
  pub publishes : (shown : List DocumentText) → Shows shown (documents_in c) → PublishesLists old new shown → Publishes before now
  publishes shown shows publish s stood none = record {
    served = after-keeps tokens_of s merge_publish stood.served tt;
    documents = documents-after s merge_publish ∙ stood.documents;
    lists = publish s stood.served stood.lists none (subst (Shows shown) (sym stood.documents) shows);
  }
