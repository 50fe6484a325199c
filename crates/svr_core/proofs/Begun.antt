-- How far the merge of what is served is.
use Rattle.std.proofs.Common.{◌≡◌, ◌-◌, ◌^◌, ℕ, min, length, true, false, List, Option, Some, None, refl, ap, sym, ◌∙◌, unwrap_or, subst}
use Rattle.std.specs.Option.{IsSome, option_map}
use Rattle.svr_catalog.specs.Merging.{Forgets}
use Rattle.svr_catalog.specs.Stands.{CatalogValue}
use Rattle.svr_listing.specs.Listing.{Listing}
use Rattle.svr_listing.specs.Merges.{Merge, terms_left}
use Rattle.svr_lists.specs.Lists.{last_in}
use Rattle.svr_lists.specs.Merges.{CountsLeft}
use Rattle.svr_record.specs.declared.record.Record.TheVariants as entry
use Rattle.svr_record.specs.declared.record.TermPages.{TermPages}
use Rattle.svr_core.specs.declared.plan.Edit.TheVariants as edit
use Rattle.svr_core.specs.Edits.{served_with, slice_with, taken_into}
use Rattle.svr_core.specs.Kept.{CoreValue, ServesAs, last_of}
use Rattle.svr_core.specs.Merges.{IsUntaken, MayCome, taken_behind}
use Rattle.svr_core.specs.Replay.{after_record, pages_place}
use Rattle.svr_core.specs.Run.{left_in}
use Rattle.svr_core.specs.State.{Served, settled}
use Rattle.svr_core.proofs.Edited.{taken_by_last}

counted_left : (l : Listing) (o : Option Merge) → unwrap_or (option_map (λ m. min (length (terms_left l m)) (2 ^ 64 - 1)) o) 0 ≡ left_in l o
counted_left l None = refl
counted_left l (Some m) = refl

pub left_by : (core : CoreValue) (v : CatalogValue) (count : Option ℕ) → core.kept ≡ Some v → CountsLeft v.lists count
    → (s : Served) → ServesAs core s → s.lawful ≡ true → unwrap_or count 0 ≡ left_in s.listed.listing s.listed.merge
left_by core v count kept counts s serves lawful =
    let stands = serves.lists lawful v kept in
    ap (λ (o : Option ℕ). unwrap_or o 0) (counts s.listed stands.served stands.lists) ∙ counted_left s.listed.listing s.listed.merge

pub forgotten_by : (v w : CatalogValue) (changes : ℕ) → w.catalog ≡ v.catalog → Forgets v w → last_in w.lists ≡ None
    → (s : Served) → ServesAs (record { kept = Some v; changes = changes }) s → ServesAs (record { kept = Some w; changes = changes }) (settled s)
forgotten_by v w changes same forgets last s serves = record {
  catalog = ap (λ c. Some c) same ∙ serves.catalog;
  changes = serves.changes;
  last = last;
  lists = λ lawful u is. rw (← (let e : w ≡ u = cc in e)) (forgets s.listed (serves.lists lawful v refl));
}

-- ---- slices

-- a slice that may come is accepted, and one that may not isn't
module _ (before : List (List ℕ)) (core : CoreValue) (s : Served) (serves : ServesAs core s) (terms : List TermPages) (pages : List ℕ) where
  abbrev at : ℕ
  at = pages_place before terms pages

  same : taken_into s.listed (slice_with terms pages) at ≡ taken_behind (last_of core) (slice_with terms pages) at
  same = sym (taken_by_last s.listed (slice_with terms pages) at)
      ∙ ap (λ (o : Option (Option (List ℕ))). taken_behind o (slice_with terms pages) at) (sym serves.last)

  pub slice_accepted : MayCome core (edit.Slice terms pages at)
      → after_record before s (entry.Slice terms pages) ≡ Some (served_with s (edit.Slice terms pages at))
  slice_accepted may = by (taken_into s.listed (slice_with terms pages) at) (subst IsSome (sym same) may)
    where
      by : {X : Type 0} (o : Option X) → IsSome o → option_map (λ _. served_with s (edit.Slice terms pages at)) o
          ≡ Some (served_with s (edit.Slice terms pages at))
      by None some = absurd (let e : false ≡ true = some in cc)
      by (Some x) some = refl

  pub slice_refused : IsUntaken core (edit.Slice terms pages at) → after_record before s (entry.Slice terms pages) ≡ None
  slice_refused none = ap (option_map (λ _. served_with s (edit.Slice terms pages at))) (same ∙ none)
