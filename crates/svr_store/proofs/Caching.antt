-- Cached pages behind reads that come one after the other.
use Rattle.std.proofs.Common.{◌≡◌, inl, inr, ℕ, List, [], ◌++◌, refl, sym, subst, ◌∙◌}
use Rattle.std.proofs.lemmas.List.Elements.{Contains-append_left, Contains-append_right}
use Rattle.svr_pages.specs.Cached.{CachedPages}
use Rattle.svr_store.specs.Caching.{KeepsPages}

pub keeps-none : (pages : CachedPages) → KeepsPages [] pages pages
keeps-none pages = record { capacity = refl; cached = λ at there. inl there }

-- the same pages are cached
pub keeps-same : (reads : List ℕ) (before after : CachedPages) → after ≡ before → KeepsPages reads before after
keeps-same reads before after same =
    subst (KeepsPages reads before) (sym same) (record { capacity = refl; cached = λ at there. inl there })

pub keeps-on : (reads more : List ℕ) (before between after : CachedPages) → KeepsPages reads before between → KeepsPages more between after
    → KeepsPages (reads ++ more) before after
keeps-on reads more before between after first then = record {
  capacity = then.capacity ∙ first.capacity;
  cached = λ at there. elim (then.cached at there) [
    | inl was ↦ elim (first.cached at was) [
      | inl cached ↦ inl cached
      | inr read ↦ inr (Contains-append_left reads more at read)
    ]
    | inr read ↦ inr (Contains-append_right reads more at read)
  ];
}
