use Rattle.std.proofs.Common.{◌≡◌, ◌+◌, ℕ, Option, sym, ap, subst, ◌∙◌}
use Rattle.std.specs.Option.{ForSome, option_and_then, option_map}
use Rattle.svr_catalog.specs.Stands.{CatalogValue, Stands}
use Rattle.svr_lists.specs.Lists.{last_in}
use Rattle.svr_core.specs.Edits.{relisted}
use Rattle.svr_core.proofs.served.Core.take_edit.Goals as goal

pub returns-clause-made : goal.returns-clause-made
returns-clause-made c = λ s serves ready.
    let here = rw (← c.self.view_is) at serves in
    let taken = c.take.ensures.value in
    let there = c.in_ok-catalog.ensures.follows s (record {
      catalog = ap (option_map (λ (v : CatalogValue). v.catalog)) taken ∙ here.catalog;
      last = ap (option_and_then (λ (v : CatalogValue). last_in v.lists)) taken ∙ here.last;
      lists = λ lawful. subst (λ (o : Option CatalogValue). ForSome o (λ v. Stands v s.listed)) (sym taken) (here.lists lawful);
    }) ready in
    record {
      catalog = sym there.catalog;
      changes = ap (λ (n : ℕ). n + c.counted-count.result) here.changes ∙ ap (λ (n : ℕ). s.changes + n) c.counted-count.ensures;
      last = there.last;
      lists = λ lawful v is.
          let same : c.in_ok-catalog.catalog ≡ v = cc in
          subst (λ (w : CatalogValue). Stands w (relisted s.catalog s.listed c.args.edit)) same (there.lists lawful);
    }
