-- What is planned for the catalog that is set.
use Rattle.std.proofs.Common.{◌≡◌, List, ℕ, Option, Some, Result, sym, ap, subst}
use Rattle.svr_request.specs.declared.refusal.Refusal.{Refusal}
use Rattle.svr_request.specs.Requests.{Wanted}
use Rattle.svr_record.specs.declared.record.Record.{Record}
use Rattle.svr_core.specs.declared.plan.Edit.{Edit}
use Rattle.svr_core.specs.declared.plan.Plan.{Plan}
use Rattle.svr_core.specs.Outcomes.{Outcome, entry_outcome, wanted_outcome}
use Rattle.std.specs.Option.{option_map}
use Rattle.svr_catalog.specs.Catalog.{Catalog}
use Rattle.svr_catalog.specs.Stands.{CatalogValue}
use Rattle.svr_core.specs.Kept.{CoreValue, catalog_of}
use Rattle.svr_core.specs.Steps.{Edits}
use Rattle.svr_core.specs.Plans.{Plans}

pub Plans-set : (w : Wanted) (block : List ℕ) {set : Option Catalog} {now : Catalog} {o : Outcome} {r : Result Plan Refusal}
    → set ≡ Some now → o ≡ wanted_outcome (Some now) w block → Plans o (Some now) r → Plans (wanted_outcome set w block) set r
Plans-set w block {set} {now} {o} {r} is asked h =
    subst (λ s. Plans (wanted_outcome s w block) s r) (sym is) (subst (λ p. Plans p (Some now) r) asked h)

pub Edits-set : (e : Record) {set : Option Catalog} {now : Catalog} {o : Outcome} {r : Result Edit Refusal} → set ≡ Some now
    → o ≡ entry_outcome (Some now) e → Edits o (Some now) r → Edits (entry_outcome set e) set r
Edits-set e {set} {now} {o} {r} is read h =
    subst (λ s. Edits (entry_outcome s e) s r) (sym is) (subst (λ p. Edits p (Some now) r) read h)

-- the catalog of what is kept
pub catalog_set : (core : CoreValue) (v : CatalogValue) → core.kept ≡ Some v → catalog_of core ≡ Some v.catalog
catalog_set core v kept = ap (option_map (λ (w : CatalogValue). w.catalog)) kept
