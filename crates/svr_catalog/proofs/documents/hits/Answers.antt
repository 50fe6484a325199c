use Rattle.std.proofs.Common.{◌<◌, ◌≤◌, map, ap, subst, sym, ◌∙◌}
use Rattle.std.specs.List.{All}
use Rattle.std.proofs.lemmas.List.Elements.{All-map}
use Rattle.svr_listing.specs.Methods.{greatest}
use Rattle.svr_num.specs.declared.hit.Hit.{Hit}
use Rattle.svr_catalog.specs.Layout.{documents_from, hit_shown}
use Rattle.svr_catalog.proofs.Shown.{hits-shown}
use Rattle.svr_catalog.proofs.documents.hits.Goals as goal

abbrev within : Hit → Type 0
within d = d.id < 9223372036854775808

abbrev low : Hit → Type 0
low d = d.score ≤ greatest

pub returns-clause-are : goal.returns-clause-are
returns-clause-are c =
    c.in_ok-hits.ensures
    ∙ ap (map hit_shown) c.deref.ensures.value
    ∙ hits-shown c.in_ok-documents.documents.items (documents_from c.args.schema.now c.args.tables.now) c.in_ok-documents.ensures.shows

pub returns-clause-ids : goal.returns-clause-ids
returns-clause-ids c =
    let is = c.in_ok-hits.ensures ∙ ap (map hit_shown) c.deref.ensures.value in
    subst (All within) (sym is) (All-map within hit_shown c.in_ok-documents.documents.items c.in_ok-documents.ensures.ids)

pub returns-clause-scores : goal.returns-clause-scores
returns-clause-scores c =
    let is = c.in_ok-hits.ensures ∙ ap (map hit_shown) c.deref.ensures.value in
    subst (All low) (sym is) (All-map low hit_shown c.in_ok-documents.documents.items c.in_ok-documents.ensures.scores)
