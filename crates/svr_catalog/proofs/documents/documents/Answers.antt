use Rattle.std.proofs.Common.{◌<◌, ◌≤◌, ℕ, Option, Some, ◌∷◌, ap, sym, subst, ◌∙◌}
use Rattle.std.specs.List.{All}
use Rattle.std.specs.Option.{is_some}
use Rattle.std.proofs.lemmas.List.Elements.{All-nil, All-push}
use Rattle.svr_listing.specs.Methods.{greatest}
use Rattle.svr_lists.specs.declared.publish.DocumentText.{DocumentText}
use Rattle.svr_rows.specs.Rows.{id_of, rows_above, rows_in}
use Rattle.svr_view.proofs.Found.{text_within}
use Rattle.svr_view.specs.View.{score_in}
use Rattle.svr_catalog.proofs.Shown.{kept-next, shows-all, shows-more, shows-none, shows-row}
use Rattle.svr_catalog.proofs.documents.documents.Goals as goal

abbrev within : DocumentText → Type 0
within d = d.id < 9223372036854775808

abbrev low : DocumentText → Type 0
low d = d.score ≤ greatest

pub loop-row-init : goal.loop-row-init
loop-row-init c = (
  shows-none c.args.schema.now c.args.tables.now c.new-documents.result.items c.new-documents.ensures.items,
  subst (All within) (sym c.new-documents.ensures.items) (All-nil within),
  subst (All low) (sym c.new-documents.ensures.items) (All-nil low),
)

pub next_row-requires : goal.next_row-requires
next_row-requires c = text_within c.args.schema.now c.args.tables.now c.requires.tables

pub document_text-document-requires-clause-scored : goal.document_text-document-requires-clause-scored
document_text-document-requires-clause-scored c =
    ap (λ (o : Option ℕ). is_some o)
    (kept-next c.args.schema.now c.args.tables.now c.args.scores.now c.requires.tables c.requires.scores c.loop-row.after c.in-Some.row.now _
    c.in-Some.ensures.walk)

pub loop-row-preserved : goal.loop-row-preserved
loop-row-preserved c =
    let s = c.args.schema.now in
    let tables = c.args.tables.now in
    let rows = rows_in tables s.text_table in
    let row = c.in-Some.row.now in
    let d = c.document_text-document.result in
    let is = c.document_text-document.ensures in
    let now = c.in_ok-push.ensures.items in
    let kept = kept-next s tables c.args.scores.now c.requires.tables c.requires.scores c.loop-row.after row _ c.in-Some.ensures.walk in (
      shows-more s tables c.loop-row.documents.items c.push.new.self.items d row (rows_above rows c.loop-row.after)
          (rows_above rows (Some d.id)) now
          (c.in-Some.ensures.walk ∙ ap (λ (n : ℕ). row ∷ rows_above rows (Some n)) (sym is.id))
          (shows-row s tables d row (score_in c.args.scores.now (id_of row)) is.id is.score kept is.text) c.loop-row.invariant.0,
      subst (All within) (sym now) (All-push within c.loop-row.documents.items d c.loop-row.invariant.1 is.within),
      subst (All low) (sym now) (All-push low c.loop-row.documents.items d c.loop-row.invariant.2 is.low),
    )

pub returns-clause-shows : goal.returns-clause-shows
returns-clause-shows c =
    shows-all c.args.schema.now c.args.tables.now c.loop-row.documents.items _ c.in_default.ensures.walk c.loop-row.invariant.0
