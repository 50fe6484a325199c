use Rattle.std.proofs.Common.{◌<◌, length, option_map, sym, subst, ◌∙◌}
use Rattle.svr_rows.specs.Changes.{table_of}
use Rattle.svr_view.specs.Layout.{AllCounted}
use Rattle.svr_view.proofs.Found.{HasId-read, RowHasId-accepted}
use Rattle.svr_view.proofs.Noted.{IsExchange, counted-note-moves, counted-note-stands, document-note-moves, document-note-stands, told_before}
use Rattle.svr_view.proofs.Recounted.{AllCounted-stands, IsRoomy-stands, place_changed}
use Rattle.svr_view.proofs.view.ScoreView.note.Goals as goal

pub id_changed-id-requires : goal.id_changed-id-requires
id_changed-id-requires c = RowHasId-accepted c.args.tables.now c.args.change.now c.requires.tables.rows c.requires.accepted

pub note_document-requires-clause-has_id : goal.note_document-requires-clause-has_id
note_document-requires-clause-has_id c =
    HasId-read (λ row. row.now) c.row_after.result c.args.tables.now c.args.change.now c.requires.tables.rows c.requires.accepted
    c.row_after.ensures

pub returns-then-table-schema-clause-stands : goal.returns-then-table-schema-clause-stands
returns-then-table-schema-clause-stands c =
    document-note-stands c.args.schema.now c.args.tables.now c.args.change.now c.requires.tables c.requires.accepted c.args.self.now
    c.note_document.new.self c.requires.stands c.table_changed-table.result c.id_changed-id.result
    (option_map (λ row. row.now) c.row_after.result) (sym c.table_changed-table.ensures ∙ c.if-table-schema.true) c.id_changed-id.ensures
    c.row_after.ensures c.note_document.result c.note_document.ensures.groups c.note_document.ensures.notes

pub returns-then-table-schema-clause-moves : goal.returns-then-table-schema-clause-moves
returns-then-table-schema-clause-moves c =
    document-note-moves c.args.schema.now c.args.tables.now c.args.change.now c.requires.tables c.requires.accepted c.args.self.now
    c.note_document.new.self c.requires.stands c.table_changed-table.result c.id_changed-id.result
    (option_map (λ row. row.now) c.row_after.result) (sym c.table_changed-table.ensures ∙ c.if-table-schema.true) c.id_changed-id.ensures
    c.row_after.ensures c.note_document.result c.note_document.ensures.groups c.note_document.ensures.notes

pub row-old-requires : goal.row-old-requires
row-old-requires c =
    subst (λ n. n < length c.args.tables.now) (sym c.table_changed-table.ensures)
    (place_changed c.args.tables.now c.args.change.now c.requires.accepted)

pub note_counted-requires-clause-few : goal.note_counted-requires-clause-few
note_counted-requires-clause-few c =
    IsRoomy-stands c.args.schema.now c.args.tables.now c.args.self.now c.requires.tables.rows c.requires.stands

exchange : (c : goal.After-row_after-2)
    → IsExchange c.args.tables.now c.args.change.now c.table_changed-table.result c.id_changed-id.result
    (option_map (λ row. row.now) c.row-old.result) (option_map (λ row. row.now) c.row_after-2.result)
exchange c = record {
  table_is = c.table_changed-table.ensures;
  id_is = c.id_changed-id.ensures;
  old_is = c.row-old.ensures.value;
  new_is = c.row_after-2.ensures;
}

pub note_counted-requires-clause-there : goal.note_counted-requires-clause-there
note_counted-requires-clause-there c =
    let components = c.args.schema.now.components in
    let groups = c.args.self.now.groups in
    subst (λ at. AllCounted components at (option_map (λ row. row.now) c.row-old.result) groups) (sym c.table_changed-table.ensures)
    (subst (λ o. AllCounted components (table_of c.args.change.now) o groups)
    (sym (told_before c.args.tables.now c.args.change.now _ _ _ _ (exchange c)))
    (AllCounted-stands c.args.tables.now c.args.change.now c.requires.tables.rows c.requires.accepted c.args.schema.now c.args.self.now
    c.requires.stands))

exchanged : (c : goal.After-note_counted)
    → IsExchange c.args.tables.now c.args.change.now c.table_changed-table.result c.id_changed-id.result
    (option_map (λ row. row.now) c.row-old.result) (option_map (λ row. row.now) c.row_after-2.result)
exchanged c = record {
  table_is = c.table_changed-table.ensures;
  id_is = c.id_changed-id.ensures;
  old_is = c.row-old.ensures.value;
  new_is = c.row_after-2.ensures;
}

pub returns-clause-stands : goal.returns-clause-stands
returns-clause-stands c =
    counted-note-stands c.args.schema.now c.args.tables.now c.args.change.now c.requires.tables c.requires.accepted c.args.self.now
    c.note_counted.new.self c.requires.stands c.table_changed-table.result c.id_changed-id.result
    (option_map (λ row. row.now) c.row-old.result) (option_map (λ row. row.now) c.row_after-2.result) (exchanged c)
    c.note_counted.result c.if-table-schema.false c.note_counted.ensures.groups c.note_counted.ensures.notes

pub returns-clause-moves : goal.returns-clause-moves
returns-clause-moves c =
    counted-note-moves c.args.schema.now c.args.tables.now c.args.change.now c.requires.tables c.requires.accepted c.args.self.now
    c.note_counted.new.self c.requires.stands c.table_changed-table.result c.id_changed-id.result
    (option_map (λ row. row.now) c.row-old.result) (option_map (λ row. row.now) c.row_after-2.result) (exchanged c)
    c.note_counted.result c.if-table-schema.false c.note_counted.ensures.groups c.note_counted.ensures.notes
