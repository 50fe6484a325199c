use Rattle.std.proofs.Common.{◌≡◌, ◌+◌, ◌++◌, ◌∷◌, [], Some, None, drop, length, map, option_map, sym, ap, ◌∙◌, append-nil, arith}
use Rattle.std.proofs.lemmas.List.{length-map}
use Rattle.csv.specs.Records.{fields_of}
use Rattle.svr_csvload.specs.Blocks.{cells_in, field_cell, in_front}
use Rattle.svr_csvload.proofs.Fields.{IsSome-field, behind, behind-more, behind-none, behind-start, cells_in-at, cells_in-last}
use Rattle.svr_csvload.proofs.Fields.{cells_in-lengths, kind_in}
use Rattle.svr_csvload.proofs.record.read_cells.Goals as goal
use Rattle.svr_csvload.proofs.record.read_cells.Goals.{In_ok-cell}

pub returns-then-len-columns : goal.returns-then-len-columns
returns-then-len-columns c =
    let many : length (map kind_in c.args.columns.now) ≡ length c.args.columns.now = length-map c.args.columns.now kind_in in
    cells_in-lengths (map kind_in c.args.columns.now) (fields_of c.args.fields.now) (λ e. omega (arith, e, many))

pub loop-place-init : goal.loop-place-init
loop-place-init c = rw c.in_ok-cells.ensures.items (behind-start _)

pub unwrap-field-requires : goal.unwrap-field-requires
unwrap-field-requires c =
    IsSome-field (λ s. s.now) c.get.result (fields_of c.args.fields.now) c.loop-place.place c.get.ensures.value (omega arith)

-- what the field at the place adds to the cells of those before it
added : (c : In_ok-cell) → cells_in (map kind_in c.args.columns.now) (fields_of c.args.fields.now)
    ≡ behind c.loop-place.cells.items (in_front (field_cell c.index-columns-place.result.kind c.unwrap-field.result.now)
    (cells_in (drop (c.loop-place.place + 1) (map kind_in c.args.columns.now))
    (drop (c.loop-place.place + 1) (fields_of c.args.fields.now))))
added c =
    let value = sym (ap (option_map (λ s. s.now)) c.unwrap-field.ensures) ∙ c.get.ensures.value in
    c.loop-place.invariant
    ∙ ap (behind c.loop-place.cells.items) (cells_in-at c.args.columns.now (fields_of c.args.fields.now) c.loop-place.place
    c.index-columns-place.result c.unwrap-field.result.now (omega arith) c.index-columns-place.is value)

pub returns-in_default : goal.returns-in_default
returns-in_default c =
    let no : field_cell c.index-columns-place.result.kind c.unwrap-field.result.now ≡ None = cc c.in_ok-cell.ensures in
    behind-none c.loop-place.cells.items _ _ no ∙ sym (added (goal.at.returns-in_default c).In_ok-cell)

pub loop-place-preserved : goal.loop-place-preserved
loop-place-preserved c =
    let one : field_cell c.index-columns-place.result.kind c.unwrap-field.result.now ≡ Some c.in-Some.cell = cc c.in_ok-cell.ensures in
    let items : c.push.new.self.items ≡ c.loop-place.cells.items ++ (c.in-Some.cell ∷ []) = c.in_ok-push.ensures.items in
    rw items (rw one at (added (goal.at.loop-place-preserved c).In_ok-cell) ∙ behind-more _ _ _)

pub returns : goal.returns
returns c =
    let many : length (map kind_in c.args.columns.now) ≡ length c.args.columns.now = length-map c.args.columns.now kind_in in
    let last = cells_in-last (map kind_in c.args.columns.now) (fields_of c.args.fields.now) c.loop-place.place (omega arith)
    (omega arith) in
    sym (c.loop-place.invariant ∙ ap (behind c.loop-place.cells.items) last ∙ ap Some (append-nil c.loop-place.cells.items))
