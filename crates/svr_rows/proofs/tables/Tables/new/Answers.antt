use Rattle.std.proofs.Common.{◌≡◌, map, ap, sym, ◌∙◌, subst}
use Rattle.std.specs.List.{All}
use Rattle.std.proofs.lemmas.List.{take_all}
use Rattle.svr_rows.specs.Rows.{no_rows}
use Rattle.svr_rows.specs.Kept.{CountsTexts, IsTableRows}
use Rattle.svr_rows.proofs.Sums.{CountsTexts-no_rows, IsTableRows-all_no_rows}
use Rattle.svr_rows.proofs.tables.Tables.new.Goals as goal

pub invariant_of-result : goal.invariant_of-result
invariant_of-result c =
    let tables = c.args.schema.now.tables in
    let now : c.loop-table.tables.items ≡ map no_rows tables =
    c.loop-table.invariant
    ∙ ap (map no_rows) (take_all c.loop-table.table-index c.as_slice-table-items.result.now c.loop-table-test.false
    ∙ c.as_slice-table-items.ensures) in (
      subst (CountsTexts 0) (sym now) (CountsTexts-no_rows tables),
      subst (All IsTableRows) (sym now)
          (IsTableRows-all_no_rows tables c.requires.tables),
    )
