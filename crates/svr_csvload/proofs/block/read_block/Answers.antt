use Rattle.std.proofs.Common.{◌≡◌, ◌≤◌, [], true, false, length, sym, ap, ◌∙◌, rules, arith}
use Rattle.csv.specs.Reading.{default_config, records, strip_bom}
use Rattle.std.proofs.lemmas.List.Elements.{All-nil}
use Rattle.svr_rows.specs.Rows.{IsRowOf, kinds_of}
use Rattle.svr_csvload.specs.Ahead.{ahead}
use Rattle.svr_csvload.proofs.Between.{few_records_of}
use Rattle.svr_csvload.proofs.Turns.{rows_in_records-end}
use Rattle.svr_csvload.proofs.block.read_block.Goals as goal
use Rattle.svr_csvload.proofs.block.read_block.Goals.{else-header-via-then-header+in_ok-read_next+else-not-branch}
use Rattle.svr_csvload.proofs.block.read_block.Goals.{else-header-via-else-header}

pub returns-then-not-branch-clause-rows : goal.returns-then-not-branch-clause-rows
returns-then-not-branch-clause-rows c =
    let no : c.in_ok-read_next.field-0 ≡ false = search rules in
    let got = rw no at c.in_ok-read_next.ensures in
    let none : records default_config (strip_bom c.args.bytes.now) ≡ [] = sym c.block_reader-reader.ensures.records ∙ got in
    let kinds = kinds_of c.args.table.now in
    rw (c.if-header.true, none, c.new-then-not-branch.ensures.items)
    (record { all = rows_in_records-end kinds; fit = All-nil (IsRowOf kinds); few = omega arith })

pub read_rows-requires-clause-few : goal.read_rows-requires-clause-few
read_rows-requires-clause-few c =
    let all : length (ahead c.block_reader-reader.result) ≤ 8388608 =
    rw c.block_reader-reader.ensures.records (omega (arith, few_records_of default_config c.args.bytes.now, c.requires.few)) in
    elim c.else-header.branch [
      | else-header-via-then-header+in_ok-read_next+else-not-branch w ↦
          let yes : w.in_ok-read_next.field-0 ≡ true = search rules in
          let got = rw yes at w.in_ok-read_next.ensures in
          rw w.reader-is (omega (arith, all, ap length got.1))
      | else-header-via-else-header w ↦ rw w.reader-is all
    ]
