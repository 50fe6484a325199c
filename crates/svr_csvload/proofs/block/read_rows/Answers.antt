use Rattle.std.proofs.Common.{◌≡◌, ◌++◌, ◌+◌, ◌∷◌, [], length, length-append, map, Some, None, Ok, Err, ap, ◌∙◌, append-nil, arith}
use Rattle.csv.specs.Records.{fields_of}
use Rattle.svr_csvload.specs.Ahead.{ahead}
use Rattle.svr_csvload.specs.Blocks.{record_row, rows_in_records}
use Rattle.svr_csvload.proofs.Fields.{kind_in}
use Rattle.svr_csvload.proofs.Turns.{after, after-after, rows_in_records-bad, rows_in_records-end, rows_in_records-fit, rows_in_records-row}
use Rattle.svr_csvload.proofs.block.read_rows.Goals as goal

pub loop-rows-preserved : goal.loop-rows-preserved
loop-rows-preserved c =
    let kinds = map kind_in c.args.columns.now in
    let got = rw c.if-branch.true at c.in_ok-read_next.ensures in
    let row : record_row kinds (fields_of c.read_next.new.into) ≡ Some c.in-Some.row = cc c.in_ok-row.ensures in
    let items : c.push.new.self.items ≡ c.loop-rows.rows.items ++ (c.in-Some.row ∷ []) = c.in_ok-push-in-Some.ensures.items in
    let step : rows_in_records kinds (ahead c.loop-rows.reader)
    ≡ after (c.in-Some.row ∷ []) (rows_in_records kinds (ahead c.read_next.new.reader)) =
    rw got.1 (rows_in_records-row kinds _ _ _ row) in
    record {
      between = got.0;
      made = rw items (c.loop-rows.invariant.made ∙ ap (after c.loop-rows.rows.items) step ∙ after-after _ _ _);
      few = rw items (simp length-append (omega (arith, ap length got.1)));
    }

pub returns-in-None-clause-number : goal.returns-in-None-clause-number
returns-in-None-clause-number c = λ n e.
    let kinds = map kind_in c.args.columns.now in
    let got = rw c.if-branch.true at c.in_ok-read_next.ensures in
    let bad : record_row kinds (fields_of c.read_next.new.into) ≡ None = cc c.in_ok-row.ensures in
    let step : rows_in_records kinds (ahead c.loop-rows.reader) ≡ Err 1 = rw got.1 (rows_in_records-bad kinds _ _ bad) in
    let same : c.len.result + 1 ≡ n = cc in
    c.loop-rows.invariant.made ∙ ap (after c.loop-rows.rows.items) step ∙ ap Err (omega arith)

pub returns-clause-rows : goal.returns-clause-rows
returns-clause-rows c =
    let kinds = map kind_in c.args.columns.now in
    let rows = c.loop-rows.rows.items in
    let got = rw c.if-branch.false at c.in_ok-read_next.ensures in
    let none : rows_in_records kinds (ahead c.loop-rows.reader) ≡ Ok [] = rw got (rows_in_records-end kinds) in
    let all = c.loop-rows.invariant.made ∙ ap (after rows) none ∙ ap Ok (append-nil rows) in
    record {
      all = all;
      fit = rows_in_records-fit kinds (ahead c.args.reader.now) rows all;
      few = omega (arith, c.loop-rows.invariant.few);
    }
